use Rattle.std.proofs.Common.{◌≡◌, length, true, false, Ok, Err, sym, subst, ◌∙◌, refl, arith}
use Rattle.sg_alloc.specs.declared.maps.Maps.{Maps}
use Rattle.sg_actions.specs.Engine.{Extent}
use Rattle.sg_actions.specs.Taken.{IsWithin}
use Rattle.sg_actions.proofs.Accounting.{within_as}
use Rattle.sg_unread.specs.Unread.{LooksOn}
use Rattle.sg_regained.specs.Regained.{HasStopped}
use Rattle.sg_regained.proofs.Over.{over_sum_ok, over_sum_err}
use Rattle.sg_regained.proofs.Reaching.{reached_as, reached_at, counts_at, no_table}
use Rattle.sg_regained.proofs.Said.{said_seen}
use Rattle.sg_regained.proofs.regaining.reach_all.Goals as goal

-- WHERE IT IS KNOWN WHAT IS TAKEN

pub of_parts-requires-clause-said : goal.of_parts-requires-clause-said
of_parts-requires-clause-said g c = λ told'.
    let i = c.into_parts-engine.ensures in
    let p = c.into_parts-engine.result in
    let r = c.reach_lent-engine.result in
    let h = reached_as r.breaks r.breaks r.taken (Ok c.in-Ok.taken) refl (sym c.in-Ok.is) (reached_at {E = g.row.E.Denot} {recovers = g.E.Engine.recovers} g.E.Engine.view g.E.Engine.means c.args.acts.engine p.engine
    (length c.args.acts.maps.pages) p.count (length c.args.acts.maps.bands) p.bands i.engine i.count i.bands c.reach_lent-engine.ensures.reached) in
    said_seen c.in-Ok.taken.pages (length c.args.acts.maps.pages) h.long (g.met.E.Engine.some _ ((h.looks no_table).told told')) h.looks (λ w. g.met.E.Engine.told_whole _ w)
    (λ t from m told. g.met.E.Engine.now_is _ t from m told) (λ t from m told. g.met.E.Engine.now_is _ t from m told) h.bytes told'

pub of_parts-requires-clause-within : goal.of_parts-requires-clause-within
of_parts-requires-clause-within g c = λ told'.
    let i = c.into_parts-engine.ensures in
    let p = c.into_parts-engine.result in
    let r = c.reach_lent-engine.result in
    let h = reached_as r.breaks r.breaks r.taken (Ok c.in-Ok.taken) refl (sym c.in-Ok.is) (reached_at {E = g.row.E.Denot} {recovers = g.E.Engine.recovers} g.E.Engine.view g.E.Engine.means c.args.acts.engine p.engine
    (length c.args.acts.maps.pages) p.count (length c.args.acts.maps.bands) p.bands i.engine i.count i.bands c.reach_lent-engine.ensures.reached) in
    let l = h.looks no_table in
    subst (λ (x : Extent). IsWithin c.in-Ok.taken.pages c.in-Ok.taken.bands x) (sym l.extent) (within_as h.long h.wide (c.args.acts.within (l.told told')))

pub of_parts-requires-clause-unbroken : goal.of_parts-requires-clause-unbroken
of_parts-requires-clause-unbroken g c = λ told'.
    let i = c.into_parts-engine.ensures in
    let p = c.into_parts-engine.result in
    let r = c.reach_lent-engine.result in
    let h = reached_as r.breaks r.breaks r.taken (Ok c.in-Ok.taken) refl (sym c.in-Ok.is) (reached_at {E = g.row.E.Denot} {recovers = g.E.Engine.recovers} g.E.Engine.view g.E.Engine.means c.args.acts.engine p.engine
    (length c.args.acts.maps.pages) p.count (length c.args.acts.maps.bands) p.bands i.engine i.count i.bands c.reach_lent-engine.ensures.reached) in
    let told = (h.looks no_table).told told' in
    let none = g.met.E.Engine.unfailed _ (g.met.E.Engine.told_whole _ told) in
    let quiet = h.counts.quiet in
    c.more_breaks-breaks.ensures.same (omega (arith, none, quiet)) ∙ (i.breaks ∙ c.args.acts.unbroken told)

pub returns-in-Ok-clause-looks : goal.returns-in-Ok-clause-looks
returns-in-Ok-clause-looks g c = λ t.
    let i = c.into_parts-engine.ensures in
    let p = c.into_parts-engine.result in
    let r = c.reach_lent-engine.result in
    let h = reached_as r.breaks r.breaks r.taken (Ok c.in-Ok.taken) refl (sym c.in-Ok.is) (reached_at {E = g.row.E.Denot} {recovers = g.E.Engine.recovers} g.E.Engine.view g.E.Engine.means c.args.acts.engine p.engine
    (length c.args.acts.maps.pages) p.count (length c.args.acts.maps.bands) p.bands i.engine i.count i.bands c.reach_lent-engine.ensures.reached) in
    subst (λ e. LooksOn g.E.Engine.recovers t (g.E.Engine.view c.args.acts.engine) (g.E.Engine.view e) (g.E.Engine.means c.args.acts.engine) (g.E.Engine.means e)) (sym c.of_parts.ensures.engine) (h.looks t)

pub returns-in-Ok-clause-counts : goal.returns-in-Ok-clause-counts
returns-in-Ok-clause-counts g c =
    let i = c.into_parts-engine.ensures in
    let p = c.into_parts-engine.result in
    let r = c.reach_lent-engine.result in
    let h = reached_as r.breaks r.breaks r.taken (Ok c.in-Ok.taken) refl (sym c.in-Ok.is) (reached_at {E = g.row.E.Denot} {recovers = g.E.Engine.recovers} g.E.Engine.view g.E.Engine.means c.args.acts.engine p.engine
    (length c.args.acts.maps.pages) p.count (length c.args.acts.maps.bands) p.bands i.engine i.count i.bands c.reach_lent-engine.ensures.reached) in
    counts_at g.E.Engine.view r.engine c.of_parts.result.engine c.more_breaks-breaks.result c.of_parts.result.breaks (Ok c.of_parts.result) c.of_parts.ensures.engine c.of_parts.ensures.breaks
    (over_sum_ok {U = Maps} c.of_parts.result c.args.acts.breaks c.more_breaks-breaks.result (h.looks no_table).faults (λ z. c.more_breaks-breaks.ensures.same z ∙ i.breaks) h.counts)

-- WHERE IT ISN'T

pub of_parts-acts-requires-clause-said : goal.of_parts-acts-requires-clause-said
of_parts-acts-requires-clause-said g c = λ told'.
    let i = c.into_parts-engine.ensures in
    let p = c.into_parts-engine.result in
    let r = c.reach_lent-engine.result in
    let h = reached_as r.breaks r.breaks r.taken (Err c.in-Err.why) refl (sym c.in-Err.is) (reached_at {E = g.row.E.Denot} {recovers = g.E.Engine.recovers} g.E.Engine.view g.E.Engine.means c.args.acts.engine p.engine
    (length c.args.acts.maps.pages) p.count (length c.args.acts.maps.bands) p.bands i.engine i.count i.bands c.reach_lent-engine.ensures.reached) in
    absurd ((h.stopped no_table).silent told')

pub of_parts-acts-requires-clause-within : goal.of_parts-acts-requires-clause-within
of_parts-acts-requires-clause-within g c = λ told'.
    let i = c.into_parts-engine.ensures in
    let p = c.into_parts-engine.result in
    let r = c.reach_lent-engine.result in
    let h = reached_as r.breaks r.breaks r.taken (Err c.in-Err.why) refl (sym c.in-Err.is) (reached_at {E = g.row.E.Denot} {recovers = g.E.Engine.recovers} g.E.Engine.view g.E.Engine.means c.args.acts.engine p.engine
    (length c.args.acts.maps.pages) p.count (length c.args.acts.maps.bands) p.bands i.engine i.count i.bands c.reach_lent-engine.ensures.reached) in
    absurd ((h.stopped no_table).silent told')

pub of_parts-acts-requires-clause-unbroken : goal.of_parts-acts-requires-clause-unbroken
of_parts-acts-requires-clause-unbroken g c = λ told'.
    let i = c.into_parts-engine.ensures in
    let p = c.into_parts-engine.result in
    let r = c.reach_lent-engine.result in
    let h = reached_as r.breaks r.breaks r.taken (Err c.in-Err.why) refl (sym c.in-Err.is) (reached_at {E = g.row.E.Denot} {recovers = g.E.Engine.recovers} g.E.Engine.view g.E.Engine.means c.args.acts.engine p.engine
    (length c.args.acts.maps.pages) p.count (length c.args.acts.maps.bands) p.bands i.engine i.count i.bands c.reach_lent-engine.ensures.reached) in
    absurd ((h.stopped no_table).silent told')

pub returns-in-Err-clause-stopped : goal.returns-in-Err-clause-stopped
returns-in-Err-clause-stopped g c = λ t.
    let i = c.into_parts-engine.ensures in
    let p = c.into_parts-engine.result in
    let r = c.reach_lent-engine.result in
    let h = reached_as r.breaks r.breaks r.taken (Err c.in-Err.why) refl (sym c.in-Err.is) (reached_at {E = g.row.E.Denot} {recovers = g.E.Engine.recovers} g.E.Engine.view g.E.Engine.means c.args.acts.engine p.engine
    (length c.args.acts.maps.pages) p.count (length c.args.acts.maps.bands) p.bands i.engine i.count i.bands c.reach_lent-engine.ensures.reached) in
    subst (λ e. HasStopped g.E.Engine.recovers t (g.E.Engine.view c.args.acts.engine) (g.E.Engine.view e) (g.E.Engine.means c.args.acts.engine)) (sym c.of_parts-acts.ensures.engine) (h.stopped t)

pub returns-in-Err-clause-failed : goal.returns-in-Err-clause-failed
returns-in-Err-clause-failed g c =
    let i = c.into_parts-engine.ensures in
    let p = c.into_parts-engine.result in
    let r = c.reach_lent-engine.result in
    let h = reached_as r.breaks r.breaks r.taken (Err c.in-Err.why) refl (sym c.in-Err.is) (reached_at {E = g.row.E.Denot} {recovers = g.E.Engine.recovers} g.E.Engine.view g.E.Engine.means c.args.acts.engine p.engine
    (length c.args.acts.maps.pages) p.count (length c.args.acts.maps.bands) p.bands i.engine i.count i.bands c.reach_lent-engine.ensures.reached) in
    let m = c.more_breaks-breaks.ensures in
    let same = i.breaks in
    counts_at g.E.Engine.view r.engine c.of_parts-acts.result.engine c.more_breaks-breaks.result c.of_parts-acts.result.breaks (Err c.in-Err.why) c.of_parts-acts.ensures.engine c.of_parts-acts.ensures.breaks
    (over_sum_err {U = Maps} c.in-Err.why c.args.acts.breaks c.more_breaks-breaks.result (h.stopped no_table).faults (let l = m.later in omega (arith, l, same)) (λ few. (let e = m.exact few in omega (arith, e, same))) h.counts)

pub of_parts-requires-clause-goes_on : goal.of_parts-requires-clause-goes_on
of_parts-requires-clause-goes_on g c = λ opens. absurd (let bad : false ≡ true = opens in cc)

pub of_parts-acts-requires-clause-goes_on : goal.of_parts-acts-requires-clause-goes_on
of_parts-acts-requires-clause-goes_on g c = λ opens. absurd (let bad : false ≡ true = opens in cc)
