use mathlib.Core.Logic.{∥∥₁_elim, ∥∥₁_prop}
use Rattle.std.proofs.Common.{Some, true, ℕ, List, length, take, drop, refl, sym, ap, ◌∙◌, arith, inr, ◌≡◌, false}
use Rattle.sg_action.specs.States.{State}
use Rattle.sg_record.specs.Changes.{BandOp}
use Rattle.sg_record.specs.Changes.Change.{SegOp}
use Rattle.sg_record.specs.Shown.{shown_op}
use Rattle.sg_actions.specs.Engine.{led}
use Rattle.sg_actions.specs.Painting.{op_with}
use Rattle.sg_actions.specs.Steps.{opened}
use Rattle.sg_actions.specs.Onward.{later_same, later_on}
use Rattle.sg_actions.proofs.Accounting.{within_by}
use Rattle.sg_actions.proofs.Banded.{bands_paint}
use Rattle.sg_actions.proofs.Flags.{and_left, has_there}
use Rattle.sg_actions.proofs.Calling.{later_look, later_log_as, same_any, said_any, said_log, made_log}
use Rattle.sg_actions.proofs.Led.{by_later, made_after, made_as}
use Rattle.sg_actions.proofs.Painted.{shows_paint, stood_some, paint_on, paint_same, known_by}
use Rattle.sg_actions.proofs.Untold.{there_below, band_few}
use Rattle.sg_actions.proofs.Ranged.{paint_in}
use Rattle.sg_actions.proofs.PuttingBack.{stood_long}
use Rattle.sg_space.specs.declared.space.SpaceFault.TheVariants.{Disk, LogEnd}
use Rattle.sg_actions.proofs.GoingOn.{can_look, formed_change, can_change_by}
use Rattle.std.proofs.lemmas.Result.{err_from_is_err_and}
use Rattle.sg_actions.proofs.Counted.{acts_err, shown_counts, shown_break}
use Rattle.sg_actions.proofs.Counting.{looked_none, looked_engine}
use Rattle.sg_actions.proofs.acts.ActsPageSpace.paint_band.Goals as goal

pub log_by-requires-clause-by : goal.log_by-requires-clause-by
log_by-requires-clause-by g c = λ told. ∥∥₁_elim (c.requires.means (c.in_ok-load_band.ensures.rests.counts.told told)) ∥∥₁_prop (λ x. ∣ (x.0, c.in_ok-load_band.ensures.means _ x.0 x.1.stands) ∣₁)

pub log_by-requires-clause-can : goal.log_by-requires-clause-can
log_by-requires-clause-can g c = λ told. let told0 = c.in_ok-load_band.ensures.rests.counts.told told in
    let below = there_below c.args.self.now.maps.bands c.args.self.now.unfreed.bands c.args.b.0 (c.if-not-may_paint.ensures.yes refl).writes.there in
    let w = (within_by c.in_ok-load_band.ensures.rests.counts c.args.self.now.within told).bands in
    record { there = let e = ap (λ (x : BandOp). x.band) c.spell_op.ensures in omega (arith, e, below, w); fits = refl; known = known_by _ _ _ c.spell_op.ensures (c.requires.can told0).known; formed = formed_change (g.E.Engine.view c.load_band.new.self) c.args.self.now.begun c.args.self.now.actor _ c.if-not-self.false (can_look c.args.self.now.begun c.args.self.now.actor (g.met.E.Engine.some c.args.self.now.engine) (λ t. (record { rests = c.load_band.ensures.rests; keeps = λ from m. c.load_band.ensures.means t from m; looks = λ from m. c.load_band.ensures.looks t from m; whole = g.met.E.Engine.told_whole _; full = g.met.E.Engine.full_failed _; now = λ from m. g.met.E.Engine.now_is _ t from m; now' = λ from m. g.met.E.Engine.now_is _ t from m })) c.args.self.now.goes_on) told; means = λ u. tt }

pub invariant_of-self-2-clause-pages_said : goal.invariant_of-self-2-clause-pages_said
invariant_of-self-2-clause-pages_said g c = said_log g.E.Engine.recovers (g.E.Engine.means c.load_band.new.self) (g.E.Engine.means c.log_by.new.self) c.args.self.now.maps.pages (λ told. ∥∥₁_elim (c.requires.means (c.load_band.ensures.rests.counts.told told)) ∥∥₁_prop (λ x. ∣ (x.0, c.in_ok-load_band.ensures.means _ x.0 x.1.stands) ∣₁)) (record { grows = c.log_by.ensures.grows; keeps = c.log_by.ensures.means; logs = c.log_by.ensures.logs; whole = g.met.E.Engine.told_whole _; full = g.met.E.Engine.full_failed _; now = g.met.E.Engine.now_is _ _; now' = g.met.E.Engine.now_is _ _; law = g.met.E.Engine.lawful _ _ }) refl (said_any c.args.self.now.maps.pages (g.met.E.Engine.some c.args.self.now.engine) (λ t. (record { rests = c.load_band.ensures.rests; keeps = λ from m. c.load_band.ensures.means t from m; looks = λ from m. c.load_band.ensures.looks t from m; whole = g.met.E.Engine.told_whole _; full = g.met.E.Engine.full_failed _; now = λ from m. g.met.E.Engine.now_is _ t from m; now' = λ from m. g.met.E.Engine.now_is _ t from m })) c.load_band.ensures.rests.counts.told c.args.self.now.pages_said)

pub invariant_of-self-2-clause-within : goal.invariant_of-self-2-clause-within
invariant_of-self-2-clause-within g c = within_by c.log_by.ensures.grows.counts (within_by c.load_band.ensures.rests.counts c.args.self.now.within)

pub invariant_of-self-2-clause-unbroken : goal.invariant_of-self-2-clause-unbroken
invariant_of-self-2-clause-unbroken g c = λ told. c.args.self.now.unbroken (c.load_band.ensures.rests.counts.told (c.log_by.ensures.grows.counts.told told))

pub returns : goal.returns
returns g c =
    let s = c.args.self.now in
    let e = (g.E.Engine.view s.engine) in
    let e1 = (g.E.Engine.view c.load_band.new.self) in
    let e2 = (g.E.Engine.view c.log_by.new.self) in
    let first = c.in_ok-load_band.ensures.rests.counts in
    let second = c.in_ok-self.ensures.grows.counts in
    let later = later_on {strict = true} g.E.Engine.recovers (g.E.Engine.limits (length c.args.self.now.maps.pages) (length c.args.self.now.maps.bands)) _ _ _ _
    (later_look {strict = true} g.E.Engine.recovers (g.E.Engine.limits (length c.args.self.now.maps.pages) (length c.args.self.now.maps.bands)) _ (g.E.Engine.view c.args.self.now.engine) (g.E.Engine.view c.load_band.new.self) (g.E.Engine.means c.args.self.now.engine) (g.E.Engine.means c.load_band.new.self) (g.E.Engine.view c.args.self.now.begun_at.value).now c.args.self.now.maps c.args.self.now.rows.items c.args.self.now.actor c.args.self.now.begun _ (record { rests = c.in_ok-load_band.ensures.rests; keeps = c.in_ok-load_band.ensures.means _; looks = c.in_ok-load_band.ensures.looks _; whole = g.met.E.Engine.told_whole _; full = g.met.E.Engine.full_failed _; now = g.met.E.Engine.now_is _ _; now' = g.met.E.Engine.now_is _ _ }))
    (later_log_as {strict = true} g.E.Engine.recovers (g.E.Engine.limits (length c.args.self.now.maps.pages) (length c.args.self.now.maps.bands)) _ (g.E.Engine.view c.load_band.new.self) (g.E.Engine.view c.log_by.new.self) (g.E.Engine.means c.load_band.new.self) (g.E.Engine.means c.log_by.new.self) (g.E.Engine.view c.args.self.now.begun_at.value).now c.args.self.now.maps c.args.self.now.maps c.args.self.now.rows.items c.args.self.now.actor (record { txn = c.args.self.now.actor.txn; last = c.in_ok-self.field-0; before = c.args.self.now.actor.before }) c.args.self.now.begun (SegOp (shown_op c.spell_op.result)) (SegOp (op_with c.args.b.0 c.args.at c.args.count c.args.code c.args.position c.args.arg.now _)) _ c.if-not-self.false (ap SegOp c.spell_op.ensures) (c.tell_range.ensures) (record { grows = c.in_ok-self.ensures.grows; keeps = c.in_ok-self.ensures.means; logs = c.in_ok-self.ensures.logs; whole = g.met.E.Engine.told_whole _; full = g.met.E.Engine.full_failed _; now = g.met.E.Engine.now_is _ _; now' = g.met.E.Engine.now_is _ _; law = g.met.E.Engine.lawful _ _ }) refl (record {
      on = λ from since told1 k.
          let now = ap (λ (x : State). x.bands c.args.b.0) (sym (g.met.E.Engine.now_is _ _ from since.stands told1)) ∙ c.band.ensures.looked in
          let long = ap length now ∙ c.band.ensures.size in
          let piece = (c.if-not-may_paint.ensures.yes refl).writes.piece in
          paint_on _ (g.E.Engine.limits (length c.args.self.now.maps.pages) (length c.args.self.now.maps.bands)) (led from (g.E.Engine.view c.load_band.new.self)) c.args.self.now.maps _ _ c.args.b.0 c.args.at c.args.count c.args.code c.args.position c.args.arg.now _ (record { within = omega (arith, long, piece.within); is = c.copy_piece.ensures ∙ ap (λ (xs : List ℕ). take c.args.count (drop c.args.at xs)) (sym now) }) (stood_some _ _ c.args.at c.args.count c.copy_piece.ensures (let piece = (c.if-not-may_paint.ensures.yes refl).writes.piece in let size = c.band.ensures.size in omega (arith, size, piece.within)) (let piece = (c.if-not-may_paint.ensures.yes refl).writes.piece in piece.some)) k;
      same = λ from m told1. paint_same (g.E.Engine.limits (length c.args.self.now.maps.pages) (length c.args.self.now.maps.bands)) _ (opened (g.E.Engine.view c.load_band.new.self).steps) _ _ c.args.b.0 c.args.at c.args.count c.args.code c.args.position c.args.arg.now _ (stood_some _ _ c.args.at c.args.count c.copy_piece.ensures (let piece = (c.if-not-may_paint.ensures.yes refl).writes.piece in let size = c.band.ensures.size in omega (arith, size, piece.within)) (let piece = (c.if-not-may_paint.ensures.yes refl).writes.piece in piece.some));
      pages = refl;
      bands = refl;
      holds = λ o from since told1 h. bands_paint c.args.b.0 c.args.at c.args.count c.args.code c.args.position c.args.arg.now _ (stood_some _ _ c.args.at c.args.count c.copy_piece.ensures (let piece = (c.if-not-may_paint.ensures.yes refl).writes.piece in let size = c.band.ensures.size in omega (arith, size, piece.within)) (let piece = (c.if-not-may_paint.ensures.yes refl).writes.piece in piece.some)) refl (and_left _ _ (c.if-not-may_paint.ensures.yes refl).writes.there) h;
    })) in
    record {
      counts = record { told = λ t. first.told (second.told t); later = omega (arith, first.later, second.later); quiet = let a = first.quiet in let b = second.quiet in omega (arith, a, b); disk = tt; log_end = tt };
      few = let a = c.in_ok-load_band.ensures.rests.records in let b = c.in_ok-self.ensures.grows.few in omega (arith, a, b);
      means = by_later later c.requires.means;
      did = shows_paint _ (g.E.Engine.limits (length c.args.self.now.maps.pages) (length c.args.self.now.maps.bands)) e e2 (g.E.Engine.view c.args.self.now.begun_at.value).now s.breaks s.maps s.unfreed _ _ c.args.b.0 c.args.at c.args.count c.args.code c.args.position _ c.args.arg.now _
          (c.if-not-may_paint.ensures.yes refl).writes.there (stood_some _ _ c.args.at c.args.count c.copy_piece.ensures (let piece = (c.if-not-may_paint.ensures.yes refl).writes.piece in let size = c.band.ensures.size in omega (arith, size, piece.within)) (let piece = (c.if-not-may_paint.ensures.yes refl).writes.piece in piece.some)) (λ told. second.tells (first.tells told)) (λ t. first.told (second.told t))
          (λ told. let told1 = first.tells told in made_after (same_any (g.met.E.Engine.some c.args.self.now.engine) (λ t. (record { rests = c.load_band.ensures.rests; keeps = λ from m. c.load_band.ensures.means t from m; looks = λ from m. c.load_band.ensures.looks t from m; whole = g.met.E.Engine.told_whole _; full = g.met.E.Engine.full_failed _; now = λ from m. g.met.E.Engine.now_is _ t from m; now' = λ from m. g.met.E.Engine.now_is _ t from m })) told told1) (made_as (ap SegOp c.spell_op.ensures) (made_log g.E.Engine.recovers (g.E.Engine.means c.load_band.new.self) (g.E.Engine.means c.log_by.new.self) (∥∥₁_elim (c.requires.means told) ∥∥₁_prop (λ x. ∣ (x.0, c.in_ok-load_band.ensures.means _ x.0 x.1.stands) ∣₁)) (record { grows = c.in_ok-self.ensures.grows; keeps = c.in_ok-self.ensures.means; logs = c.in_ok-self.ensures.logs; whole = g.met.E.Engine.told_whole _; full = g.met.E.Engine.full_failed _; now = g.met.E.Engine.now_is _ _; now' = g.met.E.Engine.now_is _ _; law = g.met.E.Engine.lawful _ _ }) refl told1 (second.tells told1))));
      later = later;
    }

pub returns-in_err-self-clause-later : goal.returns-in_err-self-clause-later
returns-in_err-self-clause-later g c = later_on {strict = true} g.E.Engine.recovers (g.E.Engine.limits (length c.args.self.now.maps.pages) (length c.args.self.now.maps.bands)) _ _ _ _
    (later_look {strict = true} g.E.Engine.recovers (g.E.Engine.limits (length c.args.self.now.maps.pages) (length c.args.self.now.maps.bands)) _ (g.E.Engine.view c.args.self.now.engine) (g.E.Engine.view c.load_band.new.self) (g.E.Engine.means c.args.self.now.engine) (g.E.Engine.means c.load_band.new.self) (g.E.Engine.view c.args.self.now.begun_at.value).now c.args.self.now.maps c.args.self.now.rows.items c.args.self.now.actor c.args.self.now.begun _ (record { rests = c.in_ok-load_band.ensures.rests; keeps = c.in_ok-load_band.ensures.means _; looks = c.in_ok-load_band.ensures.looks _; whole = g.met.E.Engine.told_whole _; full = g.met.E.Engine.full_failed _; now = g.met.E.Engine.now_is _ _; now' = g.met.E.Engine.now_is _ _ }))
    (later_log_as {strict = true} g.E.Engine.recovers (g.E.Engine.limits (length c.args.self.now.maps.pages) (length c.args.self.now.maps.bands)) _ (g.E.Engine.view c.load_band.new.self) (g.E.Engine.view c.log_by.new.self) (g.E.Engine.means c.load_band.new.self) (g.E.Engine.means c.log_by.new.self) (g.E.Engine.view c.args.self.now.begun_at.value).now c.args.self.now.maps c.args.self.now.maps c.args.self.now.rows.items c.args.self.now.actor c.args.self.now.actor c.args.self.now.begun (SegOp (shown_op c.spell_op.result)) (SegOp (op_with c.args.b.0 c.args.at c.args.count c.args.code c.args.position c.args.arg.now _)) _ c.if-not-self.false (ap SegOp c.spell_op.ensures) (c.tell_range.ensures) (record { grows = c.in_err-self.ensures.grows; keeps = c.in_err-self.ensures.means; logs = c.in_err-self.ensures.logs; whole = g.met.E.Engine.told_whole _; full = g.met.E.Engine.full_failed _; now = g.met.E.Engine.now_is _ _; now' = g.met.E.Engine.now_is _ _; law = g.met.E.Engine.lawful _ _ }) tt (record {
      on = λ from since told1 k.
          let now = ap (λ (x : State). x.bands c.args.b.0) (sym (g.met.E.Engine.now_is _ _ from since.stands told1)) ∙ c.band.ensures.looked in
          let long = ap length now ∙ c.band.ensures.size in
          let piece = (c.if-not-may_paint.ensures.yes refl).writes.piece in
          paint_on _ (g.E.Engine.limits (length c.args.self.now.maps.pages) (length c.args.self.now.maps.bands)) (led from (g.E.Engine.view c.load_band.new.self)) c.args.self.now.maps _ _ c.args.b.0 c.args.at c.args.count c.args.code c.args.position c.args.arg.now _ (record { within = omega (arith, long, piece.within); is = c.copy_piece.ensures ∙ ap (λ (xs : List ℕ). take c.args.count (drop c.args.at xs)) (sym now) }) (stood_some _ _ c.args.at c.args.count c.copy_piece.ensures (let piece = (c.if-not-may_paint.ensures.yes refl).writes.piece in let size = c.band.ensures.size in omega (arith, size, piece.within)) (let piece = (c.if-not-may_paint.ensures.yes refl).writes.piece in piece.some)) k;
      same = λ from m told1. paint_same (g.E.Engine.limits (length c.args.self.now.maps.pages) (length c.args.self.now.maps.bands)) _ (opened (g.E.Engine.view c.load_band.new.self).steps) _ _ c.args.b.0 c.args.at c.args.count c.args.code c.args.position c.args.arg.now _ (stood_some _ _ c.args.at c.args.count c.copy_piece.ensures (let piece = (c.if-not-may_paint.ensures.yes refl).writes.piece in let size = c.band.ensures.size in omega (arith, size, piece.within)) (let piece = (c.if-not-may_paint.ensures.yes refl).writes.piece in piece.some));
      pages = refl;
      bands = refl;
      holds = λ o from since told1 h. bands_paint c.args.b.0 c.args.at c.args.count c.args.code c.args.position c.args.arg.now _ (stood_some _ _ c.args.at c.args.count c.copy_piece.ensures (let piece = (c.if-not-may_paint.ensures.yes refl).writes.piece in let size = c.band.ensures.size in omega (arith, size, piece.within)) (let piece = (c.if-not-may_paint.ensures.yes refl).writes.piece in piece.some)) refl (and_left _ _ (c.if-not-may_paint.ensures.yes refl).writes.there) h;
    }))

pub returns-in_err-self-clause-means : goal.returns-in_err-self-clause-means
returns-in_err-self-clause-means g c = by_later (returns-in_err-self-clause-later g c) c.requires.means

pub returns-in_err-load_band-clause-later : goal.returns-in_err-load_band-clause-later
returns-in_err-load_band-clause-later g c = (later_look {strict = true} g.E.Engine.recovers (g.E.Engine.limits (length c.args.self.now.maps.pages) (length c.args.self.now.maps.bands)) _ (g.E.Engine.view c.args.self.now.engine) (g.E.Engine.view c.load_band.new.self) (g.E.Engine.means c.args.self.now.engine) (g.E.Engine.means c.load_band.new.self) (g.E.Engine.view c.args.self.now.begun_at.value).now c.args.self.now.maps c.args.self.now.rows.items c.args.self.now.actor c.args.self.now.begun _ (record { rests = c.in_err-load_band.ensures.rests; keeps = c.in_err-load_band.ensures.means _; looks = c.in_err-load_band.ensures.looks _; whole = g.met.E.Engine.told_whole _; full = g.met.E.Engine.full_failed _; now = g.met.E.Engine.now_is _ _; now' = g.met.E.Engine.now_is _ _ }))

pub returns-in_err-load_band-clause-means : goal.returns-in_err-load_band-clause-means
returns-in_err-load_band-clause-means g c = by_later (returns-in_err-load_band-clause-later g c) c.requires.means

pub returns-then-not-self-clause-later : goal.returns-then-not-self-clause-later
returns-then-not-self-clause-later g c = later_same {strict = true} g.E.Engine.recovers (g.E.Engine.limits (length c.args.self.now.maps.pages) (length c.args.self.now.maps.bands)) _ _ (g.met.E.Engine.told_whole _) (λ from m told. g.met.E.Engine.images _ _ from m.stands told)

pub returns-then-not-may_paint-clause-later : goal.returns-then-not-may_paint-clause-later
returns-then-not-may_paint-clause-later g c = later_same {strict = true} g.E.Engine.recovers (g.E.Engine.limits (length c.args.self.now.maps.pages) (length c.args.self.now.maps.bands)) _ _ (g.met.E.Engine.told_whole _) (λ from m told. g.met.E.Engine.images _ _ from m.stands told)

pub tell_range-requires : goal.tell_range-requires
tell_range-requires g c =
    let piece = (c.if-not-may_paint.ensures.yes refl).writes.piece in
    paint_in _ _ c.args.b.0 c.args.at c.args.count c.args.code c.args.position c.args.arg.now _ (shown_op c.spell_op.result) c.spell_op.ensures c.is_number.ensures c.is_number-2.ensures (let b = (c.if-not-may_paint.ensures.yes refl).writes.few in omega (arith, b)) piece (omega arith)
    (c.if-not-may_paint.ensures.yes refl).paint (stood_long _ _ c.args.at c.args.count c.copy_piece.ensures (let size = c.band.ensures.size in omega (arith, size, piece.within)))

pub invariant_of-self-clause-unbroken : goal.invariant_of-self-clause-unbroken
invariant_of-self-clause-unbroken g c = λ told. absurd (
    let can = c.requires.can told in
    let there = has_there c.args.self.now.maps.bands c.args.self.now.unfreed.bands (λ n. Some ((g.E.Engine.view c.args.self.now.engine).now.bands n)) c.args.b.0 can.writable.there in
    let few = band_few c.args.self.now.maps.pages c.args.self.now.maps.bands c.args.self.now.unfreed.bands _ c.args.b.0 (c.args.self.now.within told) (g.met.E.Engine.few_bands _ told) there in
    let e : false ≡ true = c.if-not-may_paint.ensures.no (record { writes = record { there = there; piece = can.writable.piece; few = few }; paint = record { short = can.short; ends = can.ends } }) in cc)

pub returns-then-not-self-clause-counts : goal.returns-then-not-self-clause-counts
returns-then-not-self-clause-counts g c = record { told = λ t. t; later = omega arith; quiet = tt; disk = λ d. absurd (let e : LogEnd ≡ Disk = d in cc); log_end = λ z. inr c.if-not-self.true }

pub invariant_of-self-2-clause-goes_on : goal.invariant_of-self-2-clause-goes_on
invariant_of-self-2-clause-goes_on g c = can_change_by g.E.Engine.recovers (g.E.Engine.means c.load_band.new.self) (g.E.Engine.means c.log_by.new.self) c.args.self.now.begun c.args.self.now.actor _ _ (λ told. ∥∥₁_elim (c.requires.means (c.in_ok-load_band.ensures.rests.counts.told told)) ∥∥₁_prop (λ x. ∣ (x.0, c.in_ok-load_band.ensures.means _ x.0 x.1.stands) ∣₁)) (record { grows = c.in_ok-self.ensures.grows; keeps = c.in_ok-self.ensures.means; logs = c.in_ok-self.ensures.logs; whole = g.met.E.Engine.told_whole _; full = g.met.E.Engine.full_failed _; now = g.met.E.Engine.now_is _ _; now' = g.met.E.Engine.now_is _ _; law = g.met.E.Engine.lawful _ _ }) refl refl (can_look c.args.self.now.begun c.args.self.now.actor (g.met.E.Engine.some c.args.self.now.engine) (λ t. (record { rests = c.load_band.ensures.rests; keeps = λ from m. c.load_band.ensures.means t from m; looks = λ from m. c.load_band.ensures.looks t from m; whole = g.met.E.Engine.told_whole _; full = g.met.E.Engine.full_failed _; now = λ from m. g.met.E.Engine.now_is _ t from m; now' = λ from m. g.met.E.Engine.now_is _ t from m })) c.args.self.now.goes_on)

pub returns-then-not-may_paint-clause-counts : goal.returns-then-not-may_paint-clause-counts
returns-then-not-may_paint-clause-counts g c = shown_break (g.E.Engine.limits (length c.args.self.now.maps.pages) (length c.args.self.now.maps.bands)) (g.E.Engine.limits (length c.args.self.now.maps.pages) (length c.args.self.now.maps.bands)) (g.E.Engine.view c.args.self.now.engine) (g.E.Engine.view c.args.self.now.engine) c.args.self.now.begun c.args.self.now.begun (g.E.Engine.view c.args.self.now.begun_at.value).now (g.E.Engine.view c.args.self.now.begun_at.value).now c.args.self.now.breaks c.count_break.new.breaks c.args.self.now.maps c.args.self.now.maps c.args.self.now.unfreed c.args.self.now.unfreed c.count_break.result c.count_break.ensures.answer (λ t. t) refl c.count_break.ensures.risen c.count_break.ensures.later

pub returns-in_err-load_band-clause-counts : goal.returns-in_err-load_band-clause-counts
returns-in_err-load_band-clause-counts g c =
    let p = err_from_is_err_and c.from_residual.result c.from_residual.ensures.1 in
    shown_counts (g.E.Engine.limits (length c.args.self.now.maps.pages) (length c.args.self.now.maps.bands)) (g.E.Engine.limits (length c.args.self.now.maps.pages) (length c.args.self.now.maps.bands)) (g.E.Engine.view c.args.self.now.engine) (g.E.Engine.view c.load_band.new.self) c.args.self.now.begun c.args.self.now.begun (g.E.Engine.view c.args.self.now.begun_at.value).now (g.E.Engine.view c.args.self.now.begun_at.value).now c.args.self.now.breaks c.args.self.now.breaks c.args.self.now.maps c.args.self.now.maps c.args.self.now.unfreed c.args.self.now.unfreed c.from_residual.result (acts_err {T = Unit {0}} c.from_residual.result c.in_err-load_band.field-0.0 p.0 p.1 p.2 (g.met.E.Engine.told_whole _) (looked_none (g.E.Engine.view c.args.self.now.engine) c.args.self.now.breaks) c.in_err-load_band.ensures.rests.counts)

pub returns-in_err-self-clause-counts : goal.returns-in_err-self-clause-counts
returns-in_err-self-clause-counts g c =
    let p = err_from_is_err_and c.from_residual-in_err-self.result c.from_residual-in_err-self.ensures.1 in
    shown_counts (g.E.Engine.limits (length c.args.self.now.maps.pages) (length c.args.self.now.maps.bands)) (g.E.Engine.limits (length c.args.self.now.maps.pages) (length c.args.self.now.maps.bands)) (g.E.Engine.view c.args.self.now.engine) (g.E.Engine.view c.log_by.new.self) c.args.self.now.begun c.args.self.now.begun (g.E.Engine.view c.args.self.now.begun_at.value).now (g.E.Engine.view c.args.self.now.begun_at.value).now c.args.self.now.breaks c.args.self.now.breaks c.args.self.now.maps c.args.self.now.maps c.args.self.now.unfreed c.args.self.now.unfreed c.from_residual-in_err-self.result (acts_err {T = ℕ} c.from_residual-in_err-self.result c.in_err-self.field-0.0 p.0 p.1 p.2 (g.met.E.Engine.told_whole _) (looked_engine c.args.self.now.breaks c.in_ok-load_band.ensures.rests.counts) c.in_err-self.ensures.grows.counts)
