use Rattle.std.proofs.Common.{sym, subst, refl, ap}
use Rattle.sg_model.specs.Verb.Op.{On}
use Rattle.sg_model.specs.Verb.Verb.{Keys}
use Rattle.sg_model.specs.TouchList.{shown_touches}
use Rattle.sg_store.specs.Seen.{core_of}
use Rattle.sg_store.specs.Calls.{SameRoom, Stays, Holds}
use Rattle.sg_base.specs.Ends.{HasRisen}
use Rattle.sg_store.proofs.Causing as causing
use Rattle.sg_store.proofs.Holding as holding
use Rattle.sg_store.specs.Engine.{led}
use Rattle.sg_store.proofs.Serving as serving
use Rattle.sg_store.proofs.Heeding as heeding
use Rattle.sg_store.specs.Store.{Core}
use Rattle.sg_store.proofs.Accounting as accounting
use Rattle.sg_store.proofs.Still.{not_halted}
use Rattle.sg_store.proofs.store.Store.hold_keys.Goals as goal

pub returns-in-Ok-clause-same : goal.returns-in-Ok-clause-same
returns-in-Ok-clause-same g c none t z from m told x lawful kept =
    let b = g.E.Engine.basis z in
    let old = led t z from (g.E.Engine.view c.args.self.now.engine) in
    let txns = c.args.self.now.txns in
    let o = holding.reading t b lawful old x txns kept in
    let r = c.in-Ok.ensures.touches t z from m told o kept.engine (holding.reads_so t b lawful old x txns kept) in
    subst (λ e. SameRoom t b old (led t z from (g.E.Engine.view e))) (sym c.grant.ensures.engine)
    (holding.rested_same t b old (led t z from (g.E.Engine.view c.touches_keys.new.self)) r.1.0)

pub returns-in-Err-clause-same : goal.returns-in-Err-clause-same
returns-in-Err-clause-same g c none t z from m told x lawful kept = not_halted (ap (λ (k : Core). k.stopped) c.halt.ensures.core) none

pub returns-in-Err-clause-stays : goal.returns-in-Err-clause-stays
returns-in-Err-clause-stays g c t z from m told x lawful kept =
    let b = g.E.Engine.basis z in
    let old = led t z from (g.E.Engine.view c.args.self.now.engine) in
    let txns = c.args.self.now.txns in
    let o = holding.reading t b lawful old x txns kept in
    let r = c.touches_keys.ensures.touches t z from m told o kept.engine (holding.reads_so t b lawful old x txns kept) in
    subst (λ e. Stays t b old (led t z from (g.E.Engine.view e)) x) (sym c.halt.ensures.engine)
    (holding.rests_stays t b lawful old x txns kept (led t z from (g.E.Engine.view c.touches_keys.new.self)) r.0)

pub returns-in-Ok-clause-stays : goal.returns-in-Ok-clause-stays
returns-in-Ok-clause-stays g c t z from m told x lawful kept =
    let b = g.E.Engine.basis z in
    let old = led t z from (g.E.Engine.view c.args.self.now.engine) in
    let txns = c.args.self.now.txns in
    let o = holding.reading t b lawful old x txns kept in
    let r = c.touches_keys.ensures.touches t z from m told o kept.engine (holding.reads_so t b lawful old x txns kept) in
    subst (λ e. Stays t b old (led t z from (g.E.Engine.view e)) x) (sym c.grant.ensures.engine)
    (holding.rests_stays t b lawful old x txns kept (led t z from (g.E.Engine.view c.touches_keys.new.self)) r.0)

pub returns-in-Ok-clause-holds : goal.returns-in-Ok-clause-holds
returns-in-Ok-clause-holds g c t z from m told x lawful kept held live =
    let b = g.E.Engine.basis z in
    let old = led t z from (g.E.Engine.view c.args.self.now.engine) in
    let txns = c.args.self.now.txns in
    let o = holding.reading t b lawful old x txns kept in
    let r = c.in-Ok.ensures.touches t z from m told o kept.engine (holding.reads_so t b lawful old x txns kept) in
    subst (λ e. Holds t b old (led t z from (g.E.Engine.view e)) (core_of c.args.self.now) (core_of c.grant.new.self) x c.args.txn.0 (On c.args.name Keys) c.grant.result) (sym c.grant.ensures.engine)
    (holding.holds_by t b lawful old x txns kept (led t z from (g.E.Engine.view c.touches_keys.new.self)) (core_of c.args.self.now) (core_of c.grant.new.self) c.args.txn.0 (On c.args.name Keys)
    (shown_touches c.touches_keys.new.into) refl held r.1.0 r.1.1 c.grant.ensures.core live c.grant.result c.grant.ensures.answer)

pub touches_keys-requires : goal.touches_keys-requires
touches_keys-requires g c =
    let s = c.requires.can in
    record { can = record { by = s.by; sizes = s.sizes; from = s.from; means = s.means; can = λ told. serving.can_look s.by (g.E.Engine.basis s.sizes) (led s.by s.sizes (s.from told) (g.E.Engine.view c.args.self.now.engine)) c.args.self.now.txns (s.can told) } }

pub returns-in-Ok-clause-causes : goal.returns-in-Ok-clause-causes
returns-in-Ok-clause-causes g c =
    causing.holds_from (g.E.Engine.view c.args.self.now.engine) (g.E.Engine.view c.touches_keys.new.self) (g.E.Engine.view c.grant.new.self.engine) (core_of c.args.self.now) (core_of c.grant.new.self) c.args.txn.0 c.touches_keys.ensures.counts.later c.grant.result c.grant.ensures.causes

pub returns-in-Err-clause-causes : goal.returns-in-Err-clause-causes
returns-in-Err-clause-causes g c =
    causing.holds_failed (g.E.Engine.view c.args.self.now.engine) (g.E.Engine.view c.halt.new.self.engine) (core_of c.args.self.now) (core_of c.halt.new.self) c.args.txn.0 c.in-Err.fault c.halt.result c.halt.ensures.answer c.halt.ensures.core
    (λ d. subst (λ e. HasRisen (g.E.Engine.view c.args.self.now.engine).faults (g.E.Engine.view e).faults) (sym c.halt.ensures.engine) (c.in-Err.ensures.counts.failed d)) c.in-Err.ensures.reads

pub returns-in-Ok-clause-heeds : goal.returns-in-Ok-clause-heeds
returns-in-Ok-clause-heeds g c none =
    heeding.heeds_kept (g.E.Engine.view) c.args.self.now.stop c.grant.new.self.stop (g.E.Engine.view c.args.self.now.engine) c.touches_keys.new.self c.grant.new.self.engine c.grant.ensures.engine (ap (λ (k : Core). k.stopped) c.grant.ensures.core)
    c.in-Ok.ensures.counts.quiet c.touches_keys.ensures.counts.tail c.in-Ok.ensures.counts.tells (accounting.unfailed_done (g.E.Engine.view c.args.self.now.engine) (g.E.Engine.view c.touches_keys.new.self) _ c.in-Ok.ensures.counts.accounts)

pub returns-in-Err-clause-heeds : goal.returns-in-Err-clause-heeds
returns-in-Err-clause-heeds g c none =
    heeding.heeds_halt (g.E.Engine.view) c.args.self.now.stop c.halt.new.self.stop c.in-Err.fault (g.E.Engine.view c.args.self.now.engine) c.touches_keys.new.self c.halt.new.self.engine c.halt.ensures.engine (ap (λ (k : Core). k.stopped) c.halt.ensures.core) none
    c.touches_keys.ensures.counts.later c.touches_keys.ensures.counts.tail c.in-Err.ensures.counts.failed c.in-Err.ensures.counts.accounts
