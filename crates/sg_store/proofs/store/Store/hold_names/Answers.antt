use Rattle.std.proofs.Common.{List, [], ◌∷◌, ◌++◌, false, refl, sym, ap, ◌∙◌, subst}
use Rattle.sg_serial.specs.Locks.{Touch}
use Rattle.sg_model.specs.Touches.{Resource}
use Rattle.sg_model.specs.TouchList.{shown_touches}
use Rattle.sg_model.specs.Verb.Op.{Names}
use Rattle.sg_model.specs.Touches.Resource.{Names as AllNames}
use Rattle.sg_store.specs.Seen.{core_of}
use Rattle.sg_store.specs.Calls.{Holds, SameRoom, Stays}
use Rattle.sg_store.proofs.Holding as holding
use Rattle.sg_store.specs.Engine.{led}
use Rattle.sg_store.proofs.store.Store.hold_names.Goals as goal

pub returns-clause-holds : goal.returns-clause-holds
returns-clause-holds g c t z from m told x lawful kept held live =
    let b = g.E.Engine.basis z in
    let old = led t z from (g.E.Engine.view c.args.self.now.engine) in
    let txns = c.args.self.now.txns in
    subst (λ e. Holds t b old (led t z from (g.E.Engine.view e)) (core_of c.args.self.now) (core_of c.grant.new.self) x c.args.txn.0 Names c.grant.result) (sym c.grant.ensures.engine)
    (holding.holds_by t b lawful old x txns kept old (core_of c.args.self.now) (core_of c.grant.new.self) c.args.txn.0 Names
    (shown_touches c.push.new.self) refl held (holding.rested_still t b lawful old x txns kept)
    (c.push.ensures ∙ ap (λ (ts : List (Touch Resource)). ts ++ (record { what = AllNames; write = false }) ∷ []) c.clear.ensures ∙ holding.names_touched (b.objects (holding.reading t b lawful old x txns kept))) c.grant.ensures.core live c.grant.result c.grant.ensures.answer)

pub returns-clause-means : goal.returns-clause-means
returns-clause-means g c t z from m = subst (λ e. (g.E.Engine.view e).means t z from) (sym c.grant.ensures.engine) m

pub returns-clause-told : goal.returns-clause-told
returns-clause-told g c h = subst (λ e. (g.E.Engine.view e).Told) c.grant.ensures.engine h

pub returns-clause-tells : goal.returns-clause-tells
returns-clause-tells g c = holding.always_ok c.grant.result _ (λ h. subst (λ e. (g.E.Engine.view e).Told) (sym c.grant.ensures.engine) h)

pub returns-clause-stays : goal.returns-clause-stays
returns-clause-stays g c t z from m told x lawful kept =
    let b = g.E.Engine.basis z in
    let old = led t z from (g.E.Engine.view c.args.self.now.engine) in
    let txns = c.args.self.now.txns in
    subst (λ e. Stays t b old (led t z from (g.E.Engine.view e)) x) (sym c.grant.ensures.engine) (holding.rests_stays t b lawful old x txns kept old (holding.rests_still t b lawful old x txns kept))

pub returns-clause-same : goal.returns-clause-same
returns-clause-same g c none t z from m told x lawful kept =
    let b = g.E.Engine.basis z in
    let old = led t z from (g.E.Engine.view c.args.self.now.engine) in
    let txns = c.args.self.now.txns in
    subst (λ e. SameRoom t b old (led t z from (g.E.Engine.view e))) (sym c.grant.ensures.engine) (holding.rested_same t b old old (holding.rested_still t b lawful old x txns kept))
