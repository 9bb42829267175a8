use Rattle.std.proofs.Common.{◌≡◌, Bool, true, false, sym, subst, refl, ◌∙◌}
use Rattle.sg_hash.specs.Calls.{Did, CanPut, IsEntered, IsPut}
use Rattle.sg_hash.specs.Steps.{DidEnter}
use Rattle.sg_hash.proofs.Growing.{can_grow, did_as, entered_put, put_grown}
use Rattle.sg_hash.proofs.table.put.Goals as goal

not_both : {b : Bool} → b ≡ true → b ≡ false → ⊥
not_both e f = let both : true ≡ false = sym e ∙ f in cc

pub grow-requires-clause-can : goal.grow-requires-clause-can
grow-requires-clause-can g c = λ told.
    let back = c.enter.ensures.counts.told told in
    let h = c.requires.there back in
    let d =
    subst (λ (b : Bool). DidEnter (g.P.PageSpace.view c.args.space.now) (g.P.PageSpace.view c.enter.new.space) c.args.root.0 c.args.key.now c.args.value.now b true) c.if-not-split.false
    (subst (λ (b : Bool). DidEnter (g.P.PageSpace.view c.args.space.now) (g.P.PageSpace.view c.enter.new.space) c.args.root.0 c.args.key.now c.args.value.now c.args.split b) c.if-not-new.false c.in_ok-new.ensures.did)
    in
    let can = subst (λ (b : Bool). CanPut (g.P.PageSpace.view c.args.space.now) c.args.key.now b h.0) c.if-not-split.false h.2 in
    let one = d.did.turns back h.0 h.1 can in
    (one.0, one.1.table, can_grow (d.keeps refl back) h.1 can one.1 one.2)

pub returns-then-not-split-clause-did : goal.returns-then-not-split-clause-did
returns-then-not-split-clause-did g c = did_as c.in_ok-new.ensures.did.did (λ t t' e. entered_put t t' (λ s n. not_both s c.if-not-split.true) e)

pub returns-then-not-new-clause-did : goal.returns-then-not-new-clause-did
returns-then-not-new-clause-did g c =
    did_as (subst (λ (b : Bool). Did (g.P.PageSpace.view c.args.space.now) (g.P.PageSpace.view c.enter.new.space) c.args.root.0 (CanPut (g.P.PageSpace.view c.args.space.now) c.args.key.now c.args.split) (IsEntered c.args.key.now c.args.value.now c.args.split b)) c.if-not-new.true c.in_ok-new.ensures.did.did)
    (λ t t' e. entered_put t t' (λ s n. not_both n refl) e)

pub returns-clause-did : goal.returns-clause-did
returns-clause-did g c =
    let d =
    subst (λ (b : Bool). DidEnter (g.P.PageSpace.view c.args.space.now) (g.P.PageSpace.view c.enter.new.space) c.args.root.0 c.args.key.now c.args.value.now b true) c.if-not-split.false
    (subst (λ (b : Bool). DidEnter (g.P.PageSpace.view c.args.space.now) (g.P.PageSpace.view c.enter.new.space) c.args.root.0 c.args.key.now c.args.value.now c.args.split b) c.if-not-new.false c.in_ok-new.ensures.did)
    in
    subst (λ (b : Bool). Did (g.P.PageSpace.view c.args.space.now) (g.P.PageSpace.view c.grow.new.space) c.args.root.0 (CanPut (g.P.PageSpace.view c.args.space.now) c.args.key.now b) (IsPut c.args.key.now c.args.value.now b true)) (sym c.if-not-split.false) (put_grown d c.in_ok-grow.ensures.did)

pub returns-in_err-grow-clause-later : goal.returns-in_err-grow-clause-later
returns-in_err-grow-clause-later g c = g.met.P.PageSpace.later_then _ _ _ _ c.enter.ensures.later c.grow.ensures.later

pub returns-clause-later : goal.returns-clause-later
returns-clause-later g c = g.met.P.PageSpace.later_then _ _ _ _ c.enter.ensures.later c.grow.ensures.later
