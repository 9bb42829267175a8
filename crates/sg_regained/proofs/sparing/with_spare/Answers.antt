use Rattle.std.proofs.Common.{◌++◌, ◌∙◌, Bool, sym, ap, subst}
use Rattle.std.specs.Prelude.{replicate}
use Rattle.sg_actions.specs.Ending.{vacant}
use Rattle.sg_regained.proofs.Spared.{said_as}
use Rattle.sg_actions.specs.Acting.{CanChange}
use Rattle.sg_actions.specs.declared.rows.Actor.{Actor}
use Rattle.sg_regained.proofs.sparing.with_spare.Goals as goal

pub of_parts-acts-requires-clause-said : goal.of_parts-acts-requires-clause-said
of_parts-acts-requires-clause-said g c =
    let i = c.into_parts-engine.ensures in
    let p = c.into_parts-engine.result in
    said_as g.E.Engine.view c.args.acts.engine p.engine c.args.acts.maps p.maps i.engine i.maps c.args.acts.pages_said

pub returns-clause-rows : goal.returns-clause-rows
returns-clause-rows g c = λ yes.
    ap (λ v. v.items) c.of_parts-acts.ensures.rows ∙ (c.push_spare-has_rows.ensures yes ∙ ap (λ v. v.items ++ replicate 65 vacant) c.into_parts-engine.ensures.rows)

pub of_parts-acts-requires-clause-goes_on : goal.of_parts-acts-requires-clause-goes_on
of_parts-acts-requires-clause-goes_on g c =
    let i = c.into_parts-engine.ensures in
    let p = c.into_parts-engine.result in
    let a = c.args.acts in
    subst (λ y. CanChange (g.E.Engine.view y) p.begun p.actor) (sym i.engine)
    (subst (λ (b : Bool). CanChange (g.E.Engine.view a.engine) b p.actor) (sym i.begun) (subst (λ (x : Actor). CanChange (g.E.Engine.view a.engine) a.begun x) (sym i.actor) i.goes_on))
