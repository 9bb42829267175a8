use Rattle.std.proofs.Common.{ap, refl, ◌∙◌, sym, subst, Option}
use Rattle.std.specs.Prelude.{IfSome, option_map}
use Rattle.sg_base.specs.declared.numbers.TxnId.{TxnId}
use Rattle.sg_actions.specs.Calls.{IsActable}
use Rattle.sg_shown.specs.Shown.{over, acting}
use Rattle.sg_paged.proofs.Behind.{act_means}
use Rattle.sg_paged.proofs.resting.again.Goals as goal

pub act-requires-clause-can : goal.act-requires-clause-can
act-requires-clause-can g c = λ told. let a = c.args.acts.now in
    subst (λ (o : Option TxnId). IfSome o (λ u. IsActable (g.E.Engine.view a.engine).steps a.unfreed a.rows.items a.actor u.0)) c.in-Some.is (c.requires.can told)

pub returns-clause-means : goal.returns-clause-means
returns-clause-means g c = λ t z from m.
    let k = c.act.ensures in
    act_means (over c.args.acts.now) (over c.act.new.self) t z from c.in-Some.txn.0 m c.requires.quiet (ap g.E.Engine.view k.engine) (ap g.E.Engine.means k.engine) refl k.maps k.unfreed k.rows k.begun (k.acts (g.E.Engine.limits z.pages z.bands) t from m.since.stands) (k.since t from m.since.stands)

pub returns-clause-acts : goal.returns-clause-acts
returns-clause-acts g c = λ t from stands told.
    let k = c.act.ensures in
    let is = (k.acts (λ y n. 0) t from stands).is told in
    (λ j. acting (k.begun j) (is j)) ∙ sym (ap (option_map (λ (u : TxnId). u.0)) c.in-Some.is)

pub returns-in_default-clause-acts : goal.returns-in_default-clause-acts
returns-in_default-clause-acts g c = λ t from stands told. ap (λ b. acting b c.args.acts.now.actor.txn.0) c.requires.quiet ∙ sym (ap (option_map (λ (u : TxnId). u.0)) c.in_default.is)
