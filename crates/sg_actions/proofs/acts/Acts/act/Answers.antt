use Rattle.std.proofs.Common.{true, sym, ap, ◌∙◌, List, refl}
use Rattle.sg_actions.specs.Rows.{last_in}
use Rattle.sg_actions.specs.declared.rows.Row.{Row}
use Rattle.sg_actions.proofs.Beginning.{acts_now, system_acts, nobody_acts}
use Rattle.sg_actions.specs.Engine.{led}
use Rattle.sg_actions.proofs.GoingOn.{can_of, can_act_now}
use Rattle.sg_actions.proofs.acts.Acts.act.Goals as goal

pub returns-in-Some-clause-acts : goal.returns-in-Some-clause-acts
returns-in-Some-clause-acts g c = λ limits t from m. acts_now t limits (led from (g.E.Engine.view c.args.self.now.engine)) c.args.self.now.maps c.args.self.now.unfreed c.args.self.now.rows.items c.args.self.now.actor (record { txn = c.args.txn; last = c.in-Some.last; before = c.in-Some.last })
    c.requires.can c.if-txn-eq0.false (sym (ap (λ (rs : List Row). last_in rs c.args.txn.0) c.as_slice.ensures.value) ∙ (sym c.last_in.ensures ∙ c.in-Some.is)) refl

pub returns-in_default-clause-acts : goal.returns-in_default-clause-acts
returns-in_default-clause-acts g c = λ limits t from m. nobody_acts t limits (led from (g.E.Engine.view c.args.self.now.engine)) c.args.self.now.maps c.args.self.now.unfreed c.args.self.now.rows.items c.args.self.now.actor c.args.txn.0
    c.requires.can c.if-txn-eq0.false (sym (ap (λ (rs : List Row). last_in rs c.args.txn.0) c.as_slice.ensures.value) ∙ (sym c.last_in.ensures ∙ c.in_default.is))

pub returns-then-txn-eq0-clause-acts : goal.returns-then-txn-eq0-clause-acts
returns-then-txn-eq0-clause-acts g c = λ limits t from m. system_acts t limits (led from (g.E.Engine.view c.args.self.now.engine)) c.args.self.now.maps c.args.self.now.unfreed c.args.self.now.rows.items c.args.self.now.actor c.args.txn.0 c.requires.can c.if-txn-eq0.true

pub invariant_of-self-clause-goes_on : goal.invariant_of-self-clause-goes_on
invariant_of-self-clause-goes_on g c = can_of (g.E.Engine.view c.args.self.now.engine) true c.args.self.now.rows.items c.args.self.now.actor c.requires.chain

pub invariant_of-self-in-Some-clause-goes_on : goal.invariant_of-self-in-Some-clause-goes_on
invariant_of-self-in-Some-clause-goes_on g c =
    can_act_now (g.E.Engine.view c.args.self.now.engine) true c.args.self.now.unfreed c.args.self.now.rows.items c.args.self.now.actor (record { txn = c.args.txn; last = c.in-Some.last; before = c.in-Some.last }) c.requires.can c.if-txn-eq0.false
    (sym (ap (λ (rs : List Row). last_in rs c.args.txn.0) c.as_slice.ensures.value) ∙ (sym c.last_in.ensures ∙ c.in-Some.is)) refl c.requires.chain
