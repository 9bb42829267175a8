use mathlib.Core.Logic.{∥∥₁_elim}
use Rattle.sg_actions.specs.Engine.{led}
use Rattle.sg_actions.proofs.Accounting.{within_by}
use Rattle.sg_actions.proofs.Beginning.{rest_kept}
use Rattle.sg_actions.proofs.Calling.{said_any}
use Rattle.sg_actions.proofs.Led.{look_call}
use Rattle.sg_actions.proofs.Sets.{steps_set}
use Rattle.sg_actions.proofs.GoingOn.{can_look}
use Rattle.sg_actions.proofs.acts.Acts.truncate.Goals as goal

pub returns-clause-kept : goal.returns-clause-kept
returns-clause-kept g c = λ limits t from m. rest_kept t limits (led from (g.E.Engine.view c.args.self.now.engine)) (led from (g.E.Engine.view c.truncate.new.self)) c.args.self.now.maps c.args.self.now.rows.items c.args.self.now.actor (look_call from c.in_ok-truncate.ensures.rests (c.in_ok-truncate.ensures.looks t from m)).stays

pub returns-clause-forced : goal.returns-clause-forced
returns-clause-forced g c = λ told. ∥∥₁_elim (g.met.E.Engine.some c.args.self.now.engine (c.in_ok-truncate.ensures.rests.counts.told told)) (steps_set _ _) (λ x. c.in_ok-truncate.ensures.forced x.0 x.1 x.2 told)

pub invariant_of-self-clause-pages_said : goal.invariant_of-self-clause-pages_said
invariant_of-self-clause-pages_said g c = said_any c.args.self.now.maps.pages (g.met.E.Engine.some c.args.self.now.engine) (λ t. (record { rests = c.truncate.ensures.rests; keeps = λ from m. c.truncate.ensures.means t from m; looks = λ from m. c.truncate.ensures.looks t from m; whole = g.met.E.Engine.told_whole _; full = g.met.E.Engine.full_failed _; now = λ from m. g.met.E.Engine.now_is _ t from m; now' = λ from m. g.met.E.Engine.now_is _ t from m })) c.truncate.ensures.rests.counts.told c.args.self.now.pages_said

pub invariant_of-self-clause-within : goal.invariant_of-self-clause-within
invariant_of-self-clause-within g c = within_by c.truncate.ensures.rests.counts c.args.self.now.within

pub invariant_of-self-clause-unbroken : goal.invariant_of-self-clause-unbroken
invariant_of-self-clause-unbroken g c = λ told. c.args.self.now.unbroken (c.truncate.ensures.rests.counts.told told)

pub invariant_of-self-clause-goes_on : goal.invariant_of-self-clause-goes_on
invariant_of-self-clause-goes_on g c = can_look c.args.self.now.begun c.args.self.now.actor (g.met.E.Engine.some c.args.self.now.engine) (λ t. (record { rests = c.truncate.ensures.rests; keeps = λ from m. c.truncate.ensures.means t from m; looks = λ from m. c.truncate.ensures.looks t from m; whole = g.met.E.Engine.told_whole _; full = g.met.E.Engine.full_failed _; now = λ from m. g.met.E.Engine.now_is _ t from m; now' = λ from m. g.met.E.Engine.now_is _ t from m })) c.args.self.now.goes_on
