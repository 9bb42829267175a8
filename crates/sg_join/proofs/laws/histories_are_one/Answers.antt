use Rattle.sg_join.proofs.Histories as histories
use Rattle.sg_join.proofs.laws.histories_are_one.Goals as goal

pub returns-clause-objects : goal.returns-clause-objects
returns-clause-objects g c = histories.objects_same g.J.Joined.joint.setting g.J.Joined.joint.step g.J.Joined.joint.touches g.J.Joined.joint.covers g.J.Joined.joint.op g.J.Joined.joint.steps

pub returns-clause-committed : goal.returns-clause-committed
returns-clause-committed g c = histories.kept_committed g.J.Joined.joint.setting g.J.Joined.joint.step g.J.Joined.joint.touches g.J.Joined.joint.covers g.J.Joined.joint.op g.J.Joined.joint.steps

pub returns-clause-does : goal.returns-clause-does
returns-clause-does g c = histories.did_same g.J.Joined.joint.op

pub returns-clause-ends : goal.returns-clause-ends
returns-clause-ends g c = histories.lives_same g.J.Joined.joint.op

pub returns-clause-aborts : goal.returns-clause-aborts
returns-clause-aborts g c = histories.abort_same g.J.Joined.joint.op
