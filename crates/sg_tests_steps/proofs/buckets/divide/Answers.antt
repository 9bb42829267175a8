use Rattle.sg_tests_steps.specs.Steps.{later_then}
use Rattle.sg_tests_steps.proofs.Knowing.{can_branch}
use Rattle.sg_tests_steps.proofs.buckets.divide.Goals as goal

pub branch-space-requires-clause-can : goal.branch-space-requires-clause-can
branch-space-requires-clause-can g c = λ told. let h = c.requires.there tt in (h.0, h.1, can_branch c.args.space.now h.2)

pub prune-requires-clause-can : goal.prune-requires-clause-can
prune-requires-clause-can g c = λ told.
    let h = c.requires.there tt in
    let branch = (c.in_ok-found.ensures.did.bucket tt h.0 h.1 (can_branch c.args.space.now h.2)).1 in
    (h.0, branch.old, h.2.sound)

pub returns-in_err-prune-clause-later : goal.returns-in_err-prune-clause-later
returns-in_err-prune-clause-later g c = later_then _ _ _ _ c.branch-space.ensures.later c.prune.ensures.later

pub returns-clause-later : goal.returns-clause-later
returns-clause-later g c = later_then _ _ _ _ c.branch-space.ensures.later c.prune.ensures.later
