-- The steps of a log with one record more.
use Rattle.std.proofs.Common.{◌≡◌, List, [], ◌∷◌, ◌++◌, refl}
use Rattle.sg_log.specs.Frames.{Numbered}
use Rattle.sg_actions.specs.Steps.{Steps, step_of, with_step}
use Rattle.sg_phys_laws.specs.States.{steps_on, steps_of}

on_more : (rs : Steps) (ns : List Numbered) (x : Numbered) → steps_on rs (ns ++ x ∷ []) ≡ with_step (steps_on rs ns) x.lsn (step_of x.is)
on_more rs [] x = refl
on_more rs (n ∷ ns) x = on_more (with_step rs n.lsn (step_of n.is)) ns x

pub steps_more : (ns : List Numbered) (x : Numbered) → steps_of (ns ++ x ∷ []) ≡ with_step (steps_of ns) x.lsn (step_of x.is)
steps_more ns x = on_more [] ns x
