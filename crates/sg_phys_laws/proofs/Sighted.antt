-- The steps of a log, as its analysis has them.
use Rattle.std.proofs.Common.{◌≡◌, ℕ, List, [], ◌∷◌, refl, ap, ◌∙◌}
use Rattle.sg_log.specs.Frames.{Numbered}
use Rattle.sg_record.specs.Records.{Says}
use Rattle.sg_record.specs.Records.Says.{Begin, Changed, TopEnd, PhysComp, TopVoid, CompEnd, Save, Commit, End, Checkpoint}
use Rattle.sg_analysis.specs.Sights as sights
use Rattle.sg_analysis.specs.Sights.{sight_by, sight_of}
use Rattle.sg_actions.specs.Steps.{Steps, step_by, with_step}
use Rattle.sg_phys_laws.specs.States.{steps_on}

one_step : (rs : Steps) (lsn u p : ℕ) (says : Says) → sights.with_step rs lsn (sight_by u p says) ≡ with_step rs lsn (step_by u p says)
one_step rs lsn u p Begin = refl
one_step rs lsn u p (Changed c) = refl
one_step rs lsn u p (TopEnd w n) = refl
one_step rs lsn u p (PhysComp w c) = refl
one_step rs lsn u p (TopVoid w) = refl
one_step rs lsn u p (CompEnd w) = refl
one_step rs lsn u p (Save m) = refl
one_step rs lsn u p Commit = refl
one_step rs lsn u p End = refl
one_step rs lsn u p (Checkpoint e l) = refl

-- THE STEPS of a log are the same
pub steps_same : (rs : Steps) (ns : List Numbered) → sights.steps_behind rs ns ≡ steps_on rs ns
steps_same rs [] = refl
steps_same rs (n ∷ ns) =
    steps_same (sights.with_step rs n.lsn (sight_of n.is)) ns
    ∙ ap (λ (r : Steps). steps_on r ns) (one_step rs n.lsn n.is.transaction n.is.previous n.is.says)
