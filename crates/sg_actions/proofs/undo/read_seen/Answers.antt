use Rattle.std.proofs.Common.{subst}
use Rattle.sg_record.specs.Records.{Record}
use Rattle.sg_actions.specs.Steps.{step_of}
use Rattle.sg_actions.specs.Undoing.{SeesBy}
use Rattle.sg_actions.proofs.Offing.{shown_is}
use Rattle.sg_actions.proofs.PuttingBack.{no_fault}
use Rattle.sg_actions.proofs.undo.read_seen.Goals as goal

pub returns-in_default : goal.returns-in_default
returns-in_default c = λ what size h. absurd (no_fault c.in_default.ensures.exact h)

pub returns : goal.returns
returns c = λ what size h. subst (λ (r : Record). SeesBy (step_of r) c.see.new.into c.see.result) (shown_is _ _ _ _ _ c.in-Ok.ensures.exact h) c.see.ensures
