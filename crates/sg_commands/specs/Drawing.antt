-- How a workload that the words ask for is written.
use Rattle.std.specs.Prelude.{◌≡◌, List, ℕ, Option}
use Rattle.sg_base.specs.Ends.{HasRisen, Takes, TakesFront}
use Rattle.sg_workload.specs.Lines.{workload, text_of_lines}
use Rattle.sg_commands.specs.declared.status.Status as code_status
use Rattle.sg_commands.specs.declared.status.Status.TheVariants as statuses
use Rattle.sg_commands.specs.Words.{Drawn}

-- what is seen of a sink at a moment: what it has taken, and how often it has failed
pub record Sunk : Type 0 where
  pub taken : Option (List ℕ)
  pub faults : ℕ

abbrev pub sunk : Option (List ℕ) → ℕ → Sunk
sunk taken faults = record { taken = taken; faults = faults }

-- the lines of a workload, each with its LF
abbrev pub text_drawn : Drawn → List ℕ
text_drawn d = text_of_lines (workload d.seed d.count)

-- WHAT EACH STATUS TELLS of a workload. Done: the sink took its lines and didn't fail. Write: it failed, and took a front of
-- them. For want of memory nothing was written. It has no other
abbrev pub Draws : code_status.Status → Drawn → Sunk → Sunk → Type 0
Draws statuses.Done d old new = Takes old.taken (text_drawn d) new.taken × (new.faults ≡ old.faults)
Draws statuses.Usage d old new = ⊥
Draws statuses.Memory d old new = (new.taken ≡ old.taken) × (new.faults ≡ old.faults)
Draws statuses.Disk d old new = ⊥
Draws statuses.Read d old new = ⊥
Draws statuses.Write d old new = TakesFront old.taken (text_drawn d) new.taken × HasRisen old.faults new.faults
Draws statuses.TooLong d old new = ⊥
Draws (statuses.Damaged area at) d old new = ⊥
Draws statuses.NotAStore d old new = ⊥
Draws (statuses.UnknownOperation code) d old new = ⊥
Draws statuses.Exists d old new = ⊥
Draws statuses.BadGeometry d old new = ⊥
Draws statuses.LogEnd d old new = ⊥
