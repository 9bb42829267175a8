-- How an engine accounts for its disk from one moment to a later one, whatever calls were made between them.
use Rattle.std.specs.Prelude.{◌≡◌, ◌⊎◌, ◌≤◌, true, false}
use Rattle.sg_base.specs.Ends.{HasRisen}
use Rattle.sg_disk.specs.Accounts.{IsShownEnd}
use Rattle.sg_actions.specs.Engine.{EngineSeen, IsNearEnd}

-- THE DISK'S OWN COUNTS: unless it has failed for the disk, the disk's own count of faults is as it was; and of one that told, it rose where it
-- has. One that has failed remembers whether that was for the log's end, and comes near that where it was. What is durable of the log ends as much
-- later at most as bytes were handed over
pub record HasAccounted (a b : EngineSeen) : Type 0 where
  pub stays : a.failed ≡ true → b.failed ≡ true
  pub first : a.failed ≡ true → b.full ≡ a.full
  pub tells : a.Told → b.failed ≡ false → b.Told
  pub near : b.full ≡ true → (a.full ≡ true) ⊎ IsNearEnd b
  pub faults : a.disk.faults ≤ b.disk.faults
  pub heeded : (b.failed ≡ true → b.full ≡ true) → b.disk.faults ≡ a.disk.faults
  pub caused : a.Told → b.failed ≡ true → b.full ≡ false → HasRisen a.disk.faults b.disk.faults
  pub handed : a.disk.handed ≤ b.disk.handed
  pub shown : IsShownEnd a.disk b.disk a.gate b.gate
