-- What each call of a store keeps on any engine, whatever that tells.
use Rattle.std.specs.Prelude.{◌≡◌, ◌⊎◌, ◌≤◌, Option, Some, None}
use Rattle.sg_base.specs.Ends.{HasRisen}
use Rattle.sg_disk.specs.Accounts.{IsShownEnd}
use Rattle.sg_model.specs.declared.stop.Stop.{Stop}
use Rattle.sg_model.specs.declared.stop.Stop.TheVariants as stops
use Rattle.sg_store.specs.Ground.{Ground}
use Rattle.sg_store.specs.Engine.{Sizes, Shown}

-- NO FAULT OF THE DISK IS PASSED OVER: with why a store had stopped and has, if it has. No count falls. A store that hasn't stopped
-- had not, its engine tells if it told, and since then no fault was counted. Unless one has stopped for a fault of the disk, the disk's own count of
-- faults is as it was. One that has stopped for that had, or the count rose, and, of an engine that told, the disk's own. One that had stopped has
-- stopped for the same
pub record Heeds {basis : Sizes → Ground} (before now : Option Stop) (old new : Shown basis) : Type 0 where
  pub later : old.faults ≤ new.faults
  pub tail : old.tail ≤ new.tail
  pub tells : now ≡ None → old.Told → new.Told
  pub stays : (why : Stop) → before ≡ Some why → now ≡ Some why
  pub quiet : now ≡ None → (before ≡ None) × (new.faults ≡ old.faults)
  pub heeded : (now ≡ Some stops.Disk → ⊥) → new.disk.faults ≡ old.disk.faults
  pub risen : now ≡ Some stops.Disk → (before ≡ Some stops.Disk) ⊎ HasRisen old.faults new.faults
  pub caused : now ≡ Some stops.Disk → (before ≡ Some stops.Disk) ⊎ (old.Told → HasRisen old.disk.faults new.disk.faults)
  pub disk_later : old.disk.faults ≤ new.disk.faults
  pub handed : old.disk.handed ≤ new.disk.handed
  pub shown : IsShownEnd old.disk new.disk old.gate new.gate
