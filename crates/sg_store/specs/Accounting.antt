-- What the parts of a call say of the disk's own counts.
use Rattle.std.specs.Prelude.{◌≡◌, ◌≤◌, Result}
use Rattle.sg_disk.specs.Accounts.{Accounts, IsShownEnd}
use Rattle.sg_store.specs.Ground.{Ground}
use Rattle.sg_store.specs.Engine.{Sizes, Shown}

-- a call accounts for the disk of its engine
abbrev pub AccountsFor : {T E : Type 0} (IsDisk : E → Type 0) {basis : Sizes → Ground} → (old new : Shown basis) → Result T E → Type 0
AccountsFor IsDisk old new result = Accounts IsDisk old.Told old.disk new.disk old.gate new.gate result

-- CALLS THAT DIDN'T FAIL: the disk's count of faults is as it was, and the log's end is shown by bytes
pub record Unfailed {basis : Sizes → Ground} (old new : Shown basis) : Type 0 where
  pub faults : new.disk.faults ≡ old.disk.faults
  pub handed : old.disk.handed ≤ new.disk.handed
  pub shown : IsShownEnd old.disk new.disk old.gate new.gate
