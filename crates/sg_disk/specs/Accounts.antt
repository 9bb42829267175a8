-- What a call above a disk says of the disk's own counts.
use Rattle.std.specs.Prelude.{◌≡◌, ◌≤◌, ◌+◌, ◌⊎◌, ℕ, Result, Ok, Err, IfErr}
use Rattle.sg_base.specs.Ends.{HasRisen}
use Rattle.sg_disk.specs.Disk.{FULL, View}

-- this holds, unless the answer is that the disk failed
abbrev pub UnlessDisk : {T E : Type 0} → (IsDisk : E → Type 0) → Result T E → Type 0 → Type 0
UnlessDisk IsDisk (Ok x) P = P
UnlessDisk IsDisk (Err e) P = (IsDisk e → ⊥) → P

-- THE LOG'S END IS SHOWN BY BYTES: what is durable of a log ends as much later at most as bytes were handed to the disk, as far as these were
-- counted
abbrev pub IsShownEnd : (v w : View) → (gate gate' : ℕ) → Type 0
IsShownEnd v w gate gate' = (FULL ≤ w.handed) ⊎ (gate' + v.handed ≤ gate + w.handed)

-- HOW A CALL ACCOUNTS FOR ITS DISK: no count falls. The disk's count of faults is as it was unless the answer is that the disk failed; and of a
-- value that told, it has risen then. Gate is the number of the byte where what is durable of the log ends
pub record Accounts {T E : Type 0} (IsDisk : E → Type 0) (Told : Type 0) (v w : View) (gate gate' : ℕ) (result : Result T E) : Type 0 where
  pub later : v.faults ≤ w.faults
  pub heeded : UnlessDisk IsDisk result (w.faults ≡ v.faults)
  pub caused : IfErr result (λ e. IsDisk e → Told → HasRisen v.faults w.faults)
  pub handed : v.handed ≤ w.handed
  pub shown : IsShownEnd v w gate gate'
