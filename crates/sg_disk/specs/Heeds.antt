-- No fault of a disk passes unsaid.
use Rattle.std.specs.Prelude.{◌≡◌, Bool, Result, Ok, Err}
use Rattle.std.specs.Bool.{OnFalse}
use Rattle.sg_disk.specs.Disk.{View}

-- NO FAULT IS PASSED OVER: unless the call answers that the disk failed, which this test tells of an error, the disk's count of faults is
-- as it was
abbrev pub Heeds : {T E : Type 0} → (is_disk : E → Bool) → Result T E → View → View → Type 0
Heeds is_disk (Ok answer) v w = w.faults ≡ v.faults
Heeds is_disk (Err e) v w = OnFalse (is_disk e) (w.faults ≡ v.faults)
