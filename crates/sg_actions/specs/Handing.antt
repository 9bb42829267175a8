-- HOW MANY BYTES A CALL HANDS TO THE DISK, by what waits at the log's end: the records that aren't on the disk, with the head of their frame.
use Rattle.std.specs.Prelude.{ℕ, ◌+◌, ◌≤◌, Bool, true, false, Result, OnOk}
use Rattle.sg_record.specs.Records.{Says}
use Rattle.sg_record.specs.Records.Says.{Changed, PhysComp}

-- a record changes a page or a band
abbrev pub makes_change : Says → Bool
makes_change (Changed change) = true
makes_change (PhysComp undo_next change) = true
makes_change _ = false

-- A CALL THAT CHANGES NO PAGE AND NO BAND, and appends so many bytes: it hands over what waited, with what a frame has beside its records. Where it
-- answers, what waits behind it is counted too
pub record HandsOver {T E : Type 0} (size handed waits handed' waits' : ℕ) (result : Result T E) : Type 0 where
  pub most : handed' ≤ handed + waits + 6
  pub all : OnOk result (handed' + waits' ≤ handed + waits + size + 6)
