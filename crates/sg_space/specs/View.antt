-- All that is known of a space of pages and bands.
use Rattle.std.specs.Prelude.{◌≡◌, ◌⊎◌, ℕ, ◌≤◌, List, Result, IfErr, OnOk}
use Rattle.sg_base.specs.Ends.{HasRisen}
use Rattle.sg_base.specs.Sheet.{Sheet}
use Rattle.sg_space.specs.Units.{Units}
use Rattle.sg_space.specs.declared.space.SpaceFault.{SpaceFault}
use Rattle.sg_space.specs.declared.space.SpaceFault.TheVariants.{Disk, LogEnd}

-- the contents: what each page says, but for its number in the log, and the bytes of each band
pub record Space : Type 0 where
  pub pages : Units Sheet
  pub bands : Units (List ℕ)

pub record View : Type 1 where
  -- its contents are known, and only what can be done is asked of it
  pub Told : Type 0
  -- it shows its contents: what its looks answer is what they are
  pub Shows : Type 0
  pub space : Space
  -- how often it failed
  pub faults : ℕ
  -- how many records its calls have written
  pub records : ℕ
  -- one more record may pass the end of the log
  pub IsNearEnd : Type 0
  -- the open action has freed nothing yet
  pub MayTake : Type 0
  -- The open action may give this page so many slots. It's lost where an operation leaves fewer bytes
  -- in the page's cells.
  pub MayHave : (page slots : ℕ) → Type 0
  -- the open action has changed bytes of this band, or has filled it
  pub HasWritten : (band : ℕ) → Type 0
  -- the open action has changed nothing yet, and so has written no record of a change
  pub IsStill : Type 0

-- the page may have as many slots as this, and any fewer
abbrev pub MayFill : View → ℕ → ℕ → Type 0
MayFill v page slots = (n : ℕ) → n ≤ slots → v.MayHave page n

-- no call makes the count of faults less, none fails without a cause, and none passes a fault over
pub record Counts {T : Type 0} (old new : View) (result : Result T SpaceFault) : Type 0 where
  -- a space that isn't told is never told later
  pub told : new.Told → old.Told
  pub later : old.faults ≤ new.faults
  pub quiet : OnOk result (new.faults ≡ old.faults)
  pub disk : IfErr result (λ e. e ≡ Disk → HasRisen old.faults new.faults)
  pub log_end : IfErr result (λ e. e ≡ LogEnd → new.IsNearEnd)

-- what a caller may rely on from one call to the next
pub record Keeps (old new : View) : Type 0 where
  pub told : old.Told → new.Told
  pub may_take : old.MayTake → new.MayTake
  pub may_have : (page slots : ℕ) → old.MayHave page slots → new.MayHave page slots

-- bytes were written only in bands that pass
pub record WritesIn (own : ℕ → Type 0) (old new : View) : Type 0 where
  pub wrote : (b : ℕ) → new.HasWritten b → old.HasWritten b ⊎ own b

-- nothing has changed, and the open action has written no record of a change
pub record OnlyReads (old new : View) : Type 0 where
  pub keeps : Keeps old new
  pub shows : old.Shows → new.Shows
  pub same : old.Shows → new.space ≡ old.space
  pub wrote : (b : ℕ) → new.HasWritten b → old.HasWritten b
  pub still : old.IsStill → new.IsStill
