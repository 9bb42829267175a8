-- What the calls of a space do to its pages.
use Rattle.std.specs.Prelude.{◌≡◌, ◌≢◌, ℕ, ◌+◌, ◌<◌, ◌≤◌, ◌^◌, List, [], length, Some, true, false, IsSome, Result, IfErr, OnOk}
use Rattle.sg_base.specs.Op.{Op, is_format, opens, shrinks}
use Rattle.sg_base.specs.Sheet.{Sheet, sheet_of}
use Rattle.sg_ops.specs.Steps.{step, WasDone}
use Rattle.sg_ops.specs.Table.{Table}
use Rattle.sg_space.specs.Units.{Units, HasAt, IsChanged, IsTaken, IsFreed}
use Rattle.sg_space.specs.View.{View, Counts, Keeps, OnlyReads}
use Rattle.sg_space.specs.declared.space.SpaceFault.{SpaceFault}
use Rattle.sg_space.specs.declared.space.SpaceFault.TheVariants.{Disk}

-- a call may report that what it read can't be
abbrev pub CanBreak : View → Type 0
CanBreak v = v.Told → ⊥

-- the page, or the band, is taken
abbrev pub CanLook : {A : Type 0} → View → Units A → ℕ → Type 0
CanLook v units n = v.Told → IsSome (units.at n)

-- a look gives what the space shows
abbrev pub Looked : {A : Type 0} → View → Units A → ℕ → A → Type 0
Looked v units n x = v.Shows → units.at n ≡ Some x

-- a call that writes no record, so that none can pass the end of the log
pub record WritesNone {T : Type 0} (old new : View) (result : Result T SpaceFault) : Type 0 where
  pub only_disk : IfErr result (λ e. e ≡ Disk)
  pub records : new.records ≡ old.records

-- A look changes nothing. `Later` is what the space says of the state before and after, and `Means` that its records are still read by each
-- table by which they were.
pub record Looks {T : Type 0} (old new : View) (Later Means : Type 0) (result : Result T SpaceFault) : Type 0 where
  pub counts : Counts old new result
  pub writes : WritesNone old new result
  pub kept : OnOk result (OnlyReads old new)
  pub later : Later
  pub means : Means

-- how many bytes the argument has, where there is one
abbrev pub arg_size : Op → ℕ
arg_size (Op.Format kind) = 0
arg_size (Op.Put slot bytes) = 0
arg_size (Op.Remove slot) = 0
arg_size (Op.Set slot bytes) = 0
arg_size (Op.Links links) = 0
arg_size (Op.Item slot code arg) = length arg
arg_size (Op.ItemBack slot code arg) = length arg

-- the operation may be done to a page that says this
pub record IsPossible (t : Table) (v : View) (p : ℕ) (op : Op) (sheet : Sheet) : Type 0 where
  -- a page is formatted where it is taken, and nowhere else
  pub plain : is_format op ≡ false
  pub fits : IsSome (step t op sheet)
  pub done : WasDone t op sheet
  pub short : arg_size op ≤ 256
  -- Where it opens a slot, the open action may: so each operation of the action can be taken off again.
  pub place : opens op sheet ≡ true → v.MayHave p (length sheet.slots + 1)

abbrev pub CanChange : Table → View → ℕ → Op → Type 0
CanChange t v p op = v.Told → HasAt v.space.pages.at p (IsPossible t v p op)

pub record Changed (t : Table) (old new : View) (p : ℕ) (op : Op) : Type 0 where
  pub told : old.Told → new.Told
  pub pages : old.Told → IsChanged old.space.pages new.space.pages p (step t op)
  pub bands : old.Told → new.space.bands ≡ old.space.bands
  pub may_take : old.MayTake → new.MayTake
  pub may_have : (q n : ℕ) → q ≢ p → old.MayHave q n → new.MayHave q n
  pub wrote : (b : ℕ) → new.HasWritten b → old.HasWritten b
  -- the page may have as many slots as before, unless it has shrunk
  pub may_still : (n : ℕ) → ((sheet : Sheet) → old.space.pages.at p ≡ Some sheet → shrinks op sheet ≡ false) → old.MayHave p n → new.MayHave p n

-- one is free, and the open action may take it
pub record HasFree {A : Type 0} (v : View) (units : Units A) : Type 0 where
  pub some : 0 < units.free
  pub may : v.MayTake

abbrev pub CanTake : {A : Type 0} → View → Units A → Type 0
CanTake v units = v.Told → HasFree v units

-- a page of this kind without slots
abbrev pub empty_sheet : ℕ → Sheet
empty_sheet kind = record { kind = kind; links = (0, 0); slots = [] }

-- the bytes of such a page
unfoldable pub IsEmptyPage : ℕ → List ℕ → Type 0
IsEmptyPage kind page = sheet_of page ≡ empty_sheet kind

pub record Took (old new : View) (kind p : ℕ) : Type 0 where
  pub keeps : Keeps old new
  pub pages : old.Told → IsTaken old.space.pages new.space.pages p (λ sheet. sheet ≡ empty_sheet kind)
  pub bands : old.Told → new.space.bands ≡ old.space.bands
  -- the page may have as many slots as a page has the bytes for
  pub may_fill : old.Told → (n : ℕ) → n ≤ 1018 → new.MayHave p n
  pub small : p < 2 ^ 32
  pub wrote : (b : ℕ) → new.HasWritten b → old.HasWritten b

pub record Freed (old new : View) (p : ℕ) : Type 0 where
  pub told : old.Told → new.Told
  pub pages : old.Told → IsFreed old.space.pages new.space.pages p
  pub bands : old.Told → new.space.bands ≡ old.space.bands
  pub may_have : (q n : ℕ) → q ≢ p → old.MayHave q n → new.MayHave q n
  pub wrote : (b : ℕ) → new.HasWritten b → old.HasWritten b
