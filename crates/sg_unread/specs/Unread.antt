-- What an engine holds, as a space, and what looks at it leave.
use Rattle.std.specs.Prelude.{◌≡◌, ℕ, ◌+◌, ◌≤◌, nat_lt, true, false, if◌then◌else◌, Option, Some, None, ⊤}
use Rattle.sg_base.specs.Sheet.{Sheet}
use Rattle.sg_contents.specs.Standing.{Contents}
use Rattle.sg_reader.specs.Alike.{ReadsAs}
use Rattle.sg_ops.specs.Table.{Table}
use Rattle.sg_action.specs.States.{State}
use Rattle.sg_space.specs.View.{Space, View}
use Rattle.sg_actions.specs.Accounted.{HasAccounted}
use Rattle.sg_actions.specs.Engine.{EngineSeen, Moments, Stays, led}
use Rattle.sg_actions.specs.Images.{Recovering}

-- of these, those with a number below this
abbrev pub below : {A : Type 0} → (count : ℕ) → (ℕ → Option A) → ℕ → Option A
below count contents n = if nat_lt n count then contents n else None

-- what a page says; where it says nothing, what a blank one does
abbrev pub said_of : (blank : Sheet) → Option Sheet → Sheet
said_of blank None = blank
said_of blank (Some sheet) = sheet

abbrev pub filled : (blank : Sheet) → State → ℕ → Option Sheet
filled blank now p = Some (said_of blank (now.pages p))

-- each page and each band of so many. None is free
abbrev pub unread_space : (blank : Sheet) → State → (pages bands : ℕ) → Space
unread_space blank now pages bands = record {
  pages = record { at = below pages (filled blank now); free = 0; count = pages };
  bands = record { at = below bands (λ b. Some (now.bands b)); free = 0; count = bands };
}

-- an engine tells, and what it holds reads as contents
pub record IsReadable (e : EngineSeen) (pages bands : ℕ) : Type 0 where
  pub told : e.Told
  pub contents : Contents
  pub reads : ReadsAs pages bands e.now contents

-- It tells where what an engine holds that tells reads as contents, whatever these are: so nothing is asked of who looks before that is known. It
-- shows what an engine says that tells, and its faults are those of the engine and its own. It takes no record, as at the log's end
abbrev pub unread_view : EngineSeen → (blank : Sheet) → (pages bands breaks : ℕ) → View
unread_view e blank pages bands breaks = record {
  Told = IsReadable e pages bands;
  Shows = e.Told;
  space = unread_space blank e.now pages bands;
  faults = e.faults + breaks;
  records = e.records;
  IsNearEnd = ⊤;
  MayTake = ⊤;
  MayHave = λ page slots. ⊤;
  HasWritten = λ band. ⊥;
  IsStill = ⊤;
}

-- THE ENGINE WAS ONLY LOOKED AT, wherever its steps lead from: each image of each moment has a front of its log, and where it hasn't
-- failed it tells, and its steps are as before
pub record IsOnlyRead (recovers : Recovering) (t : Table) (from : State) (a b : EngineSeen) : Type 0 where
  pub moments : Moments recovers t (led from a) (led from b) a.steps
  pub told : b.failed ≡ false → b.Told
  pub stays : b.failed ≡ false → Stays (led from a) (led from b)

-- from one moment to a later one, by whatever looks, whether they failed or not
pub record LooksOn (recovers : Table → Recovering) (t : Table) (a b : EngineSeen) (m m' : Table → State → Type 0) : Type 0 where
  pub told : b.Told → a.Told
  pub base : b.base ≡ a.base
  pub tail : b.tail ≡ a.tail
  pub records : b.records ≡ a.records
  pub faults : a.faults ≤ b.faults
  pub extent : b.extent ≡ a.extent
  -- no look is refused for the log's end
  pub full : b.full ≡ a.full
  pub accounts : HasAccounted a b
  -- one that has failed calls the disk no more
  pub stops : a.failed ≡ true → (b.failed ≡ true) × (b.disk ≡ a.disk)
  pub means : (from : State) → m t from → m' t from
  pub reads : (from : State) → m t from → a.Told → IsOnlyRead (recovers t) t from a b
