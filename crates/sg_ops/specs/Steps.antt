-- What each operation on a page does to what the page says, and what takes it off again.
use Rattle.std.specs.Prelude.{◌≡◌, ℕ, if◌then◌else◌, List, [], slice_set, Option, Some, None, Bool, true, false, IsTrue, IfSome, is_some, option_map, option_and_then, ⊤}
use Rattle.sg_base.specs.Bytes.{IsBytes}
use Rattle.sg_base.specs.Page.{cell_in}
use Rattle.sg_base.specs.Slots.{Slots, cell_bytes, put_in, set_in, remove_in}
use Rattle.sg_base.specs.Sheet.{Sheet}
use Rattle.sg_base.specs.Op.{Op}
use Rattle.sg_base.specs.Op.Op.{Format, Put, Remove, Set, Links, Item, ItemBack}
use Rattle.sg_ops.specs.Meaning.{RecordMeaning}
use Rattle.sg_ops.specs.Table.{Table, record_at, accepts_of, after_of, before_of}

-- what a registered operation leaves of an item, where it accepts it
abbrev pub item_after : Option RecordMeaning → List ℕ → List ℕ → Option (List ℕ)
item_after op arg item = if accepts_of op item arg then Some (after_of op item arg) else None

-- what its undo leaves of an item, where the operation is registered
abbrev pub item_before : Option RecordMeaning → List ℕ → List ℕ → Option (List ℕ)
item_before op arg item = if is_some op then Some (before_of op item arg) else None

-- the slots with the cell of a full slot changed. It is refused where the slot isn't full, or the change isn't defined
abbrev pub change_in : Slots → ℕ → (List ℕ → Option (List ℕ)) → Option Slots
change_in slots slot change = option_map (λ cell. slice_set slots slot (Some cell)) (option_and_then change (cell_in slots slot))

-- the page with other slots, if there are some
abbrev pub with_slots : Sheet → Option Slots → Option Sheet
with_slots sheet slots = option_map (λ s. record sheet { slots = s }) slots

-- what the page says after the operation. There is nothing where it doesn't fit
abbrev pub step : Table → Op → Sheet → Option Sheet
step t (Format kind) sheet = Some (record { kind = kind; links = (0, 0); slots = [] })
step t (Put slot bytes) sheet = with_slots sheet (put_in sheet.slots slot bytes)
step t (Remove slot) sheet = with_slots sheet (remove_in sheet.slots slot)
step t (Set slot bytes) sheet = with_slots sheet (set_in sheet.slots slot bytes)
step t (Links links) sheet = Some (record sheet { links = links })
step t (Item slot code arg) sheet = with_slots sheet (change_in sheet.slots slot (item_after (record_at t code) arg))
step t (ItemBack slot code arg) sheet = with_slots sheet (change_in sheet.slots slot (item_before (record_at t code) arg))

-- the operation that takes this one off again, by what the page said before it
abbrev pub inverse : Op → Sheet → Op
inverse (Format kind) sheet = Format 0
inverse (Put slot bytes) sheet = Remove slot
inverse (Remove slot) sheet = Put slot (cell_bytes (cell_in sheet.slots slot))
inverse (Set slot bytes) sheet = Set slot (cell_bytes (cell_in sheet.slots slot))
inverse (Links links) sheet = Links sheet.links
inverse (Item slot code arg) sheet = ItemBack slot code arg
inverse (ItemBack slot code arg) sheet = Item slot code arg

-- the bytes that it brings are bytes
abbrev pub BringsBytes : Op → Type 0
BringsBytes (Format kind) = ⊤
BringsBytes (Put slot bytes) = IsBytes bytes
BringsBytes (Remove slot) = ⊤
BringsBytes (Set slot bytes) = IsBytes bytes
BringsBytes (Links links) = ⊤
BringsBytes (Item slot code arg) = IsBytes arg
BringsBytes (ItemBack slot code arg) = IsBytes arg

-- the cell was left by the operation from an item that it accepts
pub record IsLeft (op : Option RecordMeaning) (arg cell : List ℕ) : Type 0 where
  pub item : List ℕ
  pub bytes : IsBytes item
  pub accepted : IsTrue (accepts_of op item arg)
  pub left : cell ≡ after_of op item arg

-- what it undoes was done: all but ItemBack undo nothing
abbrev pub WasDone : Table → Op → Sheet → Type 0
WasDone t (Format kind) sheet = ⊤
WasDone t (Put slot bytes) sheet = ⊤
WasDone t (Remove slot) sheet = ⊤
WasDone t (Set slot bytes) sheet = ⊤
WasDone t (Links links) sheet = ⊤
WasDone t (Item slot code arg) sheet = ⊤
WasDone t (ItemBack slot code arg) sheet = IfSome (cell_in sheet.slots slot) (IsLeft (record_at t code) arg)

-- what is asked of an operation besides that it fits, so that its inverse fits later
pub record IsProper (t : Table) (op : Op) (sheet : Sheet) : Type 0 where
  pub bytes : BringsBytes op
  pub done : WasDone t op sheet

-- what it does is said by the table, and not by the operation alone
abbrev pub uses_table : Op → Bool
uses_table (Format kind) = false
uses_table (Put slot bytes) = false
uses_table (Remove slot) = false
uses_table (Set slot bytes) = false
uses_table (Links links) = false
uses_table (Item slot code arg) = true
uses_table (ItemBack slot code arg) = true
