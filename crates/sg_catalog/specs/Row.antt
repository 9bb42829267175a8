-- A row of the catalogue, and its bytes.
use Rattle.std.specs.Prelude.{◌≡◌, ℕ, ◌^◌, ◌<◌, ◌==◌, if◌then◌else◌, List, Option, Some, None, option_map, option_and_then, IsTrue}
use Rattle.sg_base.specs.Bytes.{IsBytes}
use Rattle.sg_base.specs.Forms.{Form, number, counted, pair, read_all}
use Rattle.sg_base.specs.Spelling.{is_name}
use Rattle.sg_base.specs.declared.numbers.TxnId.{TxnId}
use Rattle.sg_catalog.specs.declared.row.Entry.{Entry}
use Rattle.sg_catalog.specs.declared.row.Fields.{Fields}
use Rattle.sg_catalog.specs.declared.row.ObjectKind.{ObjectKind}
use Rattle.sg_catalog.specs.declared.row.ObjectKind.TheVariants.{Array, Table, Blob}
use Rattle.sg_catalog.specs.declared.row.Row.{Row}

-- the byte of each kind of object
abbrev pub code_of : ObjectKind → ℕ
code_of Array = 1
code_of Table = 2
code_of Blob = 3

-- 0 where the object is there, and 1 where it was dropped
abbrev pub state_of : Option TxnId → ℕ
state_of None = 0
state_of (Some by) = 1

-- the number of the transaction that dropped it, and 0 where it is there
abbrev pub dropper_of : Option TxnId → ℕ
dropper_of None = 0
dropper_of (Some by) = by.0

-- a row's fields: kind and state of 1 byte, dropper of 8, root of 4, and the name behind its length, of 1 byte
abbrev pub RowFields : Type 0
RowFields = ℕ × (ℕ × (ℕ × (ℕ × List ℕ)))

abbrev pub row_form : Form RowFields
row_form = pair (number 1) (pair (number 1) (pair (number 8) (pair (number 4) (counted 1))))

abbrev pub fields_of : Row → RowFields
fields_of row = (code_of row.kind, (state_of row.dropper, (dropper_of row.dropper, (row.root.0, row.name))))

-- THE BYTES OF A ROW
abbrev pub row_cell : Row → List ℕ
row_cell row = row_form.spell (fields_of row)

-- a row as callers can have one
pub record IsFormed (row : Row) : Type 0 where
  pub root : row.root.0 < 2 ^ 32
  pub dropper : dropper_of row.dropper < 2 ^ 64
  pub name : IsTrue (is_name row.name)

-- an object without its name
abbrev pub entry_of : Row → Entry
entry_of row = record { kind = row.kind; root = row.root }

-- what the code's fields say
abbrev pub shown_fields : Fields → RowFields
shown_fields f = (f.code, (f.state, (f.dropper, (f.root, f.name.now))))

-- the kind with this byte, if there is one
abbrev pub kind_with : ℕ → Option ObjectKind
kind_with code = if code == 1 then Some Array else (if code == 2 then Some Table else (if code == 3 then Some Blob else None))

-- who dropped it, if anybody. There is nothing where state and dropper are no row's
abbrev pub dropper_in : ℕ → ℕ → Option (Option TxnId)
dropper_in state dropper = if state == 0 then (if dropper == 0 then Some None else None) else (if state == 1 then Some (Some (record { 0 = dropper })) else None)

abbrev pub name_in : List ℕ → Option (List ℕ)
name_in text = if is_name text then Some text else None

-- the row with these fields, if there is one
abbrev pub row_with : RowFields → Option Row
row_with f =
    option_and_then (λ kind. option_and_then (λ dropper. option_map (λ name. record { kind = kind; dropper = dropper; root = record { 0 = f.1.1.1.0 }; name = name })
    (name_in f.1.1.1.1)) (dropper_in f.1.0 f.1.1.0)) (kind_with f.0)

-- the row that some bytes spell, if they are one's
abbrev pub row_of : List ℕ → Option Row
row_of cell = option_and_then row_with (read_all row_form cell)

-- ONLY WHAT IS SPELLED IS READ: cells of bytes that are a row's are the bytes of it
pub record AreSpelled : Type 0 where
  pub only : (cell : List ℕ) (row : Row) → IsBytes cell → row_of cell ≡ Some row → cell ≡ row_cell row
  pub formed : (cell : List ℕ) (row : Row) → IsBytes cell → row_of cell ≡ Some row → IsFormed row
  pub bytes : (row : Row) → IsFormed row → IsBytes (row_cell row)
