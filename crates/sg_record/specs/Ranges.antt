-- The ranges of a record's fields.
use Rattle.std.specs.Prelude.{⊤, ◌≡◌, ℕ, ◌+◌, ◌^◌, ◌<◌, ◌==◌, ◌&&◌, ◌||◌, not, nat_lt, nat_le, Bool, true, false, if◌then◌else◌, List, [], ◌∷◌, length, Option, Some, None}
use Rattle.sg_base.specs.declared.page.TheConstants.{BAND_SIZE}
use Rattle.sg_record.specs.Changes.{Change, PageChange, BandBytes, BandOp}
use Rattle.sg_record.specs.Changes.Change.{Page, SegWrite, SegOp}
use Rattle.sg_record.specs.Records.{Record, Says, HEADER, body_of, SaysFits}
use Rattle.sg_record.specs.Records.Says.{Begin, Changed, TopEnd, PhysComp, TopVoid, CompEnd, Save, Commit, End, Checkpoint}

-- a field's offset in the record, and whether it is in its range
abbrev pub Field : Type 0
Field = ℕ × Bool

-- the offset of the first field that isn't in its range, if there is one
abbrev pub first_out : List Field → Option ℕ
first_out [] = None
first_out (field ∷ fields) = if field.1 then first_out fields else Some field.0

-- How many bytes before an operation on a page holds. In a record that takes a change off it holds none.
abbrev pub before_fits : (taking_off : Bool) (operation size : ℕ) → Bool
before_fits taking_off operation size =
    if taking_off || (operation == 2 || (operation == 6 || operation == 7)) then size == 0
    else (if operation == 1 then size == 1
    else (if operation == 5 then size == 8
    else true))

-- how many bytes after: one for a format, 8 for links, none for a removal, and an argument has 256 at most
abbrev pub after_fits : (operation size : ℕ) → Bool
after_fits operation size =
    if operation == 1 then size == 1
    else (if operation == 3 then size == 0
    else (if operation == 5 then size == 8
    else (if operation == 6 || operation == 7 then nat_le size 256
    else true)))

-- the fields of a change of a page that begins at this offset
abbrev pub page_fields : (taking_off : Bool) (offset : ℕ) → PageChange → List Field
page_fields taking_off offset c =
    (offset, nat_lt c.page 1048576)
    ∷ (offset + 4, nat_le 1 c.operation && nat_le c.operation 7)
    ∷ (offset + 9, before_fits taking_off c.operation (length c.before))
    ∷ (offset + 11, after_fits c.operation (length c.after))
    ∷ []

-- a part of a band: 1 to 8,192 of its bytes
abbrev pub is_part : (at count : ℕ) → Bool
is_part at count = nat_le 1 count && (nat_le count 8192 && nat_le (at + count) BAND_SIZE)

-- the fields of a write of a band's bytes that begins at this offset
abbrev pub bytes_fields : (offset : ℕ) → BandBytes → List Field
bytes_fields offset c = (offset, nat_lt c.band 65536) ∷ (offset + 4, nat_lt c.at BAND_SIZE) ∷ (offset + 8, is_part c.at c.count) ∷ []

-- the code of the range operation that fills zeros in where its argument is empty
abbrev pub FILL : ℕ
FILL = 1

-- no operation but this one takes a change off
abbrev pub code_fits : (taking_off : Bool) (code : ℕ) → Bool
code_fits taking_off code = not taking_off || code == FILL

-- where the positions of a blob's bytes end
abbrev pub position_fits : (position count : ℕ) → Bool
position_fits position count = nat_le (position + count) 16384000

abbrev pub arg_fits : (taking_off : Bool) (size : ℕ) → Bool
arg_fits taking_off size = if taking_off then size == 0 else nat_le size 256

-- as many bytes before as the count, or none where zeros are filled in, and where a change is taken off
abbrev pub op_before_fits : (taking_off : Bool) → BandOp → Bool
op_before_fits taking_off c =
    if taking_off then length c.before == 0
    else length c.before == c.count || (length c.before == 0 && (c.code == FILL && length c.arg == 0))

-- the fields of an operation on a band's bytes that begins at this offset
abbrev pub op_fields : (taking_off : Bool) (offset : ℕ) → BandOp → List Field
op_fields taking_off offset c =
    (offset, nat_lt c.band 65536)
    ∷ (offset + 4, nat_lt c.at BAND_SIZE)
    ∷ (offset + 8, is_part c.at c.count)
    ∷ (offset + 12, code_fits taking_off c.code)
    ∷ (offset + 14, position_fits c.position c.count)
    ∷ (offset + 18, arg_fits taking_off (length c.arg))
    ∷ (offset + 20 + length c.arg, op_before_fits taking_off c)
    ∷ []

abbrev pub change_fields : (taking_off : Bool) (offset : ℕ) → Change → List Field
change_fields taking_off offset (Page c) = page_fields taking_off offset c
change_fields taking_off offset (SegWrite c) = bytes_fields offset c
change_fields taking_off offset (SegOp c) = op_fields taking_off offset c

-- the fields behind the length that have a range, of a record of this transaction with this previous one
abbrev pub says_fields : (transaction previous : ℕ) → Says → List Field
says_fields transaction previous Begin = []
says_fields transaction previous (Changed change) = change_fields false 21 change
says_fields transaction previous (TopEnd undo_next note) = (29, nat_le (length note) 2400) ∷ []
says_fields transaction previous (PhysComp undo_next change) = change_fields true 30 change
says_fields transaction previous (TopVoid undo_next) = []
says_fields transaction previous (CompEnd undo_next) = []
says_fields transaction previous (Save mark) = (21, nat_le 1 mark && nat_le mark 16) ∷ []
says_fields transaction previous Commit = []
says_fields transaction previous End = []
says_fields transaction previous (Checkpoint estimate live) = (5, transaction == 0) ∷ (13, previous == 0) ∷ (29, nat_le (length live) 1024) ∷ []

-- the most bytes of a record: those of a write of 8,192 bytes of a band with the bytes before it
abbrev pub GREATEST : ℕ
GREATEST = 16417

-- the offset of a record's first field that isn't in its range. The length of the whole record is the first
abbrev pub out_of_range : Record → Option ℕ
out_of_range r = first_out ((1, nat_le (HEADER + length (body_of r.says)) GREATEST) ∷ says_fields r.transaction r.previous r.says)

-- an argument's length has 2 bytes
abbrev pub ArgsFit : Change → Type 0
ArgsFit (Page c) = ⊤
ArgsFit (SegWrite c) = ⊤
ArgsFit (SegOp c) = length c.arg < 2 ^ 16

-- so it has where the record holds a change
abbrev pub HasArgs : Says → Type 0
HasArgs (Changed change) = ArgsFit change
HasArgs (PhysComp undo_next change) = ArgsFit change
HasArgs _ = ⊤

-- the record's numbers have as many bytes as their fields, its texts as many as their lengths say, and each field is in its range
pub record IsRecord (r : Record) : Type 0 where
  pub transaction : r.transaction < 2 ^ 64
  pub previous : r.previous < 2 ^ 64
  pub fits : SaysFits r.says
  pub ranges : out_of_range r ≡ None
