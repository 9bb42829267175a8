-- Records at places of a text, as one page and one window have them.
use Rattle.std.specs.Prelude.{◌≤◌, ℕ, ◌+◌, ◌==◌, ◌||◌, Bool, false, IsTrue, is_some, if◌then◌else◌, List, [], ◌∷◌, length, drop, map, slice_index, slice_index_or, Option, Some, None, Ok, Err, ⊤}
use Rattle.std.specs.List.{flat_map, range_with_len}
use Rattle.byteorder.specs.Endian.{little_number}
use Rattle.sg_base.specs.Op.{Op}
use Rattle.sg_base.specs.Op.Op.{Format, Put, Remove, Set, Links, Item, ItemBack}
use Rattle.sg_base.specs.declared.page.TheConstants.{BAND_SIZE}
use Rattle.sg_ops.specs.Table.{Table, range_at, rendered}
use Rattle.sg_record.specs.Changes.{Change, PageChange}
use Rattle.sg_record.specs.Changes.Change.{Page, SegWrite, SegOp}
use Rattle.sg_record.specs.Records.{Says}
use Rattle.sg_record.specs.Records.Says.{Changed, PhysComp}
use Rattle.sg_record.specs.Ranges.{after_fits}
use Rattle.sg_record.specs.Reading.{Parsed, parse}
use Rattle.sg_redo.specs.declared.place.Place.{Place}
use Rattle.sg_redo.specs.History.{OnPage, is_covered}
use Rattle.sg_redo.specs.Page.{on_page}
use Rattle.sg_redo.specs.Window.{OnWindow, on_byte}

-- the change of a page or of a band that a record makes, if it makes one
abbrev pub changed_by : Says → Option Change
changed_by (Changed change) = Some change
changed_by (PhysComp undo_next change) = Some change
changed_by _ = None

abbrev pub change_read : Parsed → Option Change
change_read (Ok p) = changed_by p.0.says
change_read (Err e) = None

-- the change that is made by the record at this offset of a text, if one stands there that makes one
unfoldable pub change_at : List ℕ → ℕ → Option Change
change_at text at = change_read (parse (drop at text))

-- the operation that a change of a page says, by its number
abbrev pub op_said : PageChange → Op
op_said c =
    if c.operation == 1 then Format (slice_index c.after 0)
    else (if c.operation == 2 then Put c.slot c.after
    else (if c.operation == 3 then Remove c.slot
    else (if c.operation == 4 then Set c.slot c.after
    else (if c.operation == 5 then Links (little_number 4 c.after, little_number 4 (drop 4 c.after))
    else (if c.operation == 6 then Item c.slot c.code c.after
    else ItemBack c.slot c.code c.after)))))

-- a change as a page has it: none where it is one of a band
unfoldable pub page_part : Table → ℕ → Option Change → List OnPage
page_part t lsn None = []
page_part t lsn (Some (Page c)) = on_page t lsn (op_said c) ∷ []
page_part t lsn (Some (SegWrite c)) = []
page_part t lsn (Some (SegOp c)) = []

-- a change as a window has it: none where it is one of a page
unfoldable pub window_part : Table → ℕ → Option Change → List OnWindow
window_part t lsn None = []
window_part t lsn (Some (Page c)) = []
window_part t lsn (Some (SegWrite c)) = record { lsn = lsn; at = c.at; bytes = c.after } ∷ []
window_part t lsn (Some (SegOp c)) = record { lsn = lsn; at = c.at; bytes = rendered (range_at t c.code) c.arg c.position c.count } ∷ []

-- the records at these places of a text, in their order, as a page has them
unfoldable pub page_records : Table → List ℕ → List Place → List OnPage
page_records t text places = flat_map (λ p. page_part t p.lsn (change_at text p.at)) places

-- and as a window has them
unfoldable pub window_records : Table → List ℕ → List Place → List OnWindow
window_records t text places = flat_map (λ p. window_part t p.lsn (change_at text p.at)) places

-- A change's bytes are as many as its operation on a page brings, or lie in a band, at positions that there are.
abbrev pub IsInRange : Change → Type 0
IsInRange (Page c) = IsTrue (after_fits c.operation (length c.after))
IsInRange (SegWrite c) = c.at + length c.after ≤ BAND_SIZE
IsInRange (SegOp c) = (c.at + c.count ≤ BAND_SIZE) × (c.position + c.count ≤ 16384000)

-- the range operation that a change names is registered
abbrev pub IsKnown : Table → Option Change → Type 0
IsKnown t None = ⊤
IsKnown t (Some (Page c)) = ⊤
IsKnown t (Some (SegWrite c)) = ⊤
IsKnown t (Some (SegOp c)) = IsTrue (is_some (range_at t c.code))

-- the marks of a window, and those of the bytes that the records cover
unfoldable pub marks_with : List OnWindow → List Bool → List Bool
marks_with ws marks = map (λ i. slice_index_or marks i false || is_covered (on_byte i ws)) (range_with_len 0 (length marks))
