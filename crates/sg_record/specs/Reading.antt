-- What stands at the front of some bytes, read as a record.
use Rattle.std.specs.Prelude.{ℕ, ◌-◌, ◌==◌, ◌||◌, ◌&&◌, nat_lt, not, if◌then◌else◌, List, [], ◌∷◌, length, take, drop, slice_index, Option, Some, None, option_map, Result, Ok, Err}
use Rattle.std.specs.List.{find}
use Rattle.byteorder.specs.Endian.{little_number}
use Rattle.sg_base.specs.Forms.{number, read_on, read_number, read_all}
use Rattle.sg_record.specs.declared.kind.Kind.{Kind}
use Rattle.sg_record.specs.declared.kind.Kind.TheVariants as kinds
use Rattle.sg_record.specs.Changes.{Change, write_form, rewrite_form, read_change}
use Rattle.sg_record.specs.Records.{Record, Says, HEADER, code_of, note_form, live_form}
use Rattle.sg_record.specs.Records.Says.{Begin, Changed, TopEnd, PhysComp, TopVoid, CompEnd, Save, Commit, End, Checkpoint}
use Rattle.sg_record.specs.Ranges.{out_of_range}
use Rattle.sg_record.specs.declared.record.RecError.{RecError}
use Rattle.sg_record.specs.declared.record.RecError.TheVariants.{Short, BadKind, BadField}

abbrev pub all_kinds : List Kind
all_kinds = kinds.Begin ∷ kinds.Page ∷ kinds.SegWrite ∷ kinds.SegOp ∷ kinds.TopEnd ∷ kinds.PhysComp ∷ kinds.TopVoid ∷ kinds.CompEnd ∷ kinds.Save ∷ kinds.Commit ∷ kinds.End ∷ kinds.Checkpoint ∷ []

-- the kind with this byte, if there is one
abbrev pub kind_with : ℕ → Option Kind
kind_with code = find (λ k. code_of k == code) all_kinds

-- the change of a kind that some bytes spell where it takes another one off, if the kind is one that holds a change
abbrev pub read_held : Option Kind → List ℕ → Option Change
read_held None bytes = None
read_held (Some kind) bytes = read_change rewrite_form kind bytes

-- what takes a change off: where undoing goes on, the kind of the change that is held as a byte, and the change
abbrev pub read_taken_off : List ℕ → Option Says
read_taken_off bytes = read_on (read_number 8 bytes) (λ undo_next rest. read_on (read_number 1 rest) (λ code rest. option_map (PhysComp undo_next) (read_held (kind_with code) rest)))

-- a record without fields says this, where nothing stands behind its header
abbrev pub read_bare : Says → List ℕ → Option Says
read_bare says bytes = if length bytes == 0 then Some says else None

-- what a record of this kind says, by the bytes behind its header. There is nothing where they are no record's of this kind
unfoldable pub read_says : Kind → List ℕ → Option Says
read_says kinds.Begin bytes = read_bare Begin bytes
read_says kinds.Page bytes = option_map Changed (read_change write_form kinds.Page bytes)
read_says kinds.SegWrite bytes = option_map Changed (read_change write_form kinds.SegWrite bytes)
read_says kinds.SegOp bytes = option_map Changed (read_change write_form kinds.SegOp bytes)
read_says kinds.TopEnd bytes = option_map (λ p. TopEnd p.0 p.1) (read_all note_form bytes)
read_says kinds.PhysComp bytes = read_taken_off bytes
read_says kinds.TopVoid bytes = option_map TopVoid (read_all (number 8) bytes)
read_says kinds.CompEnd bytes = option_map CompEnd (read_all (number 8) bytes)
read_says kinds.Save bytes = option_map Save (read_all (number 2) bytes)
read_says kinds.Commit bytes = read_bare Commit bytes
read_says kinds.End bytes = read_bare End bytes
read_says kinds.Checkpoint bytes = option_map (λ p. Checkpoint p.0 p.1) (read_all live_form bytes)

-- The offset of the field that is at fault where a record of this kind can't be read. It is that of the length of the whole
-- record, which isn't that of the fields; or the kind of the change that is held, where there is no such one.
abbrev pub unread_at : Kind → List ℕ → ℕ
unread_at kinds.PhysComp bytes =
    let code = slice_index bytes 8 in
    if nat_lt 8 (length bytes) && not (code == 2 || (code == 3 || code == 4)) then 29 else 1
unread_at _ bytes = 1

-- the length that the header states
abbrev pub size_at : List ℕ → ℕ
size_at bytes = little_number 4 (drop 1 bytes)

abbrev pub transaction_at : List ℕ → ℕ
transaction_at bytes = little_number 8 (drop 5 bytes)

abbrev pub previous_at : List ℕ → ℕ
previous_at bytes = little_number 8 (drop 13 bytes)

-- what follows the header, up to the stated length
abbrev pub body_at : List ℕ → List ℕ
body_at bytes = take (size_at bytes - HEADER) (drop HEADER bytes)

abbrev pub Parsed : Type 0
Parsed = Result (Record × ℕ) RecError

-- a record of so many bytes, where its fields are in their ranges
abbrev pub in_range : Record → ℕ → Option ℕ → Parsed
in_range r size None = Ok (r, size)
in_range r size (Some at) = Err (BadField at)

unfoldable pub parse_says : Kind → List ℕ → Option Says → Parsed
parse_says kind bytes None = Err (BadField (unread_at kind (body_at bytes)))
parse_says kind bytes (Some says) =
    let r : Record = record { transaction = transaction_at bytes; previous = previous_at bytes; says = says } in
    in_range r (size_at bytes) (out_of_range r)

unfoldable pub parse_kind : List ℕ → Option Kind → Parsed
parse_kind bytes None = Err (BadKind (slice_index bytes 0))
parse_kind bytes (Some kind) =
    if nat_lt (length bytes) (size_at bytes) then Err Short
    else (if nat_lt (size_at bytes) HEADER then Err (BadField 1)
    else parse_says kind bytes (read_says kind (body_at bytes)))

-- The record at the front of some bytes and its length, or why there is none: the first that holds, in the order in which it
-- is told.
unfoldable pub parse : List ℕ → Parsed
parse bytes = if nat_lt (length bytes) HEADER then Err Short else parse_kind bytes (kind_with (slice_index bytes 0))
