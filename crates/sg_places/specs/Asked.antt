-- What is asked of the records of a log before history is repeated from them: that each changes a page or a band of the store, and that the
-- operations are registered which it will need.
use Rattle.std.specs.Prelude.{◌≡◌, ℕ, ◌+◌, ◌==◌, ◌&&◌, ◌||◌, not, nat_lt, nat_le, Bool, true, false, if◌then◌else◌, List, [], ◌∷◌, length, Option, Some, None, is_some}
use Rattle.sg_ops.specs.Table.{Table, record_at, range_at}
use Rattle.sg_record.specs.Changes.{Change}
use Rattle.sg_record.specs.Changes.Change.{Page, SegWrite, SegOp}
use Rattle.sg_redo.specs.Places.{changed_by}
use Rattle.sg_record.specs.Records.{Record}
use Rattle.sg_analysis.specs.Analysis.{Analysis, is_number}
use Rattle.sg_log.specs.Texts.{spelled_all}
use Rattle.sg_log.specs.Frames.{Numbered, text_of}

-- the page or the band that is changed, if one is, is one of the store's
abbrev pub is_there : (pages bands : ℕ) → Option Change → Bool
is_there pages bands None = true
is_there pages bands (Some (Page c)) = nat_lt c.page pages
is_there pages bands (Some (SegWrite c)) = nat_lt c.band bands
is_there pages bands (Some (SegOp c)) = nat_lt c.band bands

abbrev pub all_there : (pages bands : ℕ) → List Record → Bool
all_there pages bands [] = true
all_there pages bands (r ∷ rs) = is_there pages bands (changed_by r.says) && all_there pages bands rs

-- the offset of the gate of the first frame with a record of a page or a band that the store doesn't have. The first frame's is `at`
abbrev pub first_outside : (pages bands at : ℕ) → List (List Record) → Option ℕ
first_outside pages bands at [] = None
first_outside pages bands at (rs ∷ frames) = if all_there pages bands rs then first_outside pages bands (at + 1 + length (text_of (spelled_all rs))) frames else Some at

-- the code of the operation that a change names, where none is registered with it in its sort
abbrev pub unknown_in : Table → Option Change → Option ℕ
unknown_in t None = None
unknown_in t (Some (Page c)) = if (c.operation == 6 || c.operation == 7) && not (is_some (record_at t c.code)) then Some c.code else None
unknown_in t (Some (SegWrite c)) = None
unknown_in t (Some (SegOp c)) = if is_some (range_at t c.code) then None else Some c.code

-- one of these, each with its last record, is this transaction
abbrev pub is_among : (transaction : ℕ) → List (ℕ × ℕ) → Bool
is_among transaction [] = false
is_among transaction (loser ∷ losers) = loser.0 == transaction || is_among transaction losers

-- what opening takes back: losers, each with its last record, and the system's open changes, by their numbers
abbrev pub Undone : Type 0
Undone = (List (ℕ × ℕ)) × List ℕ

-- what an analysis says of it
abbrev pub undone_of : Analysis → Undone
undone_of a = (a.losers, a.opened)

-- The record's operation will be needed: history is repeated from the point on, losers are undone, and the system's open changes are
-- taken off, which may stand before that point.
abbrev pub is_needed : (point : ℕ) (undone : Undone) → (lsn : ℕ) → Record → Bool
is_needed point undone lsn r = nat_le point lsn || (is_among r.transaction undone.0 || (r.transaction == 0 && is_number lsn undone.1))

abbrev pub unknown_by : Table → (point : ℕ) (undone : Undone) → (lsn : ℕ) → Record → Option ℕ
unknown_by t point undone lsn r = if is_needed point undone lsn r then unknown_in t (changed_by r.says) else None

abbrev pub or_else : Option ℕ → Option ℕ → Option ℕ
or_else None o = o
or_else (Some x) o = Some x

-- the first code that isn't registered, of those that will be needed
abbrev pub first_unknown : Table → (point : ℕ) (undone : Undone) → List Numbered → Option ℕ
first_unknown t point undone [] = None
first_unknown t point undone (n ∷ ns) = or_else (unknown_by t point undone n.lsn n.is) (first_unknown t point undone ns)
