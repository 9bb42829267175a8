-- What replay leaves of a unit.
use Rattle.std.specs.Prelude.{◌≡◌, ◌⊎◌, ◌≤◌, ℕ, ◌+◌, ◌==◌, if◌then◌else◌, Bool, List, length, take, drop}
use Rattle.std.specs.List.{All}
use Rattle.std.specs.Ptr.{Ptr}
use Rattle.sg_base.specs.Page.{IsSlotted}
use Rattle.sg_frames.specs.declared.place.Place as frames
use Rattle.sg_ops.specs.Table.{Table}
use Rattle.sg_redo.specs.declared.place.Place.{Place}
use Rattle.sg_redo.specs.declared.unit.Unit as code
use Rattle.sg_redo.specs.History.{repeated, since_repeated}
use Rattle.sg_redo.specs.Window.{replayed, since_replayed}
use Rattle.sg_redo.specs.Places.{change_at, page_records, window_records, marks_with, IsKnown}

-- the places that a unit has as its own
abbrev pub own_places : List Place → code.Unit → List Place
own_places places u = take u.count (drop u.first places)

-- its places are there
abbrev pub Lies : List Place → code.Unit → Type 0
Lies places u = u.first + u.count ≤ length places

-- each range operation that a record at one of the places names is registered
abbrev pub AreKnown : Table → List ℕ → List Place → Type 0
AreKnown t text places = All (λ p. IsKnown t (change_at text p.at)) places

-- the unit with other bytes
abbrev pub with_bytes : code.Unit → List ℕ → code.Unit
with_bytes u bytes = record u { loan = record u.loan { bytes = bytes } }

-- where its loan lies, and of which frame or window it is
abbrev pub lent_at : code.Unit → Ptr × frames.Place
lent_at u = (u.loan.spot, u.loan.place)

-- it is a page, and not a band
abbrev pub is_page : code.Unit → Bool
is_page u = length u.loan.bytes == 4096

-- THE UNIT AFTER REPLAY: a page with the history of its places repeated; a window with their bytes written over it, and
-- these marked. The first record that was done is its oldest change that isn't on the disk, where it had none
unfoldable pub replayed_unit : Table → List ℕ → List Place → code.Unit → code.Unit
replayed_unit t text places u =
    let own = own_places places u in
    if is_page u then record (with_bytes u (repeated (page_records t text own) u.loan.bytes)) { since = since_repeated (page_records t text own) u.loan.bytes u.since }
    else record (with_bytes u (replayed (window_records t text own) u.loan.bytes)) { dirty = marks_with (window_records t text own) u.dirty; since = since_replayed (window_records t text own) u.since }

-- a page is as it was once the records of its places are repeated, or it is a page of slots
abbrev pub StaysWell : Table → List ℕ → List Place → code.Unit → Type 0
StaysWell t text places u = length u.loan.bytes ≡ 4096 → let rs = page_records t text (own_places places u) in (repeated rs u.loan.bytes ≡ u.loan.bytes) ⊎ IsSlotted (repeated rs u.loan.bytes)
