-- Pages in frames whose records are repeated at once.
use Rattle.std.specs.Prelude.{◌≡◌, ◌<◌, ◌≤◌, ◌-◌, ℕ, Option, Some, None, List, [], length, get_or, take, drop, slice_set}
use Rattle.sg_frames.specs.Held.{Held, IsHere, spot_at, with_bytes}
use Rattle.sg_frames.specs.declared.place.Place.TheVariants.{Page}
use Rattle.sg_ops.specs.Table.{Table}
use Rattle.sg_redo.specs.declared.place.Place.{Place}
use Rattle.sg_redo.specs.declared.unit.Unit as code
use Rattle.sg_redo.specs.History.{OnPage, repeated, since_repeated}
use Rattle.sg_redo.specs.Places.{page_records}
use Rattle.sg_pool.specs.declared.slot.Slot.{Slot}
use Rattle.sg_pool.specs.Held.{no_slot, page_in, since_of, AreApart, IsIndex}
use Rattle.sg_pool.specs.Redone.{places_of}
use Rattle.sg_pool.specs.Well.{IsWell}

-- the places before `from` are of other units than those behind
abbrev pub IsBorder : List Place → ℕ → Type 0
IsBorder places from = (k : ℕ) (d : Place) → k < from → from < length places → (get_or places k d).unit < (get_or places from d).unit

-- the places from one on to another
abbrev pub part_of : List Place → (from to : ℕ) → List Place
part_of places from to = take (to - from) (drop from places)

-- a unit is the page of frame f, lent, with so many places from one on
pub record IsUnitOf (held : Held) (f : ℕ) (oldest : Option ℕ) (from many : ℕ) (u : code.Unit) : Type 0 where
  pub place : u.loan.place ≡ Page f
  pub spot : u.loan.spot ≡ spot_at held (Page f)
  pub bytes : u.loan.bytes ≡ get_or held.pages f []
  pub since : u.since ≡ oldest
  pub first : u.first ≡ from
  pub count : u.count ≡ many

-- and once it was taken back: its place has its bytes, and frame f its oldest change
pub record IsTakenBack (f : ℕ) (u : code.Unit) (ss ss' : List Slot) (held held' : Held) : Type 0 where
  pub frames : held' ≡ with_bytes held u.loan.place u.loan.bytes
  pub here : IsHere held' u.loan.place
  pub slots : ss' ≡ slice_set ss f (record { number = page_in ss f; since = u.since })

-- the slots are as many as the page frames, no page is in two, and the list by page number knows each
pub record ArePlaced (slots : List Slot) (index : List (Option ℕ)) (held : Held) : Type 0 where
  pub many : length held.pages ≡ length slots
  pub apart : AreApart slots
  pub found : IsIndex slots index

-- no frame is lent whose page is the one of the place `from`, or one behind it
abbrev pub AreHereFrom : List Place → ℕ → List Slot → Held → Type 0
AreHereFrom places from slots held = (f n : ℕ) (d : Place) → f < length slots → from < length places → page_in slots f ≡ Some n → (get_or places from d).unit ≤ n → IsHere held (Page f)

-- the records of a part on the page that a frame holds: none where it holds none
abbrev pub records_for : Table → List ℕ → List Place → Option ℕ → List OnPage
records_for t text part None = []
records_for t text part (Some n) = page_records t text (places_of n part)

-- THE FRAMES ONCE A PART IS REPEATED on all the pages that they hold: each page is what its own records make of it, and the first that was
-- done to it is its oldest change that isn't on the disk where there was none. The windows are as they were, and what was here still is
pub record AreRepeated (t : Table) (text : List ℕ) (part : List Place) (slots slots' : List Slot) (held held' : Held) : Type 0 where
  pub slot : (f : ℕ) → get_or slots' f no_slot ≡ record { number = page_in slots f; since = since_repeated (records_for t text part (page_in slots f)) (get_or held.pages f []) (since_of slots (Some f)) }
  pub bytes : (f : ℕ) → get_or held'.pages f [] ≡ repeated (records_for t text part (page_in slots f)) (get_or held.pages f [])
  pub count : length slots' ≡ length slots
  pub many : length held'.pages ≡ length held.pages
  pub windows : held'.windows ≡ held.windows
  pub block : held'.block ≡ held.block
  pub here : (f : ℕ) → IsHere held (Page f) → IsHere held' (Page f)
  pub well : (f : ℕ) → IsHere held (Page f) → IsWell (get_or held.pages f []) → IsWell (get_or held'.pages f [])
