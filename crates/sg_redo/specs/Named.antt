-- Which unit the records of a text name.
use Rattle.std.specs.Prelude.{◌≡◌, ℕ, ◌+◌, ◌==◌, Bool, true, false, List, filter, Option, Some, None}
use Rattle.std.specs.List.{All}
use Rattle.sg_record.specs.Changes.{Change}
use Rattle.sg_record.specs.Changes.Change.{Page, SegWrite, SegOp}
use Rattle.sg_redo.specs.declared.place.Place.{Place}
use Rattle.sg_redo.specs.Places.{change_at}

-- a change is one of this unit: a page has its own number, a band the number of pages and its own
abbrev pub names : (pages : ℕ) → Option Change → (unit : ℕ) → Bool
names pages None unit = false
names pages (Some (Page c)) unit = c.page == unit
names pages (Some (SegWrite c)) unit = pages + c.band == unit
names pages (Some (SegOp c)) unit = pages + c.band == unit

-- each place has the unit that the record there names
abbrev pub AreNamed : (pages : ℕ) → (text : List ℕ) → List Place → Type 0
AreNamed pages text places = All (λ p. names pages (change_at text p.at) p.unit ≡ true) places

-- THE PLACES WHOSE RECORDS NAME THIS UNIT, in their order
abbrev pub named : (pages : ℕ) → (text : List ℕ) → (unit : ℕ) → List Place → List Place
named pages text unit places = filter (λ p. names pages (change_at text p.at) unit) places
