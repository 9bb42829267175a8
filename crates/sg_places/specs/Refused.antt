-- Which refusal comes when.
use Rattle.std.specs.Prelude.{◌≡◌, ℕ, List, Some}
use Rattle.sg_record.specs.Records.{Record}
use Rattle.sg_places.specs.Asked.{first_outside}
use Rattle.sg_places.specs.declared.checking.Refusal.{Refusal}
use Rattle.sg_places.specs.declared.checking.Refusal.TheVariants.{Outside, Torn}

-- the records of frames, of which the first one's gate is at this offset, are refused only where one is of a page or a band that isn't there,
-- with the first such frame
abbrev pub Refuses : (pages bands start : ℕ) → List (List Record) → Refusal → Type 0
Refuses pages bands start frames (Outside gate) = first_outside pages bands start frames ≡ Some gate
Refuses pages bands start frames Torn = ⊥
