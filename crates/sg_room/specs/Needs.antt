-- What an accepted verb needs, by the object that stands under its name and by its peak.
use Rattle.std.specs.Prelude.{ℕ, ◌+◌, ◌-◌, max, List, length, Option, Some, None}
use Rattle.std.specs.FinMap.{get}
use Rattle.sg_array.specs.Array.{rounded_up}
use Rattle.sg_model.specs.Objects.{Object}
use Rattle.sg_model.specs.Objects.Object.{Table, Blob}
use Rattle.sg_model.specs.Verb.{Verb}
use Rattle.sg_model.specs.Verb.Verb.{MakeArray, MakeTable, MakeBlob, Push, Put, Del, Write, Size}

-- so many free pages and bands, and how many of the pages are kept then for its undoing
pub record Needed : Type 0 where
  pub pages : ℕ
  pub bands : ℕ
  pub kept : ℕ

abbrev pub no_needs : Needed
no_needs = record { pages = 0; bands = 0; kept = 0 }

abbrev pub pages_alone : ℕ → Needed
pages_alone n = record { pages = n; bands = 0; kept = 0 }

-- of an entry put, by the value that its key has
abbrev pub needed_put : Option (List ℕ) → Needed
needed_put None = pages_alone 12
needed_put (Some value) = record { pages = 2; bands = 0; kept = 1 }

-- of an entry removed
abbrev pub needed_del : Option (List ℕ) → Needed
needed_del None = no_needs
needed_del (Some value) = record { pages = 1; bands = 0; kept = 1 }

-- the bands of so many bytes beyond those that the greatest length so far has taken
abbrev pub bands_beyond : (length peak : ℕ) → Needed
bands_beyond n peak = record { pages = 0; bands = rounded_up n 32768 - rounded_up peak 32768; kept = 0 }

abbrev pub needed : Verb → Option Object → (peak : ℕ) → Needed
needed (MakeArray size) old peak = pages_alone 2
needed MakeTable old peak = pages_alone 6
needed MakeBlob old peak = pages_alone 2
needed (Push value) old peak = pages_alone 2
needed (Put key value) (Some (Table m)) peak = needed_put (get m key)
needed (Del key) (Some (Table m)) peak = needed_del (get m key)
needed (Write at bytes) (Some (Blob x)) peak = bands_beyond (max (length x) (at + length bytes)) peak
needed (Size n) (Some (Blob x)) peak = bands_beyond n peak
needed verb old peak = no_needs
