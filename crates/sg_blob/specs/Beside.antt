-- How many bands a blob has, and what leaves it as it was.
use Rattle.std.specs.Prelude.{◌≡◌, ℕ, ◌+◌, ◌-◌, ◌/◌, List, length, Option}
use Rattle.sg_base.specs.Sheet.{Sheet}
use Rattle.sg_base.specs.declared.page.TheConstants.{BAND_SIZE}
use Rattle.sg_space.specs.View.{Space}
use Rattle.sg_blob.specs.Blob.{Blob, IsBlob, OwnsBand}

-- A blob has its peak divided by the bytes of a band, and rounded up.
abbrev pub KeepsBound : Type 0
KeepsBound = (pages : ℕ → Option Sheet) (bands : ℕ → Option (List ℕ)) (root : ℕ) (b : Blob) → IsBlob pages bands root b → length b.bands ≡ (b.peak + (BAND_SIZE - 1)) / BAND_SIZE

-- A blob stands where its root says what it said and its bands hold what they held.
abbrev pub StaysInPlace : Type 0
StaysInPlace = (old new : Space) (root : ℕ) (b : Blob) → IsBlob old.pages.at old.bands.at root b → new.pages.at root ≡ old.pages.at root → ((n : ℕ) → OwnsBand b.bands n → new.bands.at n ≡ old.bands.at n) → IsBlob new.pages.at new.bands.at root b
