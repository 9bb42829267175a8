-- What leaves the catalogue as it was.
use Rattle.std.specs.Prelude.{◌≡◌, ℕ, Option}
use Rattle.sg_base.specs.Sheet.{Sheet}
use Rattle.sg_catalog.specs.Catalog.{Catalog, IsCatalog, Owns}

-- The catalogue stands where each of its pages says what it said.
abbrev pub StaysInPlace : Type 0
StaysInPlace = (old new : ℕ → Option Sheet) (c : Catalog) → IsCatalog old c → ((p : ℕ) → Owns c p → new p ≡ old p) → IsCatalog new c
