-- What is taken before the walk, and behind it.
use Rattle.std.specs.Prelude.{◌≡◌, ℕ, ◌+◌, ◌<◌, ◌≤◌, true, false, List, Bool, Some, IsSome, length, slice_get}
use Rattle.sg_alloc.specs.Flags.{free_of, map_bands_of}
use Rattle.sg_alloc.specs.declared.maps.Maps.{Maps}
use Rattle.sg_action.specs.States.{State}
use Rattle.sg_actions.specs.Taken.{is_set}
use Rattle.sg_contents.specs.Standing.{Contents, IsReachedPage, IsReachedBand}
use Rattle.sg_contents.specs.Meaning.{page_total, band_total}
use Rattle.sg_reader.specs.Alike.{ReadsAs}

-- of so many pages and bands exactly page 0 and the bands of the allocation map are set
pub record AreFirst (pages bands : ℕ) (maps : Maps) : Type 0 where
  pub pages_are : length maps.pages ≡ pages
  pub bands_are : length maps.bands ≡ bands
  pub first : slice_get maps.pages 0 ≡ Some true
  pub others : (p : ℕ) → 0 < p → p < pages → slice_get maps.pages p ≡ Some false
  pub map : (b : ℕ) → b < map_bands_of pages bands → slice_get maps.bands b ≡ Some true
  pub other_bands : (b : ℕ) → map_bands_of pages bands ≤ b → b < bands → slice_get maps.bands b ≡ Some false
  pub free : free_of maps.pages + 1 ≡ pages
  pub free_bands : free_of maps.bands + map_bands_of pages bands ≡ bands

-- each of so many pages that is taken says something
abbrev pub AllSay : (pages : ℕ) → State → List Bool → Type 0
AllSay pages x taken = (p : ℕ) → p < pages → is_set taken p ≡ true → IsSome (x.pages p)

-- WHAT A STATE READS AS, AND WHAT IS TAKEN OF IT, of so many pages and bands: all that these contents reach, and the map's bands, and no more
pub record IsWalked (pages bands : ℕ) (x : State) (maps : Maps) : Type 0 where
  pub pages_are : length maps.pages ≡ pages
  pub bands_are : length maps.bands ≡ bands
  pub contents : Contents
  pub reads : ReadsAs pages bands x contents
  -- all that any contents reach that the state reads as is set,
  pub page : (s : Contents) → ReadsAs pages bands x s → (p : ℕ) → IsReachedPage s p → slice_get maps.pages p ≡ Some true
  pub band : (s : Contents) → ReadsAs pages bands x s → (b : ℕ) → IsReachedBand s b → slice_get maps.bands b ≡ Some true
  pub map : (b : ℕ) → b < map_bands_of pages bands → slice_get maps.bands b ≡ Some true
  -- and as many are free as these leave
  pub free : free_of maps.pages + page_total contents ≡ pages
  pub free_bands : free_of maps.bands + (map_bands_of pages bands + band_total contents) ≡ bands
