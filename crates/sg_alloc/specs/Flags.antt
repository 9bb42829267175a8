-- Which of some numbered things are taken: a flag for each, from number 0 on.
use Rattle.std.specs.Prelude.{◌≡◌, ℕ, ◌+◌, ◌/◌, ◌<◌, Bool, true, false, not, List, Some, slice_get}
use Rattle.std.specs.List.{count_by}

-- how many are free
abbrev pub free_of : List Bool → ℕ
free_of taken = count_by not taken

-- the number is that of a free one, and all below it are taken
pub record IsLeastFree (taken : List Bool) (n : ℕ) : Type 0 where
  pub free : slice_get taken n ≡ Some false
  pub below : (k : ℕ) → k < n → slice_get taken k ≡ Some true

-- how many bands of 262,144 bits hold a bit for each page and each band
abbrev pub map_bands_of : ℕ → ℕ → ℕ
map_bands_of pages bands = (pages + bands + 262143) / 262144
