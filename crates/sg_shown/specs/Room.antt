-- What is there, of a space over an engine at two moments.
use Rattle.std.specs.Prelude.{◌≡◌, ℕ, ◌+◌, length}
use Rattle.sg_alloc.specs.Flags.{free_of}
use Rattle.sg_shown.specs.Shown.{Over, has_page, has_band}

-- as many pages and bands, the same of them are there, and as many are free
pub record SameRoom (a b : Over) : Type 0 where
  pub pages : length b.maps.pages ≡ length a.maps.pages
  pub bands : length b.maps.bands ≡ length a.maps.bands
  pub page : (p : ℕ) → has_page b p ≡ has_page a p
  pub band : (n : ℕ) → has_band b n ≡ has_band a n
  pub free_pages : free_of b.maps.pages + free_of b.unfreed.pages ≡ free_of a.maps.pages + free_of a.unfreed.pages
  pub free_bands : free_of b.maps.bands + free_of b.unfreed.bands ≡ free_of a.maps.bands + free_of a.unfreed.bands
