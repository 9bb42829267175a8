-- How much room a stock may take.
use Rattle.std.specs.Prelude.{◌≡◌, ℕ, ◌+◌, ◌-◌, ◌/◌, ◌≤◌}
use Rattle.std.specs.List.{sum_by}
use Rattle.sg_array.specs.Array.{rounded_up, pages_for}
use Rattle.sg_hash.specs.Table.{most_pages}
use Rattle.sg_room.specs.Marks.{Extent, Holding, Stock}
use Rattle.sg_room.specs.Marks.Extent.{OfArray, OfTable, OfBlob}

-- how many pages and how many bands an object has at most
abbrev pub page_bound : Extent → ℕ
page_bound (OfArray size peak) = pages_for size peak
page_bound (OfTable peak count) = most_pages peak count
page_bound (OfBlob peak) = 1

abbrev pub band_bound : Extent → ℕ
band_bound (OfArray size peak) = 0
band_bound (OfTable peak count) = 0
band_bound (OfBlob peak) = rounded_up peak 32768

-- and the catalogue, by the most rows that it had: 79 in a page
abbrev pub catalog_bound : ℕ → ℕ
catalog_bound rows = 1 + (rows - 1) / 79

-- all of a stock
abbrev pub page_sum : Stock → ℕ
page_sum s = catalog_bound s.rows + sum_by (λ (h : Holding). page_bound h.extent) s.holdings

abbrev pub band_sum : Stock → ℕ
band_sum s = sum_by (λ (h : Holding). band_bound h.extent) s.holdings

-- the sizes of a store: how many pages and bands it has, and how many of the bands hold its map
pub record Sizes : Type 0 where
  pub pages : ℕ
  pub bands : ℕ
  pub map : ℕ

-- so many free pages and bands obey a stock: no more pages are taken than its bounds say, and exactly its bands
pub record ObeysStock (z : Sizes) (free_pages free_bands : ℕ) (s : Stock) : Type 0 where
  pub pages : z.pages ≤ free_pages + page_sum s
  pub bands : free_bands + (z.map + band_sum s) ≡ z.bands
