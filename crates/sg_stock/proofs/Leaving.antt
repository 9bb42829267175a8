-- How much room all objects leave.
use Rattle.std.proofs.Common.{◌≡◌, ℕ, ◌≤◌, List, [], ◌∷◌, length, refl, inl, inr, arith}
use Rattle.std.specs.List.{sum_by}
use Rattle.std.proofs.lemmas.List.Sums.{sum_by-cons}
use Rattle.sg_catalog.specs.Catalog.{rows}
use Rattle.sg_catalog.specs.declared.row.Row.{Row}
use Rattle.sg_space.specs.View.{Space}
use Rattle.sg_contents.specs.Standing.{Body, Contents, IsBody, IsContents, IsAmong}
use Rattle.sg_contents.specs.Meaning.{pages_in, bands_in, reading, IsCounted}
use Rattle.sg_room.specs.Marks.{stock_of}
use Rattle.sg_room.specs.Bounds.{ObeysStock, page_bound, band_bound, catalog_bound}
use Rattle.sg_stock.specs.Laws.{sizes_of}
use Rattle.sg_stock.proofs.Bounds.{body_bound, body_bands}
use Rattle.sg_stock.proofs.Sums.{of_row, sum_stock}

abbrev Stand : Space → (ℕ → Body) → List Row → Type 0
Stand space body xs = (row : Row) → IsAmong xs row → IsBody space row.kind row.root.0 (body row.root.0)

abbrev pages_at : (ℕ → Body) → Row → ℕ
pages_at body row = pages_in (body row.root.0)

abbrev bands_at : (ℕ → Body) → Row → ℕ
bands_at body row = bands_in (body row.root.0)

pages_below : (space : Space) (body : ℕ → Body) (xs : List Row) → Stand space body xs → sum_by (pages_at body) xs ≤ sum_by (of_row page_bound body) xs
pages_below space body [] h = omega arith
pages_below space body (row ∷ xs) h =
    let here : pages_at body row ≤ of_row page_bound body row = body_bound space row.kind row.root.0 (body row.root.0) (h row (inl refl)) in
    let rest = pages_below space body xs (λ r a. h r (inr a)) in
    let left = sum_by-cons (pages_at body) row xs in
    let right = sum_by-cons (of_row page_bound body) row xs in
    omega (arith, here, rest, left, right)

bands_same : (space : Space) (body : ℕ → Body) (xs : List Row) → Stand space body xs → sum_by (bands_at body) xs ≡ sum_by (of_row band_bound body) xs
bands_same space body [] h = refl
bands_same space body (row ∷ xs) h =
    let here : bands_at body row ≡ of_row band_bound body row = body_bands space row.kind row.root.0 (body row.root.0) (h row (inl refl)) in
    let rest = bands_same space body xs (λ r a. h r (inr a)) in
    let left = sum_by-cons (bands_at body) row xs in
    let right = sum_by-cons (of_row band_bound body) row xs in
    omega (arith, here, rest, left, right)

-- THE PAGES THAT ARE TAKEN ARE NO MORE THAN THE STOCK'S BOUNDS, and the bands exactly the stock's and the map's
pub leaves_room : (space : Space) (s : Contents) → IsContents space s → IsCounted space s
    → ObeysStock (sizes_of space) space.pages.free space.bands.free (stock_of (reading s))
unfolding reading
leaves_room space s h counted = record {
  pages =
      (let below = pages_below space s.body (rows s.catalog) h.body in
      let sum = sum_stock page_bound space s h in
      let exactly : length s.catalog.pages ≡ catalog_bound s.catalog.peak = h.catalog.exactly in
      let taken = counted.pages in
      omega (arith, below, sum, exactly, taken));
  bands =
      (let same = bands_same space s.body (rows s.catalog) h.body in
      let sum = sum_stock band_bound space s h in
      let taken = counted.bands in
      omega (arith, same, sum, taken));
}
