-- How many pages and bands are reached.
use Rattle.std.proofs.Common.{◌≡◌, ℕ, ◌+◌, ◌-◌, ◌≤◌, List, [], ◌∷◌, ◌++◌, length, map, refl, arith, length-append}
use Rattle.std.specs.List.{sum_by}
use Rattle.std.proofs.lemmas.List.FromFn.{length-map-range_with_len}
use Rattle.std.proofs.lemmas.List.Sums.{sum_by-cons}
use Rattle.sg_alloc.specs.declared.maps.Maps.{Maps}
use Rattle.sg_array.specs.Array.{Array, page_count}
use Rattle.sg_bucket.specs.Bucket.{Bucket}
use Rattle.sg_catalog.specs.Catalog.{rows}
use Rattle.sg_catalog.specs.declared.row.Row.{Row}
use Rattle.sg_hash.specs.Table.{chain_pages}
use Rattle.sg_names.specs.Pages.{later_no, later_pages, pages_for}
use Rattle.sg_reach.specs.Parts.{array_pages}
use Rattle.sg_reach.proofs.Counting.{sets_count}
use Rattle.sg_space.specs.View.{Space}
use Rattle.sg_tables.specs.Table.{chains}
use Rattle.sg_walk.specs.Bodies.{body_pages, body_bands}
use Rattle.sg_walk.specs.Counts.{AreCounted}
use Rattle.sg_walk.specs.Rows.{Reaches, all_pages, all_bands, bodies_of, reached_pages, reached_bands}
use Rattle.sg_contents.specs.Standing.{Body, Contents}
use Rattle.sg_contents.specs.Meaning.{pages_in, bands_in}
use Rattle.sg_contents.specs.Standing.Body.{AnArray, ATable, ABlob}

chains_long : (bs : List Bucket) → length (chains bs) ≡ chain_pages bs
chains_long [] = refl
chains_long (b ∷ bs) =
    let rest = chains_long bs in
    let both : length (b.pages ++ chains bs) ≡ length b.pages + length (chains bs) = length-append b.pages (chains bs) in
    let sum : chain_pages (b ∷ bs) ≡ length b.pages + chain_pages bs = sum_by-cons (λ (x : Bucket). length x.pages) b bs in
    omega arith

array_long : (root : ℕ) (a : Array) → length (array_pages root a) ≡ page_count a
array_long root a = let one : length (a.index ++ a.leaves) ≡ length a.index + length a.leaves = length-append a.index a.leaves in omega arith

body_long : (root : ℕ) (b : Body) → length (body_pages root b) ≡ pages_in b
body_long root (AnArray a) = array_long root a
body_long root (ATable t) =
    let names = array_long t.directory t.names in
    let buckets = chains_long t.buckets in
    let both : length (array_pages t.directory t.names ++ chains t.buckets) ≡ length (array_pages t.directory t.names) + length (chains t.buckets) = length-append (array_pages t.directory t.names) (chains t.buckets) in
    omega arith
body_long root (ABlob b) = refl

bands_long : (b : Body) → length (body_bands b) ≡ bands_in b
bands_long (AnArray a) = refl
bands_long (ATable t) = refl
bands_long (ABlob b) = refl

all_long : (f : ℕ → Body) (xs : List Row) → length (all_pages xs (map (λ (row : Row). f row.root.0) xs)) ≡ sum_by (λ (row : Row). pages_in (f row.root.0)) xs
all_long f [] = refl
all_long f (x ∷ xs) =
    let rest = all_long f xs in
    let one = body_long x.root.0 (f x.root.0) in
    let both : length (body_pages x.root.0 (f x.root.0) ++ all_pages xs (map (λ (row : Row). f row.root.0) xs)) ≡ length (body_pages x.root.0 (f x.root.0)) + length (all_pages xs (map (λ (row : Row). f row.root.0) xs)) = length-append (body_pages x.root.0 (f x.root.0)) (all_pages xs (map (λ (row : Row). f row.root.0) xs)) in
    let sum : sum_by (λ (row : Row). pages_in (f row.root.0)) (x ∷ xs) ≡ pages_in (f x.root.0) + sum_by (λ (row : Row). pages_in (f row.root.0)) xs = sum_by-cons (λ (row : Row). pages_in (f row.root.0)) x xs in
    omega (arith, rest, one, both, sum)

all_bands_long : (f : ℕ → Body) (xs : List Row) → length (all_bands (map (λ (row : Row). f row.root.0) xs)) ≡ sum_by (λ (row : Row). bands_in (f row.root.0)) xs
all_bands_long f [] = refl
all_bands_long f (x ∷ xs) =
    let rest = all_bands_long f xs in
    let one = bands_long (f x.root.0) in
    let both : length (body_bands (f x.root.0) ++ all_bands (map (λ (row : Row). f row.root.0) xs)) ≡ length (body_bands (f x.root.0)) + length (all_bands (map (λ (row : Row). f row.root.0) xs)) = length-append (body_bands (f x.root.0)) (all_bands (map (λ (row : Row). f row.root.0) xs)) in
    let sum : sum_by (λ (row : Row). bands_in (f row.root.0)) (x ∷ xs) ≡ bands_in (f x.root.0) + sum_by (λ (row : Row). bands_in (f row.root.0)) xs = sum_by-cons (λ (row : Row). bands_in (f row.root.0)) x xs in
    omega (arith, rest, one, both, sum)

pub counted : (space : Space) (old new : Maps) (r : Reaches space old new) → AreCounted old new r.contents
counted space old new r =
    let at = space.pages.at in
    let s : Contents = r.contents in
    let all = sets_count old.pages new.pages (reached_pages at s) r.set.pages_set in
    let objects = all_long s.body (rows s.catalog) in
    let later : length (later_pages at (pages_for s.catalog.peak - 1)) ≡ pages_for s.catalog.peak - 1 = length-map-range_with_len (later_no at) 0 (pages_for s.catalog.peak - 1) in
    let both : length (later_pages at (pages_for s.catalog.peak - 1) ++ all_pages (rows s.catalog) (bodies_of s)) ≡ length (later_pages at (pages_for s.catalog.peak - 1)) + length (all_pages (rows s.catalog) (bodies_of s)) = length-append (later_pages at (pages_for s.catalog.peak - 1)) (all_pages (rows s.catalog) (bodies_of s)) in
    let exactly : length s.catalog.pages ≡ pages_for s.catalog.peak = r.reads.catalog.exactly in
    let bands = sets_count old.bands new.bands (reached_bands s) r.set.bands_set in
    let many = all_bands_long s.body (rows s.catalog) in
    record { pages = omega (arith, all, objects, later, both, exactly); bands = omega (arith, bands, many) }
