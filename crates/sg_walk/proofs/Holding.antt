-- What was reached once holds the objects.
use Rattle.std.proofs.Common.{◌≡◌, ◌≢◌, ℕ, zero, suc, ◌+◌, ◌-◌, ◌<◌, ◌≤◌, ◌==◌, ◌⊎◌, inl, inr, Bool, true, false, cond, List, [], ◌∷◌, ◌++◌, length, map, Option, Some, None, slice_get, refl, sym, ap, subst, ◌∙◌, arith, add-one}
use Rattle.std.specs.List.{count_by}
use Rattle.std.proofs.lemmas.Bool.{cases_eq, cases_lt}
use Rattle.std.proofs.lemmas.Bool.Decides.{nat_tests}
use Rattle.std.proofs.lemmas.List.Sums.{sum_by-cons}
use Rattle.std.proofs.lemmas.Option.{slice_get_within}
use Rattle.sg_alloc.specs.declared.maps.Maps.{Maps}
use Rattle.sg_array.specs.Array.{Array}
use Rattle.sg_array.specs.Array as array
use Rattle.sg_base.specs.Sheet.{Sheet}
use Rattle.sg_catalog.specs.Catalog.{Catalog, IsCatalog, rows}
use Rattle.sg_catalog.specs.Catalog as listing
use Rattle.sg_catalog.specs.declared.row.Row.{Row}
use Rattle.sg_names.specs.Pages.{later_no, later_pages, pages_for, page_no}
use Rattle.sg_names.proofs.Complete.{page_at}
use Rattle.sg_space.specs.View.{Space}
use Rattle.sg_space.proofs.Known.{same_some}
use Rattle.sg_reach.specs.Marks.{CanSet}
use Rattle.sg_reach.specs.Parts.{array_pages}
use Rattle.sg_reach.proofs.Lists.{in_front, in_back, nth}
use Rattle.sg_tables.specs.Table.{chains}
use Rattle.sg_tables.proofs.Lists.{never, rest_apart, in_chains}
use Rattle.sg_walk.specs.Bodies.{body_pages, body_bands}
use Rattle.sg_walk.specs.Counts.{IsBegun}
use Rattle.sg_walk.specs.Rows.{AreBodies, Reaches, all_pages, all_bands, bodies_of, reached_pages}
use Rattle.sg_contents.specs.Standing.{Body, Contents, IsBody, OwnsPage, OwnsBand, IsAmong, IsContents, is_at, map_bands}
use Rattle.sg_contents.specs.Standing.Body.{AnArray, ATable, ABlob}
use Rattle.sg_walk.proofs.Naming.{AreApart, roots_apart}

-- what a body owns is among its pages and bands
array_in : (root : ℕ) (a : Array) (p : ℕ) → array.Owns root a p → (k : ℕ) × (slice_get (array_pages root a) k ≡ Some p)
array_in root a p o = elim o [
  | inl e ↦ (0, ap (λ (n : ℕ). Some n) (sym e))
  | inr q ↦ elim q [
    | inl j ↦ (suc j.0, in_front a.index a.leaves j.0 p j.1)
    | inr d ↦ (suc (length a.index + d.0), in_back a.index a.leaves d.0 p d.1)
  ]
]

pub page_in : (root : ℕ) (b : Body) (p : ℕ) → OwnsPage root b p → (k : ℕ) × (slice_get (body_pages root b) k ≡ Some p)
page_in root (AnArray a) p o = array_in root a p o
page_in root (ATable t) p o = elim o [
  | inl e ↦ (0, ap (λ (n : ℕ). Some n) (sym e))
  | inr q ↦ elim q [
    | inl d ↦ let k = array_in t.directory t.names p d in (suc k.0, in_front (array_pages t.directory t.names) (chains t.buckets) k.0 p k.1)
    | inr b ↦
        let k = in_chains t.buckets b.index b.owns.0 p b.bucket b.is b.owns.1 in
        (suc (length (array_pages t.directory t.names) + k.0), in_back (array_pages t.directory t.names) (chains t.buckets) k.0 p k.1)
  ]
]
page_in root (ABlob b) p o = (0, ap (λ (n : ℕ). Some n) (sym o))

pub band_in : (b : Body) (n : ℕ) → OwnsBand b n → (k : ℕ) × (slice_get (body_bands b) k ≡ Some n)
band_in (AnArray a) n o = absurd o
band_in (ATable t) n o = absurd o
band_in (ABlob b) n o = o

-- lists that rows have, one behind another
abbrev pub joined : (Row → List ℕ) → List Row → List ℕ
joined g [] = []
joined g (x ∷ xs) = g x ++ joined g xs

pub pages_joined : (f : ℕ → Body) (xs : List Row) → all_pages xs (map (λ (row : Row). f row.root.0) xs) ≡ joined (λ row. body_pages row.root.0 (f row.root.0)) xs
pages_joined f [] = refl
pages_joined f (x ∷ xs) = ap (λ (ns : List ℕ). body_pages x.root.0 (f x.root.0) ++ ns) (pages_joined f xs)

pub bands_joined : (f : ℕ → Body) (xs : List Row) → all_bands (map (λ (row : Row). f row.root.0) xs) ≡ joined (λ row. body_bands (f row.root.0)) xs
bands_joined f [] = refl
bands_joined f (x ∷ xs) = ap (λ (ns : List ℕ). body_bands (f x.root.0) ++ ns) (bands_joined f xs)

in_joined : (g : Row → List ℕ) (xs : List Row) (row : Row) (k n : ℕ) → IsAmong xs row → slice_get (g row) k ≡ Some n → (m : ℕ) × (slice_get (joined g xs) m ≡ Some n)
in_joined g [] row k n a e = absurd a
in_joined g (x ∷ xs) row k n a e = elim a [
  | inl same ↦ (k, in_front (g x) (joined g xs) k n (ap (λ (r : Row). slice_get (g r) k) (sym same) ∙ e))
  | inr l ↦ let h = in_joined g xs row k n l e in (length (g x) + h.0, in_back (g x) (joined g xs) h.0 n h.1)
]

-- nothing is in the lists of two rows
joined_apart : {taken : List Bool} (g : Row → List ℕ) (xs : List Row) → CanSet taken (joined g xs) → (row other : Row) → IsAmong xs row → IsAmong xs other → row.root.0 ≢ other.root.0 → (i j n : ℕ) → slice_get (g row) i ≡ Some n → slice_get (g other) j ≡ Some n → ⊥
joined_apart g [] can row other a b ne i j n e f = absurd a
joined_apart g (x ∷ xs) can row other a b ne i j n e f = elim a [
  | inl here ↦ elim b [
    | inl too ↦ ne (ap (λ (r : Row). r.root.0) (here ∙ sym too))
    | inr l ↦ let h = in_joined g xs other j n l f in never (g x) (joined g xs) can i h.0 n (ap (λ (r : Row). slice_get (g r) i) (sym here) ∙ e) h.1
  ]
  | inr l ↦ elim b [
    | inl too ↦ let h = in_joined g xs row i n l e in never (g x) (joined g xs) can j h.0 n (ap (λ (r : Row). slice_get (g r) j) (sym too) ∙ f) h.1
    | inr m ↦ joined_apart g xs (rest_apart (g x) (joined g xs) can) row other l m ne i j n e f
  ]
]

-- the body of a row
among_body : (s : Space) (f : ℕ → Body) (xs : List Row) → AreBodies s xs (map (λ (row : Row). f row.root.0) xs) → (row : Row) → IsAmong xs row → IsBody s row.kind row.root.0 (f row.root.0)
among_body s f [] h row a = absurd a
among_body s f (x ∷ xs) h row a = elim a [
  | inl e ↦ subst (λ (r : Row). IsBody s r.kind r.root.0 (f r.root.0)) (sym e) h.0
  | inr l ↦ among_body s f xs h.1 row l
]

-- a root is that of one row
count_step : (root : ℕ) (x : Row) (xs : List Row) (b : Bool) → (x.root.0 == root) ≡ b → count_by (is_at root) (x ∷ xs) ≡ cond {A = ℕ} b 1 0 + count_by (is_at root) xs
count_step root x xs b e = sum_by-cons (λ (r : Row). cond {A = ℕ} (is_at root r) 1 0) x xs ∙ ap (λ (t : Bool). cond {A = ℕ} t 1 0 + count_by (is_at root) xs) e

equal : (m n : ℕ) → (m == n) ≡ true → m ≡ n
equal m n e = grind (arith, nat_tests, e)

none_at : (root : ℕ) (xs : List Row) → ((row : Row) → IsAmong xs row → row.root.0 ≢ root) → count_by (is_at root) xs ≡ 0
none_at root [] h = refl
none_at root (x ∷ xs) h = by_test (none_at root xs (λ row a. h row (inr a))) (x.root.0 == root) refl
  where
    by_test : count_by (is_at root) xs ≡ 0 → (b : Bool) → (x.root.0 == root) ≡ b → count_by (is_at root) (x ∷ xs) ≡ 0
    by_test rest true e = absurd (h x (inl refl) (equal x.root.0 root e))
    by_test rest false e = let one = count_step root x xs false e in omega arith

once_at : (root : ℕ) (xs : List Row) → AreApart xs → count_by (is_at root) xs ≤ 1
once_at root [] apart = omega arith
once_at root (x ∷ xs) apart = by_test (once_at root xs apart.1) (x.root.0 == root) refl
  where
    by_test : count_by (is_at root) xs ≤ 1 → (b : Bool) → (x.root.0 == root) ≡ b → count_by (is_at root) (x ∷ xs) ≤ 1
    by_test low true e =
        let one = count_step root x xs true e in
        let rest = none_at root xs (λ row a same. apart.0 row a (same ∙ sym (equal x.root.0 root e))) in
        omega arith
    by_test low false e = let one = count_step root x xs false e in omega arith

two_flags : {o : Option Bool} → o ≡ Some true → o ≡ Some false → ⊥
two_flags a b = cc

-- the pages of the catalogue behind the first, and the pages and bands of a row
abbrev pub later_of : (ℕ → Option Sheet) → Contents → List ℕ
later_of at s = later_pages at (pages_for s.catalog.peak - 1)

abbrev pub pages_of : Contents → Row → List ℕ
pages_of s row = body_pages row.root.0 (s.body row.root.0)

abbrev pub bands_of : Contents → Row → List ℕ
bands_of s row = body_bands (s.body row.root.0)

-- IT IS WHAT THE OBJECTS' READING WANTS
pub contents_are : (space : Space) (old new : Maps) (r : Reaches space old new) → IsBegun space old → IsContents space r.contents
contents_are space old new r begun = record {
  catalog = r.reads.catalog;
  body = among_body space (r.contents).body (rows (r.contents).catalog) r.reads.bodies;
  once = λ root. once_at root (rows (r.contents).catalog) (roots_apart space (rows (r.contents).catalog) (bodies_of r.contents) old.pages r.reads.bodies (rest_apart (later_of space.pages.at (r.contents)) (all_pages (rows (r.contents).catalog) (bodies_of r.contents)) can));
  beside = λ row a page o owned. beside_at row a page (page_in row.root.0 ((r.contents).body row.root.0) page o) owned.0 owned.1;
  apart = λ row other a b ne page o q.
      let k = page_in row.root.0 ((r.contents).body row.root.0) page o in
      let l = page_in other.root.0 ((r.contents).body other.root.0) page q in
      joined_apart (pages_of (r.contents)) (rows (r.contents).catalog) bodies_can row other a b ne k.0 l.0 page k.1 l.1;
  bands_apart = λ row other a b ne band o q.
      let k = band_in ((r.contents).body row.root.0) band o in
      let l = band_in ((r.contents).body other.root.0) band q in
      joined_apart (bands_of (r.contents)) (rows (r.contents).catalog) bands_can row other a b ne k.0 l.0 band k.1 l.1;
  behind_map = λ row a band o. elim (cases_lt band (map_bands space)) [
    | inl below ↦
        let k = band_in ((r.contents).body row.root.0) band o in
        let h = in_joined (bands_of (r.contents)) (rows (r.contents).catalog) row k.0 band a k.1 in
        absurd (two_flags (begun.map band below) (bands_can.free h.0 band h.1))
    | inr past ↦ past
  ];
  map = begun.taken;
}
  where
    can : CanSet old.pages ((later_of space.pages.at (r.contents)) ++ all_pages (rows (r.contents).catalog) (bodies_of r.contents))
    can = r.set.pages_set.can

    all_can : CanSet old.pages ((later_of space.pages.at (r.contents)) ++ joined (pages_of (r.contents)) (rows (r.contents).catalog))
    all_can = subst (λ (ns : List ℕ). CanSet old.pages ((later_of space.pages.at (r.contents)) ++ ns)) (pages_joined (r.contents).body (rows (r.contents).catalog)) can

    bodies_can : CanSet old.pages (joined (pages_of (r.contents)) (rows (r.contents).catalog))
    bodies_can = rest_apart (later_of space.pages.at (r.contents)) (joined (pages_of (r.contents)) (rows (r.contents).catalog)) all_can

    bands_can : CanSet old.bands (joined (bands_of (r.contents)) (rows (r.contents).catalog))
    bands_can = subst (CanSet old.bands) (bands_joined (r.contents).body (rows (r.contents).catalog)) r.set.bands_set.can

    beside_at : (row : Row) → IsAmong (rows (r.contents).catalog) row → (page : ℕ) → (k : ℕ) × (slice_get (body_pages row.root.0 ((r.contents).body row.root.0)) k ≡ Some page) → (j : ℕ) → slice_get (r.contents).catalog.pages j ≡ Some page → ⊥
    beside_at row a page k zero e =
        let h = in_joined (pages_of (r.contents)) (rows (r.contents).catalog) row k.0 page a k.1 in
        let zero_page : page ≡ 0 = same_some page 0 (sym e ∙ r.reads.catalog.raw.first) in
        two_flags (subst (λ (p : ℕ). slice_get old.pages p ≡ Some true) (sym zero_page) begun.first) (bodies_can.free h.0 page h.1)
    beside_at row a page k (suc j) e =
        let h = in_joined (pages_of (r.contents)) (rows (r.contents).catalog) row k.0 page a k.1 in
        let exactly = r.reads.catalog.exactly in
        let within : suc j < length (r.contents).catalog.pages = slice_get_within (r.contents).catalog.pages (suc j) page e in
        let no : page_no space.pages.at (suc j) ≡ page = same_some (page_no space.pages.at (suc j)) page (sym (page_at (r.contents).catalog r.reads.catalog (suc j) within) ∙ e) in
        let there : slice_get (later_of space.pages.at (r.contents)) j ≡ Some page = nth (later_no space.pages.at) (pages_for (r.contents).catalog.peak - 1) j (omega arith) ∙ ap (λ (n : ℕ). Some n) (ap (page_no space.pages.at) (add-one j) ∙ no) in
        never (later_of space.pages.at (r.contents)) (joined (pages_of (r.contents)) (rows (r.contents).catalog)) all_can j h.0 page there h.1
