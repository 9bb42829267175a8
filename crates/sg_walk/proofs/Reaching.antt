-- What holds the objects may be reached.
use Rattle.std.proofs.Common.{◌≡◌, ◌≢◌, ℕ, zero, suc, ◌+◌, ◌-◌, ◌<◌, ◌≤◌, ◌==◌, ◌⊎◌, inl, inr, Bool, true, false, cond, List, [], ◌∷◌, ◌++◌, length, map, Option, Some, None, slice_get, refl, sym, ap, subst, ◌∙◌, arith, add-one}
use Rattle.std.specs.List.{count_by}
use Rattle.std.proofs.lemmas.Bool.{cases_lt, cases_eq}
use Rattle.std.proofs.lemmas.Bool.Decides.{nat_tests}
use Rattle.std.proofs.lemmas.List.Sums.{sum_by-cons}
use Rattle.std.proofs.lemmas.Option.{slice_get_within}
use Rattle.sg_alloc.specs.declared.maps.Maps.{Maps}
use Rattle.sg_array.specs.Array.{Array, IsArray}
use Rattle.sg_array.specs.Array as array
use Rattle.sg_base.specs.Sheet.{Sheet}
use Rattle.sg_bucket.specs.Bucket.{Bucket}
use Rattle.sg_catalog.specs.Catalog.{Catalog, IsCatalog, rows}
use Rattle.sg_catalog.specs.Catalog as listing
use Rattle.sg_catalog.specs.declared.row.ObjectKind.{ObjectKind}
use Rattle.sg_catalog.specs.declared.row.ObjectKind.TheVariants as kinds
use Rattle.sg_catalog.specs.declared.row.Row.{Row}
use Rattle.sg_hash.specs.Table.{HashTable, IsHashTable, IsInBuckets, first_page}
use Rattle.sg_hash.specs.Table as table
use Rattle.sg_names.specs.Pages.{later_no, later_pages, pages_for, page_no}
use Rattle.sg_names.proofs.Complete.{page_at}
use Rattle.sg_space.specs.Units.{HasAt}
use Rattle.sg_space.specs.View.{Space}
use Rattle.sg_space.proofs.Known.{same_some, both}
use Rattle.sg_reach.specs.Marks.{CanSet}
use Rattle.sg_reach.specs.Parts.{array_pages}
use Rattle.sg_reach.proofs.Lists.{in_both, one_is, nth_back}
use Rattle.sg_tables.specs.Table.{chains, table_pages}
use Rattle.sg_walk.specs.Bodies.{body_pages, body_bands}
use Rattle.sg_walk.specs.Counts.{IsFresh}
use Rattle.sg_walk.specs.Rows.{AreBodies, CanReach, all_pages, all_bands, bodies_of}
use Rattle.sg_contents.specs.Standing.{Body, Contents, IsBody, OwnsPage, OwnsBand, IsAmong, IsContents, is_at, map_bands}
use Rattle.sg_contents.specs.Standing.Body.{AnArray, ATable, ABlob}
use Rattle.sg_walk.proofs.Holding.{joined, pages_joined, bands_joined, later_of, pages_of, bands_of}

-- LISTS WITHOUT ONE TWICE
abbrev pub IsOnceEach : List ℕ → Type 0
IsOnceEach ns = (i j n : ℕ) → slice_get ns i ≡ Some n → slice_get ns j ≡ Some n → i ≡ j

none_twice : IsOnceEach []
none_twice i j n e f = absurd (cc)

one_once : (n : ℕ) → IsOnceEach (n ∷ [])
one_once n i j m e f = (one_is n m i e).0 ∙ sym ((one_is n m j f).0)

both_once : (ps qs : List ℕ) → IsOnceEach ps → IsOnceEach qs → ((i j n : ℕ) → slice_get ps i ≡ Some n → slice_get qs j ≡ Some n → ⊥) → IsOnceEach (ps ++ qs)
both_once ps qs a b never i j n e f = elim (in_both ps qs i n e) [
  | inl h ↦ elim (in_both ps qs j n f) [
    | inl k ↦ a i j n h.1 k.1
    | inr k ↦ absurd (never i k.0 n h.1 k.2)
  ]
  | inr h ↦ elim (in_both ps qs j n f) [
    | inl k ↦ absurd (never j h.0 n k.1 h.2)
    | inr k ↦ let same : h.0 ≡ k.0 = b h.0 k.0 n h.2 k.2 in h.1 ∙ (ap (λ (x : ℕ). length ps + x) same ∙ sym k.1)
  ]
]

-- PAGES OF DIFFERENT KINDS
abbrev HasKind : (ℕ → Option Sheet) → ℕ → ℕ → Type 0
HasKind at p kind = HasAt at p (λ (s : Sheet). s.kind ≡ kind)

other_kinds : {at : ℕ → Option Sheet} {p a b : ℕ} → HasKind at p a → HasKind at p b → a ≢ b → ⊥
other_kinds h k ne = ne (sym h.has ∙ both h k)

root_kind : {at : ℕ → Option Sheet} {root : ℕ} {a : Array} → IsArray at root a → HasKind at root 2
root_kind h = let f = h.built.names.first in record { what = f.what; is = f.is; has = f.has.kind }

index_kind : {at : ℕ → Option Sheet} {root : ℕ} {a : Array} → IsArray at root a → (j p : ℕ) → slice_get a.index j ≡ Some p → HasKind at p 3
index_kind h j p e = let f = h.built.names.index j p e in record { what = f.what; is = f.is; has = f.has.kind }

leaf_kind : {at : ℕ → Option Sheet} {root : ℕ} {a : Array} → IsArray at root a → (j p : ℕ) → slice_get a.leaves j ≡ Some p → HasKind at p 4
leaf_kind h j p e = let f = h.built.leaf j p e in record { what = f.what; is = f.is; has = f.has.kind }

-- what stands in a list of pages is owned
array_owned : (root : ℕ) (a : Array) (k p : ℕ) → slice_get (array_pages root a) k ≡ Some p → array.Owns root a p
array_owned root a zero p e = inl (sym (same_some root p e))
array_owned root a (suc k) p e = elim (in_both a.index a.leaves k p e) [
  | inl h ↦ inr (inl (k, h.1))
  | inr h ↦ inr (inr (h.0, h.2))
]

chains_owned : (bs : List Bucket) (k p : ℕ) → slice_get (chains bs) k ≡ Some p → IsInBuckets bs p
chains_owned [] k p e = absurd (cc)
chains_owned (b ∷ bs) k p e = elim (in_both b.pages (chains bs) k p e) [
  | inl h ↦ record { index = 0; bucket = b; is = refl; owns = (k, h.1) }
  | inr h ↦ let r = chains_owned bs h.0 p h.2 in record { index = suc r.index; bucket = r.bucket; is = r.is; owns = r.owns }
]

page_owned : (root : ℕ) (b : Body) (k p : ℕ) → slice_get (body_pages root b) k ≡ Some p → OwnsPage root b p
page_owned root (AnArray a) k p e = array_owned root a k p e
page_owned root (ATable t) zero p e = inl (sym (same_some root p e))
page_owned root (ATable t) (suc k) p e = elim (in_both (array_pages t.directory t.names) (chains t.buckets) k p e) [
  | inl h ↦ inr (inl (array_owned t.directory t.names k p h.1))
  | inr h ↦ inr (inr (chains_owned t.buckets h.0 p h.2))
]
page_owned root (ABlob b) k p e = (one_is root p k e).1

band_owned : (b : Body) (k n : ℕ) → slice_get (body_bands b) k ≡ Some n → OwnsBand b n
band_owned (AnArray a) k n e = absurd (cc)
band_owned (ATable t) k n e = absurd (cc)
band_owned (ABlob b) k n e = (k, e)

-- what is owned is there
array_there : {at : ℕ → Option Sheet} {root : ℕ} (a : Array) (p : ℕ) → IsArray at root a → array.Owns root a p → HasKind at p 2 ⊎ (HasKind at p 3 ⊎ HasKind at p 4)
array_there {at} a p h o = elim o [
  | inl e ↦ inl (subst (λ (x : ℕ). HasKind at x 2) (sym e) (root_kind h))
  | inr q ↦ elim q [
    | inl j ↦ inr (inl (index_kind h j.0 p j.1))
    | inr d ↦ inr (inr (leaf_kind h d.0 p d.1))
  ]
]

some_there : {at : ℕ → Option Sheet} {p k : ℕ} → HasKind at p k → (s : Sheet) × (at p ≡ Some s)
some_there h = (h.what, h.is)

bucket_there : {at : ℕ → Option Sheet} {root : ℕ} (t : HashTable) (p : ℕ) → IsHashTable at root t → IsInBuckets t.buckets p → HasKind at p 6
bucket_there t p h o = let f = (h.built.bucket o.index o.bucket o.is).linked.part o.owns.0 p o.owns.1 in record { what = f.what; is = f.is; has = f.has.page.kind }

array_some : {at : ℕ → Option Sheet} {root : ℕ} (a : Array) (p : ℕ) → IsArray at root a → array.Owns root a p → (s : Sheet) × (at p ≡ Some s)
array_some a p h o = elim (array_there a p h o) [
  | inl k ↦ some_there k
  | inr q ↦ elim q [
    | inl k ↦ some_there k
    | inr k ↦ some_there k
  ]
]

page_there : (space : Space) (kind : ObjectKind) (root : ℕ) (b : Body) (p : ℕ) → IsBody space kind root b → OwnsPage root b p → (s : Sheet) × (space.pages.at p ≡ Some s)
page_there space kinds.Array root (AnArray a) p h o = array_some a p h o
page_there space kinds.Table root (ATable t) p h o = elim o [
  | inl e ↦ (_, ap space.pages.at e ∙ h.table.built.trunk.first)
  | inr q ↦ elim q [
    | inl d ↦ array_some t.names p h.table.built.trunk.names d
    | inr b ↦ some_there (bucket_there t p h.table b)
  ]
]
page_there space kinds.Blob root (ABlob b) p h o = (_, ap space.pages.at o ∙ h.raw.first.is)
page_there space kinds.Array root (ATable t) p h o = absurd h
page_there space kinds.Array root (ABlob b) p h o = absurd h
page_there space kinds.Table root (AnArray a) p h o = absurd h
page_there space kinds.Table root (ABlob b) p h o = absurd h
page_there space kinds.Blob root (AnArray a) p h o = absurd h
page_there space kinds.Blob root (ATable t) p h o = absurd h

band_there : (space : Space) (kind : ObjectKind) (root : ℕ) (b : Body) (n : ℕ) → IsBody space kind root b → OwnsBand b n → (bytes : List ℕ) × (space.bands.at n ≡ Some bytes)
band_there space kinds.Blob root (ABlob b) n h o = let f = h.raw.part o.0 n o.1 in (f.what, f.is)
band_there space kind root (AnArray a) n h o = absurd o
band_there space kind root (ATable t) n h o = absurd o
band_there space kinds.Array root (ABlob b) n h o = absurd h
band_there space kinds.Table root (ABlob b) n h o = absurd h

-- NO PAGE OF A BODY IS THERE TWICE
array_once : {at : ℕ → Option Sheet} {root : ℕ} (a : Array) → IsArray at root a → IsOnceEach (array_pages root a)
array_once {at} {root} a h =
    both_once (root ∷ []) (a.index ++ a.leaves) (one_once root)
    (both_once a.index a.leaves h.built.names.index_pages.apart h.built.names.leaf_pages.apart (λ i j n e f. other_kinds (index_kind h i n e) (leaf_kind h j n f) (omega arith)))
    (λ i j n e f.
    let mine : HasKind at n 2 = subst (λ (x : ℕ). HasKind at x 2) (sym ((one_is root n i e).1)) (root_kind h) in
    elim (in_both a.index a.leaves j n f) [
      | inl k ↦ other_kinds mine (index_kind h j n k.1) (omega arith)
      | inr k ↦ other_kinds mine (leaf_kind h k.0 n k.2) (omega arith)
    ])

chains_once : (bs : List Bucket) → ((i : ℕ) (b : Bucket) → slice_get bs i ≡ Some b → IsOnceEach b.pages) → table.AreApart bs → IsOnceEach (chains bs)
chains_once [] each apart = none_twice
chains_once (b ∷ bs) each apart =
    both_once b.pages (chains bs) (each 0 b refl)
    (chains_once bs (λ i c e. each (suc i) c e) (λ i j c d p e f o q. let same : suc i ≡ suc j = apart (suc i) (suc j) c d p e f o q in omega arith))
    (λ i j n e f.
    let r = chains_owned bs j n f in
    let same : 0 ≡ suc r.index = apart 0 (suc r.index) b r.bucket n refl r.is (i, e) r.owns in
    omega arith)

table_once : {at : ℕ → Option Sheet} {root : ℕ} (t : HashTable) → IsHashTable at root t → IsOnceEach (table_pages root t)
table_once {at} {root} t h =
    both_once (root ∷ []) (array_pages t.directory t.names ++ chains t.buckets) (one_once root)
    (both_once (array_pages t.directory t.names) (chains t.buckets) (array_once t.names names)
    (chains_once t.buckets (λ i b e. (h.built.bucket i b e).linked.apart) h.built.apart)
    (λ i j n e f. not_array n (bucket_there t n h (chains_owned t.buckets j n f)) (array_owned t.directory t.names i n e) (omega arith) (omega arith) (omega arith)))
    (λ i j n e f.
    let mine : HasKind at n 5 = subst (λ (x : ℕ). HasKind at x 5) (sym ((one_is root n i e).1)) (record { what = _; is = h.built.trunk.first; has = refl }) in
    elim (in_both (array_pages t.directory t.names) (chains t.buckets) j n f) [
      | inl k ↦ not_array n mine (array_owned t.directory t.names j n k.1) (omega arith) (omega arith) (omega arith)
      | inr k ↦ other_kinds mine (bucket_there t n h (chains_owned t.buckets k.0 n k.2)) (omega arith)
    ])
  where
    names : IsArray at t.directory t.names
    names = h.built.trunk.names

    not_array : (n : ℕ) {k : ℕ} → HasKind at n k → array.Owns t.directory t.names n → k ≢ 2 → k ≢ 3 → k ≢ 4 → ⊥
    not_array n mine o a b c = elim (array_there t.names n names o) [
      | inl x ↦ other_kinds mine x a
      | inr q ↦ elim q [
        | inl x ↦ other_kinds mine x b
        | inr x ↦ other_kinds mine x c
      ]
    ]

body_once : (space : Space) (kind : ObjectKind) (root : ℕ) (b : Body) → IsBody space kind root b → IsOnceEach (body_pages root b)
body_once space kinds.Array root (AnArray a) h = array_once a h
body_once space kinds.Table root (ATable t) h = table_once t h.table
body_once space kinds.Blob root (ABlob b) h = one_once root
body_once space kinds.Array root (ATable t) h = absurd h
body_once space kinds.Array root (ABlob b) h = absurd h
body_once space kinds.Table root (AnArray a) h = absurd h
body_once space kinds.Table root (ABlob b) h = absurd h
body_once space kinds.Blob root (AnArray a) h = absurd h
body_once space kinds.Blob root (ATable t) h = absurd h

bands_once : (space : Space) (kind : ObjectKind) (root : ℕ) (b : Body) → IsBody space kind root b → IsOnceEach (body_bands b)
bands_once space kinds.Blob root (ABlob b) h = h.raw.apart
bands_once space kind root (AnArray a) h = none_twice
bands_once space kind root (ATable t) h = none_twice
bands_once space kinds.Array root (ABlob b) h = absurd h
bands_once space kinds.Table root (ABlob b) h = absurd h

-- NOR OF SEVERAL
joined_from : (g : Row → List ℕ) (xs : List Row) (k n : ℕ) → slice_get (joined g xs) k ≡ Some n → (row : Row) × IsAmong xs row × ((i : ℕ) × (slice_get (g row) i ≡ Some n))
joined_from g [] k n e = absurd (cc)
joined_from g (x ∷ xs) k n e = elim (in_both (g x) (joined g xs) k n e) [
  | inl h ↦ (x, inl refl, (k, h.1))
  | inr h ↦ let r = joined_from g xs h.0 n h.2 in (r.0, inr r.1, r.2)
]

same_root : (x row : Row) → row.root.0 ≡ x.root.0 → (row.root.0 == x.root.0) ≡ true
same_root x row e = grind (arith, nat_tests, e)

counted_row : (root : ℕ) (xs : List Row) (row : Row) → IsAmong xs row → row.root.0 ≡ root → 1 ≤ count_by (is_at root) xs
counted_row root [] row a e = absurd a
counted_row root (x ∷ xs) row a e =
    let step : count_by (is_at root) (x ∷ xs) ≡ cond {A = ℕ} (is_at root x) 1 0 + count_by (is_at root) xs = sum_by-cons (λ (r : Row). cond {A = ℕ} (is_at root r) 1 0) x xs in
    elim a [
      | inl same ↦
          let is : is_at root x ≡ true = self x root (ap (λ (r : Row). r.root.0) (sym same) ∙ e) in
          let one : cond {A = ℕ} (is_at root x) 1 0 ≡ 1 = ap (λ (b : Bool). cond {A = ℕ} b 1 0) is in
          omega arith
      | inr l ↦ let rest = counted_row root xs row l e in omega arith
    ]
  where
    self : (x : Row) (root : ℕ) → x.root.0 ≡ root → (x.root.0 == root) ≡ true
    self x root e = grind (arith, nat_tests, e)

others_apart : (x : Row) (xs : List Row) (row : Row) → count_by (is_at x.root.0) (x ∷ xs) ≤ 1 → IsAmong xs row → row.root.0 ≢ x.root.0
others_apart x xs row few a e =
    let step : count_by (is_at x.root.0) (x ∷ xs) ≡ cond {A = ℕ} (is_at x.root.0 x) 1 0 + count_by (is_at x.root.0) xs = sum_by-cons (λ (r : Row). cond {A = ℕ} (is_at x.root.0 r) 1 0) x xs in
    let is : is_at x.root.0 x ≡ true = same_root x x refl in
    let one : cond {A = ℕ} (is_at x.root.0 x) 1 0 ≡ 1 = ap (λ (b : Bool). cond {A = ℕ} b 1 0) is in
    let rest = counted_row x.root.0 xs row a e in
    omega arith

fewer_rows : (root : ℕ) (x : Row) (xs : List Row) → count_by (is_at root) (x ∷ xs) ≤ 1 → count_by (is_at root) xs ≤ 1
fewer_rows root x xs few =
    let step : count_by (is_at root) (x ∷ xs) ≡ cond {A = ℕ} (is_at root x) 1 0 + count_by (is_at root) xs = sum_by-cons (λ (r : Row). cond {A = ℕ} (is_at root r) 1 0) x xs in
    omega arith

joined_once : (g : Row → List ℕ) (xs : List Row) → ((row : Row) → IsAmong xs row → IsOnceEach (g row)) → ((root : ℕ) → count_by (is_at root) xs ≤ 1) → ((row other : Row) → IsAmong xs row → IsAmong xs other → row.root.0 ≢ other.root.0 → (i j n : ℕ) → slice_get (g row) i ≡ Some n → slice_get (g other) j ≡ Some n → ⊥) → IsOnceEach (joined g xs)
joined_once g [] each few apart = none_twice
joined_once g (x ∷ xs) each few apart =
    both_once (g x) (joined g xs) (each x (inl refl))
    (joined_once g xs (λ row a. each row (inr a)) (λ root. fewer_rows root x xs (few root)) (λ row other a b. apart row other (inr a) (inr b)))
    (λ i j n e f.
    let r = joined_from g xs j n f in
    apart x r.0 (inl refl) (inr r.1) (λ same. others_apart x xs r.0 (few x.root.0) r.1 (sym same)) i r.2.0 n e r.2.1)

-- WHAT HOLDS THE OBJECTS MAY BE REACHED
are_bodies : (space : Space) (f : ℕ → Body) (xs : List Row) → ((row : Row) → IsAmong xs row → IsBody space row.kind row.root.0 (f row.root.0)) → AreBodies space xs (map (λ (row : Row). f row.root.0) xs)
are_bodies space f [] h = tt
are_bodies space f (x ∷ xs) h = (h x (inl refl), are_bodies space f xs (λ row a. h row (inr a)))

pub can_reach : (space : Space) (old : Maps) (s : Contents) → IsContents space s → IsFresh space old → CanReach space old
can_reach space old s h fresh = record {
  contents = s;
  reads = record { catalog = h.catalog; bodies = are_bodies space s.body (rows s.catalog) h.body };
  can = record {
    pages_can = subst (λ (ns : List ℕ). CanSet old.pages ((later_of space.pages.at s) ++ ns)) (sym (pages_joined s.body (rows s.catalog))) (record { free = free_page; apart = both_once (later_of space.pages.at s) (joined (pages_of s) (rows s.catalog)) later_once pages_once beside });
    bands_can = subst (CanSet old.bands) (sym (bands_joined s.body (rows s.catalog))) (record { free = free_band; apart = bands_all });
  };
}
  where
    -- page j behind the first
    later_is : (j p : ℕ) → slice_get (later_of space.pages.at s) j ≡ Some p → (slice_get s.catalog.pages (suc j) ≡ Some p) × (suc j < length s.catalog.pages)
    later_is j p e =
        let back = nth_back (later_no space.pages.at) (pages_for s.catalog.peak - 1) j p e in
        let exactly = h.catalog.exactly in
        let less = back.0 in
        let within : suc j < length s.catalog.pages = omega arith in
        (page_at s.catalog h.catalog (suc j) within ∙ ap (λ (n : ℕ). Some n) (ap (page_no space.pages.at) (sym (add-one j)) ∙ sym back.1), within)

    later_once : IsOnceEach (later_of space.pages.at s)
    later_once i j n e g =
        let a = later_is i n e in
        let b = later_is j n g in
        let same : suc i ≡ suc j = h.catalog.raw.apart (suc i) (suc j) n a.0 b.0 in
        omega arith

    pages_once : IsOnceEach (joined (pages_of s) (rows s.catalog))
    pages_once = joined_once (pages_of s) (rows s.catalog) (λ row a. body_once space row.kind row.root.0 (s.body row.root.0) (h.body row a)) h.once
        (λ row other a b ne i j n e g. h.apart row other a b ne n (page_owned row.root.0 (s.body row.root.0) i n e) (page_owned other.root.0 (s.body other.root.0) j n g))

    bands_all : IsOnceEach (joined (bands_of s) (rows s.catalog))
    bands_all = joined_once (bands_of s) (rows s.catalog) (λ row a. bands_once space row.kind row.root.0 (s.body row.root.0) (h.body row a)) h.once
        (λ row other a b ne i j n e g. h.bands_apart row other a b ne n (band_owned (s.body row.root.0) i n e) (band_owned (s.body other.root.0) j n g))

    beside : (i j n : ℕ) → slice_get (later_of space.pages.at s) i ≡ Some n → slice_get (joined (pages_of s) (rows s.catalog)) j ≡ Some n → ⊥
    beside i j n e g =
        let r = joined_from (pages_of s) (rows s.catalog) j n g in
        h.beside r.0 r.1 n (page_owned r.0.root.0 (s.body r.0.root.0) r.2.0 n r.2.1) (suc i, (later_is i n e).0)

    positive : (n : ℕ) → (n ≡ 0 → ⊥) → 0 < n
    positive zero ne = absurd (ne refl)
    positive (suc n) ne = omega arith

    free_page : (i p : ℕ) → slice_get ((later_of space.pages.at s) ++ joined (pages_of s) (rows s.catalog)) i ≡ Some p → slice_get old.pages p ≡ Some false
    free_page i p e = elim (in_both (later_of space.pages.at s) (joined (pages_of s) (rows s.catalog)) i p e) [
      | inl k ↦
          let there = later_is i p k.1 in
          let page = h.catalog.raw.page (suc i) p there.0 in
          fresh.page p (positive p (λ z. let same : suc i ≡ 0 = h.catalog.raw.apart (suc i) 0 p there.0 (h.catalog.raw.first ∙ ap (λ (n : ℕ). Some n) (sym z)) in omega arith)) (page.what, page.is)
      | inr k ↦
          let r = joined_from (pages_of s) (rows s.catalog) k.0 p k.2 in
          let owned = page_owned r.0.root.0 (s.body r.0.root.0) r.2.0 p r.2.1 in
          fresh.page p (positive p (λ z. h.beside r.0 r.1 p owned (0, h.catalog.raw.first ∙ ap (λ (n : ℕ). Some n) (sym z)))) (page_there space r.0.kind r.0.root.0 (s.body r.0.root.0) p (h.body r.0 r.1) owned)
    ]

    free_band : (i n : ℕ) → slice_get (joined (bands_of s) (rows s.catalog)) i ≡ Some n → slice_get old.bands n ≡ Some false
    free_band i n e =
        let r = joined_from (bands_of s) (rows s.catalog) i n e in
        let owned = band_owned (s.body r.0.root.0) r.2.0 n r.2.1 in
        fresh.band n (h.behind_map r.0 r.1 n owned) (band_there space r.0.kind r.0.root.0 (s.body r.0.root.0) n (h.body r.0 r.1) owned)
