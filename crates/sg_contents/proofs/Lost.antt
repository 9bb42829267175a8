-- WHAT ISN'T REACHED IS FREE, where as much isn't free as the contents and the map have.
use Rattle.std.proofs.Common.{◌≡◌, ℕ, zero, suc, ◌+◌, ◌<◌, ◌≤◌, ◌⊎◌, inl, inr, Bool, true, false, cond, List, [], ◌∷◌, ◌++◌, length, slice_get, Option, Some, None, option_map, is_none, refl, sym, ap, ◌∙◌, subst, arith}
use Rattle.std.specs.List.{filter, range_with_len, sum_by}
use Rattle.std.proofs.lemmas.Bool.{cases_eq, cases_lt}
use Rattle.std.proofs.lemmas.List.{length-append}
use Rattle.std.proofs.lemmas.List.Sums.{length-filter, sum_by-cons}
use Rattle.std.proofs.lemmas.Option.{slice_get-map}
use Rattle.sg_base.specs.Sheet.{Sheet}
use Rattle.sg_array.specs.Array.{Array, IsArray}
use Rattle.sg_array.specs.Array as array
use Rattle.sg_bucket.specs.Bucket.{Bucket}
use Rattle.sg_catalog.specs.Catalog.{rows}
use Rattle.sg_catalog.specs.declared.row.ObjectKind.{ObjectKind}
use Rattle.sg_catalog.specs.declared.row.ObjectKind.TheVariants as kinds
use Rattle.sg_catalog.specs.declared.row.Row.{Row}
use Rattle.sg_hash.specs.Table.{HashTable, IsHashTable}
use Rattle.sg_space.specs.Units.{Units, IsExact}
use Rattle.sg_space.specs.View.{Space}
use Rattle.sg_space.proofs.Few.{AreApart, few_elements}
use Rattle.sg_contents.specs.Limits.{kind_at}
use Rattle.sg_contents.specs.Meaning.{pages_in, bands_in, page_total, band_total, IsCounted}
use Rattle.sg_contents.specs.Standing.{Body, Contents, IsBody, OwnsPage, OwnsBand, IsAmong, IsContents, IsReachedPage, IsReachedBand, NoneIsLost, map_bands}
use Rattle.sg_contents.specs.Standing.Body.{AnArray, ATable, ABlob}
use Rattle.sg_contents.proofs.Catalogued.{roots_apart}
use Rattle.sg_contents.proofs.Limited.{kind_is}
use Rattle.sg_contents.proofs.Standing.{page_there, band_there, not_there}

-- NUMBERS of which no two are one
abbrev Has : List ℕ → ℕ → Type 0
Has [] n = ⊥
Has (x ∷ xs) n = (n ≡ x) ⊎ Has xs n

abbrev Apart : List ℕ → Type 0
Apart [] = Unit {0}
Apart (x ∷ xs) = (Has xs x → ⊥) × Apart xs

has_at : (xs : List ℕ) (i n : ℕ) → slice_get xs i ≡ Some n → Has xs n
has_at [] i n e = absurd (cc)
has_at (x ∷ xs) zero n e = inl (let k : x ≡ n = cc in sym k)
has_at (x ∷ xs) (suc i) n e = inr (has_at xs i n e)

at_has : (xs : List ℕ) (n : ℕ) → Has xs n → (i : ℕ) × (slice_get xs i ≡ Some n)
at_has [] n h = absurd h
at_has (x ∷ xs) n (inl e) = (0, ap Some (sym e))
at_has (x ∷ xs) n (inr h) = let r = at_has xs n h in (suc r.0, r.1)

to_apart : (xs : List ℕ) → Apart xs → AreApart xs
to_apart [] h i j n e f = absurd (cc)
to_apart (x ∷ xs) h zero zero n e f = refl
to_apart (x ∷ xs) h zero (suc j) n e f = absurd (h.0 (let k : x ≡ n = cc in subst (Has xs) (sym k) (has_at xs j n f)))
to_apart (x ∷ xs) h (suc i) zero n e f = absurd (h.0 (let k : x ≡ n = cc in subst (Has xs) (sym k) (has_at xs i n e)))
to_apart (x ∷ xs) h (suc i) (suc j) n e f = ap suc (to_apart xs h.1 i j n e f)

from_apart : (xs : List ℕ) → AreApart xs → Apart xs
from_apart [] h = tt
from_apart (x ∷ xs) h = (
  (λ m. let r = at_has xs x m in let k : 0 ≡ suc r.0 = h 0 (suc r.0) x refl r.1 in omega (arith, k)),
  from_apart xs (λ i j n e f. let k : suc i ≡ suc j = h (suc i) (suc j) n e f in omega (arith, k)),
)

either : (xs ys : List ℕ) (n : ℕ) → Has (xs ++ ys) n → Has xs n ⊎ Has ys n
either [] ys n h = inr h
either (x ∷ xs) ys n (inl e) = inl (inl e)
either (x ∷ xs) ys n (inr h) = elim (either xs ys n h) [ inl a ↦ inl (inr a) | inr b ↦ inr b ]

apart_both : (xs ys : List ℕ) → Apart xs → Apart ys → ((n : ℕ) → Has xs n → Has ys n → ⊥) → Apart (xs ++ ys)
apart_both [] ys a b never = b
apart_both (x ∷ xs) ys a b never = (
  (λ m. elim (either xs ys x m) [ inl p ↦ a.0 p | inr q ↦ never x (inl refl) q ]),
  apart_both xs ys a.1 b (λ n p q. never n (inr p) q),
)

-- lists of several, one behind another
abbrev joined : {A : Type 0} → (A → List ℕ) → List A → List ℕ
joined f [] = []
joined f (x ∷ xs) = f x ++ joined f xs

-- it is of one of them
record IsOfOne {A : Type 0} (f : A → List ℕ) (xs : List A) (n : ℕ) : Type 0 where
  place : ℕ
  one : A
  is : slice_get xs place ≡ Some one
  has : Has (f one) n

in_joined : {A : Type 0} (f : A → List ℕ) (xs : List A) (n : ℕ) → Has (joined f xs) n → IsOfOne f xs n
in_joined f [] n h = absurd h
in_joined f (x ∷ xs) n h = elim (either (f x) (joined f xs) n h) [
  | inl a ↦ record { place = 0; one = x; is = refl; has = a }
  | inr b ↦ let o = in_joined f xs n b in record { place = suc o.place; one = o.one; is = o.is; has = o.has }
]

joined_apart : {A : Type 0} (f : A → List ℕ) (xs : List A) → ((i : ℕ) (x : A) → slice_get xs i ≡ Some x → Apart (f x))
    → ((i j : ℕ) (x y : A) (n : ℕ) → slice_get xs i ≡ Some x → slice_get xs j ≡ Some y → Has (f x) n → Has (f y) n → i ≡ j) → Apart (joined f xs)
joined_apart f [] each apart = tt
joined_apart f (x ∷ xs) each apart = apart_both (f x) (joined f xs) (each 0 x refl)
    (joined_apart f xs (λ i. each (suc i)) (λ i j y z n e g p q. let k : suc i ≡ suc j = apart (suc i) (suc j) y z n e g p q in omega (arith, k)))
    (λ n p q. let o = in_joined f xs n q in let k : 0 ≡ suc o.place = apart 0 (suc o.place) x o.one n refl o.is p o.has in omega (arith, k))

joined_length : {A : Type 0} (f : A → List ℕ) (m : A → ℕ) (xs : List A) → ((x : A) → length (f x) ≡ m x) → length (joined f xs) ≡ sum_by m xs
joined_length f m [] same = refl
joined_length f m (x ∷ xs) same =
    let a = length-append (f x) (joined f xs) in
    let b = same x in
    let c = joined_length f m xs same in
    let d = sum_by-cons m x xs in
    omega (arith, a, b, c, d)

-- the numbers below one
abbrev below : ℕ → List ℕ
below zero = []
below (suc n) = n ∷ below n

below_less : (n x : ℕ) → Has (below n) x → x < n
below_less zero x h = absurd h
below_less (suc n) x (inl e) = omega (arith, e)
below_less (suc n) x (inr h) = let k = below_less n x h in omega (arith, k)

below_apart : (n : ℕ) → Apart (below n)
below_apart zero = tt
below_apart (suc n) = ((λ m. let k = below_less n n m in omega (arith, k)), below_apart n)

below_length : (n : ℕ) → length (below n) ≡ n
below_length zero = refl
below_length (suc n) = ap suc (below_length n)

-- what is free, in order
free_low : (p : ℕ → Bool) (a n x : ℕ) → Has (filter p (range_with_len a n)) x → (a ≤ x) × (x < a + n) × (p x ≡ true)
free_low p a zero x h = absurd h
free_low p a (suc n) x h = by (p a) refl h (free_low p (a + 1) n x)
  where
    by : (b : Bool) → p a ≡ b → Has (cond b (a ∷ filter p (range_with_len (a + 1) n)) (filter p (range_with_len (a + 1) n))) x
        → (Has (filter p (range_with_len (a + 1) n)) x → (a + 1 ≤ x) × (x < a + 1 + n) × (p x ≡ true)) → (a ≤ x) × (x < a + suc n) × (p x ≡ true)
    by true e (inl k) rest = (omega (arith, k), omega (arith, k), ap p k ∙ e)
    by true e (inr m) rest = let r = rest m in let u = r.0 in let v = r.1 in (omega (arith, u), omega (arith, v), r.2)
    by false e m rest = let r = rest m in let u = r.0 in let v = r.1 in (omega (arith, u), omega (arith, v), r.2)

free_apart : (p : ℕ → Bool) (a n : ℕ) → Apart (filter p (range_with_len a n))
free_apart p a zero = tt
free_apart p a (suc n) = by (p a) (free_apart p (a + 1) n)
  where
    by : (b : Bool) → Apart (filter p (range_with_len (a + 1) n)) → Apart (cond b (a ∷ filter p (range_with_len (a + 1) n)) (filter p (range_with_len (a + 1) n)))
    by true rest = ((λ m. let r = free_low p (a + 1) n a m in let k = r.0 in omega (arith, k)), rest)
    by false rest = rest

-- UNITS. What none of these is is free, where they are as many as aren't free
module _ {A : Type 0} (units : Units A) (xs : List ℕ) (exact : IsExact units) (apart : Apart xs) (there : (n : ℕ) → Has xs n → units.at n ≡ None → ⊥) (all : units.free + length xs ≡ units.count) where
  abbrev free_test : ℕ → Bool
  free_test n = is_none (units.at n)

  abbrev frees : List ℕ
  frees = filter free_test (range_with_len 0 units.count)

  is_free : (n : ℕ) → (o : Option A) → units.at n ≡ o → is_none o ≡ true → units.at n ≡ None
  is_free n None e t = e
  is_free n (Some x) e t = absurd (cc)

  low : (n : ℕ) → (units.at n ≡ None → ⊥) → n < units.count
  low n some = elim (cases_lt n units.count) [ inl less ↦ less | inr past ↦ absurd (some (exact.past n past)) ]

  no_more : (n : ℕ) → (units.at n ≡ None → ⊥) → (Has xs n → ⊥) → ⊥
  no_more n some not_one =
      let whole : Apart (n ∷ (xs ++ frees)) = (
        (λ m. elim (either xs frees n m) [ inl a ↦ not_one a | inr b ↦ some (is_free n (units.at n) refl (free_low free_test 0 units.count n b).2) ]),
        apart_both xs frees apart (free_apart free_test 0 units.count) (λ k p q. there k p (is_free k (units.at k) refl (free_low free_test 0 units.count k q).2)),
      ) in
      let few : length (n ∷ (xs ++ frees)) ≤ units.count = few_elements (n ∷ (xs ++ frees)) units.count (to_apart (n ∷ (xs ++ frees)) whole) (λ i x e. small x (has_at (n ∷ (xs ++ frees)) i x e)) in
      let sum = length-append xs frees in
      let count = length-filter free_test (range_with_len 0 units.count) in
      let free = exact.free in
      omega (arith, few, sum, count, free, all)
    where
      small : (x : ℕ) → Has (n ∷ (xs ++ frees)) x → x < units.count
      small x (inl e) = low x (λ none. some (ap units.at (sym e) ∙ none))
      small x (inr h) = elim (either xs frees x h) [ inl a ↦ low x (there x a) | inr b ↦ (let k = (free_low free_test 0 units.count x b).1 in omega (arith, k)) ]

  none_lost : (n : ℕ) → (Has xs n → ⊥) → units.at n ≡ None
  none_lost n not_one = by (units.at n) refl
    where
      by : (o : Option A) → units.at n ≡ o → units.at n ≡ None
      by None e = e
      by (Some x) e = absurd (no_more n (λ none. (let k : ◌≡◌ {A = Option A} None (Some x) = sym none ∙ e in cc)) not_one)

-- THE PAGES of a body, in a list
abbrev array_list : ℕ → Array → List ℕ
array_list root a = root ∷ (a.index ++ a.leaves)

abbrev pages_list : ℕ → Body → List ℕ
pages_list root (AnArray a) = array_list root a
pages_list root (ATable t) = root ∷ (array_list t.directory t.names ++ joined (λ (b : Bucket). b.pages) t.buckets)
pages_list root (ABlob b) = root ∷ []

array_owned : (root : ℕ) (a : Array) (n : ℕ) → Has (array_list root a) n → array.Owns root a n
array_owned root a n (inl e) = inl e
array_owned root a n (inr m) = elim (either a.index a.leaves n m) [ inl p ↦ inr (inl (at_has a.index n p)) | inr q ↦ inr (inr (at_has a.leaves n q)) ]

list_owned : (root : ℕ) (b : Body) (n : ℕ) → Has (pages_list root b) n → OwnsPage root b n
list_owned root (AnArray a) n h = array_owned root a n h
list_owned root (ATable t) n (inl e) = inl e
list_owned root (ATable t) n (inr m) = elim (either (array_list t.directory t.names) (joined (λ (b : Bucket). b.pages) t.buckets) n m) [
  | inl p ↦ inr (inl (array_owned t.directory t.names n p))
  | inr q ↦ inr (inr (let o = in_joined (λ (b : Bucket). b.pages) t.buckets n q in record { index = o.place; bucket = o.one; is = o.is; owns = at_has o.one.pages n o.has }))
]
list_owned root (ABlob b) n (inl e) = e
list_owned root (ABlob b) n (inr none) = absurd none

list_length : (root : ℕ) (b : Body) → length (pages_list root b) ≡ pages_in b
list_length root (AnArray a) = let k = length-append a.index a.leaves in omega (arith, k)
list_length root (ATable t) =
    let k = length-append t.names.index t.names.leaves in
    let l = length-append (array_list t.directory t.names) (joined (λ (b : Bucket). b.pages) t.buckets) in
    let m = joined_length (λ (b : Bucket). b.pages) (λ (b : Bucket). length b.pages) t.buckets (λ b. refl) in
    omega (arith, k, l, m)
list_length root (ABlob b) = refl

-- no two of them are one, by their kinds
module _ {at : ℕ → Option Sheet} {root : ℕ} {a : Array} (h : IsArray at root a) where
  root_kind : kind_at (at root) ≡ 2
  root_kind = kind_is 2 h.built.names.first (λ y z. z.kind)

  index_kind : (n : ℕ) → Has a.index n → kind_at (at n) ≡ 3
  index_kind n m = let p = at_has a.index n m in kind_is 3 (h.built.names.index p.0 n p.1) (λ y z. z.kind)

  leaf_kind : (n : ℕ) → Has a.leaves n → kind_at (at n) ≡ 4
  leaf_kind n m = let p = at_has a.leaves n m in kind_is 4 (h.built.leaf p.0 n p.1) (λ y z. z.kind)

  array_apart : Apart (array_list root a)
  array_apart = (
    (λ m. elim (either a.index a.leaves root m) [
      | inl p ↦ (let u = root_kind in let v = index_kind root p in omega (arith, u, v))
      | inr q ↦ (let u = root_kind in let v = leaf_kind root q in omega (arith, u, v))
    ]),
    apart_both a.index a.leaves (from_apart a.index h.built.names.index_pages.apart) (from_apart a.leaves h.built.names.leaf_pages.apart)
        (λ n p q. let u = index_kind n p in let v = leaf_kind n q in omega (arith, u, v)),
  )

  array_kinds : (n : ℕ) → Has (array_list root a) n → kind_at (at n) ≤ 4
  array_kinds n (inl e) = let u = ap (λ k. kind_at (at k)) e in let v = root_kind in omega (arith, u, v)
  array_kinds n (inr m) = elim (either a.index a.leaves n m) [
    | inl p ↦ (let u = index_kind n p in omega (arith, u))
    | inr q ↦ (let u = leaf_kind n q in omega (arith, u))
  ]

module _ {at : ℕ → Option Sheet} {root : ℕ} {t : HashTable} (h : IsHashTable at root t) where
  abbrev chains : List ℕ
  chains = joined (λ (b : Bucket). b.pages) t.buckets

  chain_kind : (n : ℕ) → Has chains n → kind_at (at n) ≡ 6
  chain_kind n m =
      let o = in_joined (λ (b : Bucket). b.pages) t.buckets n m in
      let p = at_has o.one.pages n o.has in
      kind_is 6 ((h.built.bucket o.place o.one o.is).linked.part p.0 n p.1) (λ y z. z.page.kind)

  chains_apart : Apart chains
  chains_apart = joined_apart (λ (b : Bucket). b.pages) t.buckets (λ i b e. from_apart b.pages (h.built.bucket i b e).linked.apart)
      (λ i j b d n e f p q. h.built.apart i j b d n e f (at_has b.pages n p) (at_has d.pages n q))

  table_apart : Apart (root ∷ (array_list t.directory t.names ++ chains))
  table_apart =
      let five : kind_at (at root) ≡ 5 = ap kind_at h.built.trunk.first in (
        (λ m. elim (either (array_list t.directory t.names) chains root m) [
          | inl p ↦ (let u = array_kinds h.built.trunk.names root p in omega (arith, u, five))
          | inr q ↦ (let u = chain_kind root q in omega (arith, u, five))
        ]),
        apart_both (array_list t.directory t.names) chains (array_apart h.built.trunk.names) chains_apart
            (λ n p q. let u = array_kinds h.built.trunk.names n p in let v = chain_kind n q in omega (arith, u, v)),
      )

list_apart : (space : Space) (kind : ObjectKind) (root : ℕ) (b : Body) → IsBody space kind root b → Apart (pages_list root b)
list_apart space kinds.Array root (AnArray a) h = array_apart h
list_apart space kinds.Table root (ATable t) h = table_apart h.table
list_apart space kinds.Blob root (ABlob b) h = ((λ none. none), tt)
list_apart space kinds.Array root (ATable t) h = absurd h
list_apart space kinds.Array root (ABlob b) h = absurd h
list_apart space kinds.Table root (AnArray a) h = absurd h
list_apart space kinds.Table root (ABlob b) h = absurd h
list_apart space kinds.Blob root (AnArray a) h = absurd h
list_apart space kinds.Blob root (ATable t) h = absurd h

-- the bands of a body
abbrev bands_list : Body → List ℕ
bands_list (AnArray a) = []
bands_list (ATable t) = []
bands_list (ABlob b) = b.bands

band_owned : (b : Body) (n : ℕ) → Has (bands_list b) n → OwnsBand b n
band_owned (AnArray a) n h = h
band_owned (ATable t) n h = h
band_owned (ABlob b) n h = at_has b.bands n h

bands_length : (b : Body) → length (bands_list b) ≡ bands_in b
bands_length (AnArray a) = refl
bands_length (ATable t) = refl
bands_length (ABlob b) = refl

bands_are_apart : (space : Space) (kind : ObjectKind) (root : ℕ) (b : Body) → IsBody space kind root b → Apart (bands_list b)
bands_are_apart space kind root (AnArray a) h = tt
bands_are_apart space kind root (ATable t) h = tt
bands_are_apart space kinds.Blob root (ABlob b) h = from_apart b.bands h.raw.apart
bands_are_apart space kinds.Array root (ABlob b) h = absurd h
bands_are_apart space kinds.Table root (ABlob b) h = absurd h

-- CONTENTS
place_among : (xs : List Row) (i : ℕ) (row : Row) → slice_get xs i ≡ Some row → IsAmong xs row
place_among [] i row e = absurd (cc)
place_among (x ∷ xs) zero row e = inl (let k : x ≡ row = cc in sym k)
place_among (x ∷ xs) (suc i) row e = inr (place_among xs i row e)

module _ {space : Space} {s : Contents} (h : IsContents space s) where
  abbrev pages_of : Row → List ℕ
  pages_of row = pages_list row.root.0 (s.body row.root.0)

  abbrev bands_of : Row → List ℕ
  bands_of row = bands_list (s.body row.root.0)

  abbrev all_pages : List ℕ
  all_pages = s.catalog.pages ++ joined pages_of (rows s.catalog)

  abbrev all_bands : List ℕ
  all_bands = below (map_bands space) ++ joined bands_of (rows s.catalog)

  -- rows at two places name two roots
  same_place : (i j : ℕ) (x y : Row) → slice_get (rows s.catalog) i ≡ Some x → slice_get (rows s.catalog) j ≡ Some y → x.root.0 ≡ y.root.0 → i ≡ j
  same_place i j x y e f same = roots_apart (rows s.catalog) h.once i j x.root.0
      (slice_get-map (λ (r : Row). r.root.0) (rows s.catalog) i ∙ ap (option_map (λ (r : Row). r.root.0)) e)
      (slice_get-map (λ (r : Row). r.root.0) (rows s.catalog) j ∙ (ap (option_map (λ (r : Row). r.root.0)) f ∙ ap Some (sym same)))

  pages_apart : Apart all_pages
  pages_apart = apart_both s.catalog.pages (joined pages_of (rows s.catalog)) (from_apart s.catalog.pages h.catalog.raw.apart)
      (joined_apart pages_of (rows s.catalog)
      (λ i x e. list_apart space x.kind x.root.0 (s.body x.root.0) (h.body x (place_among (rows s.catalog) i x e)))
      (λ i j x y n e f p q. elim (cases_eq x.root.0 y.root.0) [
        | inl same ↦ same_place i j x y e f same
        | inr ne ↦ absurd (h.apart x y (place_among (rows s.catalog) i x e) (place_among (rows s.catalog) j y f) ne n (list_owned x.root.0 (s.body x.root.0) n p) (list_owned y.root.0 (s.body y.root.0) n q))
      ]))
      (λ n p q. let o = in_joined pages_of (rows s.catalog) n q in
      h.beside o.one (place_among (rows s.catalog) o.place o.one o.is) n (list_owned o.one.root.0 (s.body o.one.root.0) n o.has) (at_has s.catalog.pages n p))

  page_reached : (n : ℕ) → Has all_pages n → IsReachedPage s n
  page_reached n m = elim (either s.catalog.pages (joined pages_of (rows s.catalog)) n m) [
    | inl p ↦ inl (at_has s.catalog.pages n p)
    | inr q ↦ inr (let o = in_joined pages_of (rows s.catalog) n q in record { row = o.one; among = place_among (rows s.catalog) o.place o.one o.is; is = list_owned o.one.root.0 (s.body o.one.root.0) n o.has })
  ]

  page_is_there : (n : ℕ) → IsReachedPage s n → space.pages.at n ≡ None → ⊥
  page_is_there n (inl o) none = not_there none (h.catalog.raw.page o.0 n o.1) refl
  page_is_there n (inr o) none = page_there space o.row.kind o.row.root.0 (s.body o.row.root.0) (h.body o.row o.among) n o.is none

  pages_total : length all_pages ≡ page_total s
  pages_total =
      let a = length-append s.catalog.pages (joined pages_of (rows s.catalog)) in
      let b = joined_length pages_of (λ (row : Row). pages_in (s.body row.root.0)) (rows s.catalog) (λ row. list_length row.root.0 (s.body row.root.0)) in
      omega (arith, a, b)

  bands_apart : Apart all_bands
  bands_apart = apart_both (below (map_bands space)) (joined bands_of (rows s.catalog)) (below_apart (map_bands space))
      (joined_apart bands_of (rows s.catalog)
      (λ i x e. bands_are_apart space x.kind x.root.0 (s.body x.root.0) (h.body x (place_among (rows s.catalog) i x e)))
      (λ i j x y n e f p q. elim (cases_eq x.root.0 y.root.0) [
        | inl same ↦ same_place i j x y e f same
        | inr ne ↦ absurd (h.bands_apart x y (place_among (rows s.catalog) i x e) (place_among (rows s.catalog) j y f) ne n (band_owned (s.body x.root.0) n p) (band_owned (s.body y.root.0) n q))
      ]))
      (λ n p q. let o = in_joined bands_of (rows s.catalog) n q in
      let less = below_less (map_bands space) n p in
      let behind = h.behind_map o.one (place_among (rows s.catalog) o.place o.one o.is) n (band_owned (s.body o.one.root.0) n o.has) in
      omega (arith, less, behind))

  band_reached : (n : ℕ) → Has (joined bands_of (rows s.catalog)) n → IsReachedBand s n
  band_reached n q = let o = in_joined bands_of (rows s.catalog) n q in record { row = o.one; among = place_among (rows s.catalog) o.place o.one o.is; is = band_owned (s.body o.one.root.0) n o.has }

  band_is_there : (n : ℕ) → Has all_bands n → space.bands.at n ≡ None → ⊥
  band_is_there n m none = elim (either (below (map_bands space)) (joined bands_of (rows s.catalog)) n m) [
    | inl p ↦ h.map n (below_less (map_bands space) n p) none
    | inr q ↦ (let o = band_reached n q in band_there space o.row.kind o.row.root.0 (s.body o.row.root.0) (h.body o.row o.among) n o.is none)
  ]

  bands_total : length all_bands ≡ map_bands space + band_total s
  bands_total =
      let a = length-append (below (map_bands space)) (joined bands_of (rows s.catalog)) in
      let b = joined_length bands_of (λ (row : Row). bands_in (s.body row.root.0)) (rows s.catalog) (λ row. bands_length (s.body row.root.0)) in
      let c = below_length (map_bands space) in
      omega (arith, a, b, c)

  -- NOTHING IS TAKEN THAT ISN'T REACHED
  pub nothing_lost : IsCounted space s → IsExact space.pages → IsExact space.bands → NoneIsLost space s
  nothing_lost counted exact exact_bands = record {
    pages = λ n never. none_lost space.pages all_pages exact pages_apart (λ k m. page_is_there k (page_reached k m)) (let a = counted.pages in let b = pages_total in omega (arith, a, b)) n (λ m. never (page_reached n m));
    bands = λ n past never. none_lost space.bands all_bands exact_bands bands_apart band_is_there (let a = counted.bands in let b = bands_total in omega (arith, a, b)) n
        (λ m. elim (either (below (map_bands space)) (joined bands_of (rows s.catalog)) n m) [
          | inl p ↦ (let k = below_less (map_bands space) n p in omega (arith, k, past))
          | inr q ↦ never (band_reached n q)
        ]);
  }
