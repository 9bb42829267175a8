-- A table has few entries, as a space has few pages and a page few bytes.
use Rattle.std.proofs.Common.{◌≡◌, ℕ, zero, suc, ◌+◌, ◌*◌, ◌<◌, ◌≤◌, ◌⊎◌, List, [], ◌∷◌, ◌++◌, length, Option, Some, None, refl, subst, arith, slice_get, length-append, inl, inr}
use Rattle.std.proofs.lemmas.List.Sums.{sum_by-cons}
use Rattle.std.proofs.lemmas.Option.{slice_get_within}
use Rattle.sg_base.specs.Page.{bytes_of}
use Rattle.sg_base.specs.Sheet.{Sheet}
use Rattle.sg_base.specs.Slots.{Slots}
use Rattle.sg_space.specs.Units.{Units, IsExact}
use Rattle.sg_space.proofs.Few.{few_units}
use Rattle.sg_space.proofs.Few as numbers
use Rattle.sg_bucket.specs.Bucket.{Bucket, IsLinked, OwnsPage, entries_of, part_at}
use Rattle.sg_bucket.specs.Part.{entries_in}
use Rattle.sg_hash.proofs.Trunks.{one_there}
use Rattle.sg_hash.specs.Table.{AreApart, HashTable, IsBuilt, Numbers, all_entries, chain_pages, entries}

-- at most as many entries as slots, and at most 1,018 of these
slots_few : (slots : Slots) → length (entries_in slots) ≤ length slots
slots_few [] = omega arith
slots_few (None ∷ slots) = let rest = slots_few slots in omega arith
slots_few (Some cell ∷ slots) = let rest = slots_few slots in omega arith

page_few : (slots : Slots) → bytes_of slots ≤ 4072 → length (entries_in slots) ≤ 1018
page_few slots fit = let few = slots_few slots in omega arith

parts_few : (parts : List Slots) → ((i : ℕ) → i < length parts → bytes_of (part_at parts i) ≤ 4072) → length (entries_of parts) ≤ 1018 * length parts
parts_few [] h = omega arith
parts_few (slots ∷ parts) h =
    let one = page_few slots (h 0 (omega arith)) in
    let rest = parts_few parts (λ i below. h (suc i) (omega arith)) in
    let sum : length (entries_in slots ++ entries_of parts) ≡ length (entries_in slots) + length (entries_of parts) = length-append (entries_in slots) (entries_of parts) in
    omega arith

bucket_few : {at : ℕ → Option Sheet} {first : ℕ} (b : Bucket) → ((p : ℕ) (sheet : Sheet) → at p ≡ Some sheet → bytes_of sheet.slots ≤ 4072) → IsLinked at first b → length (entries_of b.parts) ≤ 1018 * length b.pages
bucket_few b fits h =
    let long = h.long in
    let few = parts_few b.parts (λ i below.
    let page = one_there b.pages i (omega arith) in
    let part = h.part i page.0 page.1 in
    subst (λ (slots : Slots). bytes_of slots ≤ 4072) part.has.slots_are (fits page.0 part.what part.is)) in
    omega arith

chains_few : (bs : List Bucket) → ((i : ℕ) (b : Bucket) → slice_get bs i ≡ Some b → length (entries_of b.parts) ≤ 1018 * length b.pages) → length (all_entries bs) ≤ 1018 * chain_pages bs
chains_few [] h = omega arith
chains_few (b ∷ bs) h =
    let one = h 0 b refl in
    let rest = chains_few bs (λ i. h (suc i)) in
    let pages : chain_pages (b ∷ bs) ≡ length b.pages + chain_pages bs = sum_by-cons (λ (c : Bucket). length c.pages) b bs in
    let sum : length (entries_of b.parts ++ all_entries bs) ≡ length (entries_of b.parts) + length (all_entries bs) = length-append (entries_of b.parts) (all_entries bs) in
    omega arith

-- the pages of all buckets, in one list
abbrev pub all_pages : List Bucket → List ℕ
all_pages [] = []
all_pages (b ∷ bs) = b.pages ++ all_pages bs

length-all_pages : (bs : List Bucket) → length (all_pages bs) ≡ chain_pages bs
length-all_pages [] = refl
length-all_pages (b ∷ bs) =
    let rest = length-all_pages bs in
    let pages : chain_pages (b ∷ bs) ≡ length b.pages + chain_pages bs = sum_by-cons (λ (c : Bucket). length c.pages) b bs in
    let sum : length (b.pages ++ all_pages bs) ≡ length b.pages + length (all_pages bs) = length-append b.pages (all_pages bs) in
    omega arith

record IsBehind (xs ys : List ℕ) (i x : ℕ) : Type 0 where
  place : ℕ
  is : i ≡ length xs + place
  at : slice_get ys place ≡ Some x

one_of_two : (xs ys : List ℕ) (i x : ℕ) → slice_get (xs ++ ys) i ≡ Some x → (slice_get xs i ≡ Some x) ⊎ IsBehind xs ys i x
one_of_two [] ys i x e = inr (record { place = i; is = omega arith; at = e })
one_of_two (y ∷ xs) ys zero x e = inl e
one_of_two (y ∷ xs) ys (suc i) x e = elim (one_of_two xs ys i x e) [
  | inl a ↦ inl a
  | inr a ↦ inr (record { place = a.place; is = let is = a.is in omega arith; at = a.at })
]

both_apart : (xs ys : List ℕ) → numbers.AreApart xs → numbers.AreApart ys → ((i j x : ℕ) → slice_get xs i ≡ Some x → slice_get ys j ≡ Some x → ⊥) → numbers.AreApart (xs ++ ys)
both_apart xs ys f g none i j x a b = elim (one_of_two xs ys i x a) as (λ _. i ≡ j) [
  | inl p ↦ elim (one_of_two xs ys j x b) as (λ _. i ≡ j) [ inl q ↦ f i j x p q | inr q ↦ absurd (none i q.place x p q.at) ]
  | inr p ↦ elim (one_of_two xs ys j x b) as (λ _. i ≡ j) [
    | inl q ↦ absurd (none j p.place x q p.at)
    | inr q ↦ let same = g p.place q.place x p.at q.at in let one = p.is in let two = q.is in omega arith
  ]
]

-- a page of the list is one of a bucket
record IsOf (bs : List Bucket) (p : ℕ) : Type 0 where
  place : ℕ
  bucket : Bucket
  is : slice_get bs place ≡ Some bucket
  owns : OwnsPage bucket p

owned : (bs : List Bucket) (i p : ℕ) → slice_get (all_pages bs) i ≡ Some p → IsOf bs p
owned [] i p e = absurd (cc)
owned (b ∷ bs) i p e = elim (one_of_two b.pages (all_pages bs) i p e) [
  | inl a ↦ record { place = 0; bucket = b; is = refl; owns = (i, a) }
  | inr a ↦ let o = owned bs a.place p a.at in record { place = suc o.place; bucket = o.bucket; is = o.is; owns = o.owns }
]

pages_apart : (bs : List Bucket) → ((i : ℕ) (b : Bucket) → slice_get bs i ≡ Some b → numbers.AreApart b.pages) → AreApart bs → numbers.AreApart (all_pages bs)
pages_apart [] each apart = λ i j x a b. absurd (cc)
pages_apart (b ∷ bs) each apart =
    both_apart b.pages (all_pages bs) (each 0 b refl)
    (pages_apart bs (λ i. each (suc i)) (λ i j c d p e f o q. let same : suc i ≡ suc j = apart (suc i) (suc j) c d p e f o q in omega arith))
    (λ i j x e f. let o = owned bs j x f in let same : 0 ≡ suc o.place = apart 0 (suc o.place) b o.bucket x refl o.is (i, e) o.owns in omega arith)

-- the buckets have no more pages than the space
pub few_chains : {units : Units Sheet} {root : ℕ} {n : Numbers} (t : HashTable) → IsExact units → IsBuilt units.at root n t → chain_pages t.buckets ≤ units.count
few_chains {units} t exact h =
    let apart = pages_apart t.buckets (λ i b e. (h.bucket i b e).linked.apart) h.apart in
    let few : length (all_pages t.buckets) ≤ units.count = few_units (all_pages t.buckets) exact apart (λ i p e none.
    let o = owned t.buckets i p e in
    let there = ((h.bucket o.place o.bucket o.is).linked.part o.owns.0 p o.owns.1).is in
    (cc)) in
    let long = length-all_pages t.buckets in
    omega arith

-- each bucket has a page
each_has_one : (bs : List Bucket) → ((i : ℕ) (b : Bucket) → slice_get bs i ≡ Some b → 1 ≤ length b.pages) → length bs ≤ chain_pages bs
each_has_one [] h = omega arith
each_has_one (b ∷ bs) h =
    let one = h 0 b refl in
    let rest = each_has_one bs (λ i. h (suc i)) in
    let pages : chain_pages (b ∷ bs) ≡ length b.pages + chain_pages bs = sum_by-cons (λ (c : Bucket). length c.pages) b bs in
    omega arith

-- A TABLE HAS NO MORE BUCKETS THAN THE SPACE HAS PAGES
pub few_buckets : {units : Units Sheet} {root : ℕ} {n : Numbers} (t : HashTable) → IsExact units → IsBuilt units.at root n t → length t.buckets ≤ units.count
few_buckets t exact h =
    let chains = few_chains t exact h in
    let one = each_has_one t.buckets (λ i b e. let first = slice_get_within b.pages 0 _ (h.bucket i b e).linked.starts in omega arith) in
    omega arith

-- A TABLE HAS AT MOST 1,018 ENTRIES FOR EACH PAGE OF THE SPACE
pub few_entries : {units : Units Sheet} {root : ℕ} {n : Numbers} (t : HashTable) → IsExact units → ((p : ℕ) (sheet : Sheet) → units.at p ≡ Some sheet → bytes_of sheet.slots ≤ 4072) → IsBuilt units.at root n t → length (entries t) ≤ 1018 * units.count
few_entries {units} t exact fits h =
    let chains = chains_few t.buckets (λ i b e. bucket_few b fits (h.bucket i b e).linked) in
    let few = few_chains t exact h in
    omega arith
