-- Sums over the entries of all buckets.
use Rattle.std.proofs.Common.{◌≡◌, ℕ, zero, suc, ◌+◌, ◌<◌, ◌≤◌, List, [], ◌∷◌, ◌++◌, length, Some, sym, ap, ◌∙◌, refl, arith, set, get_or, slice_get}
use Rattle.std.specs.List.{sum_by}
use Rattle.std.proofs.lemmas.List.Sums.{sum_by-cons, sum_by-append, sum_by-set}
use Rattle.std.proofs.lemmas.Option.{slice_get_within, slice_get-get_or}
use Rattle.sg_space.proofs.Known.{same_some}
use Rattle.sg_bucket.specs.Bucket.{Bucket, entries_of}
use Rattle.sg_bucket.specs.Entry.{Entry, AreExchanged}
use Rattle.sg_hash.specs.Table.{all_entries, chain_pages}

-- what a bucket adds to a sum over the entries
abbrev pub bucket_sum : (Entry → ℕ) → Bucket → ℕ
bucket_sum f b = sum_by f (entries_of b.parts)

pub all_sum : (f : Entry → ℕ) (bs : List Bucket) → sum_by f (all_entries bs) ≡ sum_by (bucket_sum f) bs
all_sum f [] = refl
all_sum f (b ∷ bs) =
    let rest = all_sum f bs in
    let left : sum_by f (entries_of b.parts ++ all_entries bs) ≡ sum_by f (entries_of b.parts) + sum_by f (all_entries bs) = sum_by-append f (entries_of b.parts) (all_entries bs) in
    let right : sum_by (bucket_sum f) (b ∷ bs) ≡ sum_by f (entries_of b.parts) + sum_by (bucket_sum f) bs = sum_by-cons (bucket_sum f) b bs in
    omega arith

-- one of a list set to another, in a sum
pub set_sum : {A : Type 0} (f : A → ℕ) (xs : List A) (i : ℕ) (x y : A) → slice_get xs i ≡ Some x → sum_by f (set xs i y) + f x ≡ sum_by f xs + f y
set_sum f xs i x y e =
    let below : i < length xs = slice_get_within xs i x e in
    let is : get_or xs i x ≡ x = same_some _ _ (sym (slice_get-get_or xs i x below) ∙ e) in
    let sum : sum_by f (set xs i y) + f (get_or xs i x) ≡ sum_by f xs + f y = sum_by-set f xs i y x below in
    let here : f (get_or xs i x) ≡ f x = ap f is in
    omega arith

-- one of a list is part of the sum
pub part_sum : {A : Type 0} (f : A → ℕ) (xs : List A) (i : ℕ) (x : A) → slice_get xs i ≡ Some x → f x ≤ sum_by f xs
part_sum f [] i x e = absurd (cc)
part_sum f (y ∷ ys) zero x e = let same : f y ≡ f x = ap f (same_some y x e) in let sum : sum_by f (y ∷ ys) ≡ f y + sum_by f ys = sum_by-cons f y ys in omega arith
part_sum f (y ∷ ys) (suc j) x e = let rest = part_sum f ys j x e in let sum : sum_by f (y ∷ ys) ≡ f y + sum_by f ys = sum_by-cons f y ys in omega arith

-- an exchange in one bucket is one of the table
pub all_exchanged : (bs : List Bucket) (i : ℕ) (b c : Bucket) {gone come : List Entry} → slice_get bs i ≡ Some b → AreExchanged (entries_of b.parts) (entries_of c.parts) gone come → AreExchanged (all_entries bs) (all_entries (set bs i c)) gone come
all_exchanged bs i b c e x = record {
  had = λ f. let had = x.had f in let part = part_sum (bucket_sum f) bs i b e in let all = all_sum f bs in omega arith;
  sums = λ f.
      let old = all_sum f bs in
      let new = all_sum f (set bs i c) in
      let sum = set_sum (bucket_sum f) bs i b c e in
      let one = x.sums f in
      omega arith;
}

-- how many there are, as a sum
pub length_sum : (es : List Entry) → sum_by (λ (e : Entry). 1) es ≡ length es
length_sum [] = refl
length_sum (e ∷ es) = let rest = length_sum es in let sum : sum_by (λ (e : Entry). 1) (e ∷ es) ≡ 1 + sum_by (λ (e : Entry). 1) es = sum_by-cons (λ (e : Entry). 1) e es in omega arith

pub set_pages : (bs : List Bucket) (i : ℕ) (b c : Bucket) → slice_get bs i ≡ Some b → chain_pages (set bs i c) + length b.pages ≡ chain_pages bs + length c.pages
set_pages bs i b c e = set_sum (λ (x : Bucket). length x.pages) bs i b c e
