-- Each key is that of one entry of the whole table.
use Rattle.std.proofs.Common.{◌≡◌, ◌≢◌, ℕ, suc, ◌+◌, ◌≤◌, cond, List, [], ◌∷◌, Option, Some, None, refl, arith, slice_get, inl, inr}
use Rattle.std.specs.List.{count_by}
use Rattle.std.proofs.lemmas.Bool.{cases_eq}
use Rattle.std.proofs.lemmas.List.Sums.{sum_by-append}
use Rattle.sg_base.specs.Sheet.{Sheet}
use Rattle.sg_bucket.specs.Bucket.{Bucket, entries_of}
use Rattle.sg_bucket.specs.Entry.{Entry, AreOnce, value_of}
use Rattle.sg_bucket.proofs.Values.{has_key, no_count}
use Rattle.sg_hash.specs.Table.{HashTable, IsHashTable, all_entries, entries, home_of}

joined : (key : List ℕ) (b : Bucket) (bs : List Bucket) → count_by (has_key key) (all_entries (b ∷ bs)) ≡ count_by (has_key key) (entries_of b.parts) + count_by (has_key key) (all_entries bs)
joined key b bs = sum_by-append (λ (x : Entry). cond {A = ℕ} (has_key key x) 1 0) (entries_of b.parts) (all_entries bs)

none_there : (key : List ℕ) (bs : List Bucket) → ((i : ℕ) (b : Bucket) → slice_get bs i ≡ Some b → value_of (entries_of b.parts) key ≡ None) → count_by (has_key key) (all_entries bs) ≡ 0
none_there key [] h = refl
none_there key (b ∷ bs) h =
    let one = no_count key (entries_of b.parts) (h 0 b refl) in
    let rest = none_there key bs (λ i c e. h (suc i) c e) in
    let sum = joined key b bs in
    omega arith

-- of buckets from the one of this number on, at most the key's own has an entry of it
once_from : (from home : ℕ) (key : List ℕ) (bs : List Bucket) → ((i : ℕ) (b : Bucket) → slice_get bs i ≡ Some b → count_by (has_key key) (entries_of b.parts) ≤ 1)
    → ((i : ℕ) (b : Bucket) → slice_get bs i ≡ Some b → home ≢ from + i → value_of (entries_of b.parts) key ≡ None) → count_by (has_key key) (all_entries bs) ≤ 1
once_from from home key [] one other = omega arith
once_from from home key (b ∷ bs) one other = elim (cases_eq home from) [
  | inl here ↦
      let first = one 0 b refl in
      let rest = none_there key bs (λ i c e. other (suc i) c e (λ same. omega arith)) in
      let sum = joined key b bs in
      omega arith
  | inr away ↦
      let none = no_count key (entries_of b.parts) (other 0 b refl (λ same. away (omega arith))) in
      let rest = once_from (from + 1) home key bs (λ i c e. one (suc i) c e) (λ i c e ne. other (suc i) c e (λ same. ne (omega arith))) in
      let sum = joined key b bs in
      omega arith
]

pub once : {at : ℕ → Option Sheet} {root : ℕ} {t : HashTable} → IsHashTable at root t → AreOnce (entries t)
once {t = t} h = λ key. once_from 0 (home_of t.shape key) key t.buckets (λ i b e. (h.built.bucket i b e).once key) (λ i b e ne. h.home i b key e (λ same. ne (omega arith)))
