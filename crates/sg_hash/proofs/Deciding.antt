-- Whether a page is a table's, and changes of a table one after another.
use Rattle.std.proofs.Common.{◌≡◌, ℕ, zero, suc, ◌⊎◌, List, [], ◌∷◌, Some, slice_get, sym, subst, refl, inl, inr}
use Rattle.std.proofs.lemmas.Bool.{cases_eq}
use Rattle.sg_array.specs.Array.{Array}
use Rattle.sg_array.specs.Array as array
use Rattle.sg_bucket.specs.Bucket.{Bucket, OwnsPage}
use Rattle.sg_bucket.proofs.Owning.{one_of, owns_or}
use Rattle.sg_space.proofs.Known.{same_some}
use Rattle.sg_hash.specs.Table.{HashTable, IsInBuckets, Owns}

-- it is, or it isn't
abbrev pub Told : Type 0 → Type 0
Told A = A ⊎ (A → ⊥)

pub array_or : (root : ℕ) (a : Array) (p : ℕ) → Told (array.Owns root a p)
array_or root a p = elim (cases_eq p root) [
  | inl is ↦ inl (inl is)
  | inr ne ↦ elim (one_of a.index p) [
    | inl i ↦ inl (inr (inl i))
    | inr none ↦ elim (one_of a.leaves p) [
      | inl d ↦ inl (inr (inr d))
      | inr neither ↦ inr (λ o. elim o as (λ _. ⊥) [ inl is ↦ ne is | inr r ↦ elim r as (λ _. ⊥) [ inl i ↦ none i | inr d ↦ neither d ] ])
    ]
  ]
]

none_in : {p : ℕ} → IsInBuckets [] p → ⊥
none_in o = let is = o.is in (cc)

in_rest : {b : Bucket} {bs : List Bucket} {p : ℕ} → IsInBuckets bs p → IsInBuckets (b ∷ bs) p
in_rest o = record { index = suc o.index; bucket = o.bucket; is = o.is; owns = o.owns }

in_none : (b : Bucket) {bs : List Bucket} (p i : ℕ) (c : Bucket) → slice_get (b ∷ bs) i ≡ Some c → OwnsPage c p → (OwnsPage b p → ⊥) → (IsInBuckets bs p → ⊥) → ⊥
in_none b p zero c e o first rest = first (subst (λ (x : Bucket). OwnsPage x p) (sym (same_some b c e)) o)
in_none b p (suc i) c e o first rest = rest (record { index = i; bucket = c; is = e; owns = o })

pub buckets_or : (bs : List Bucket) (p : ℕ) → Told (IsInBuckets bs p)
buckets_or [] p = inr none_in
buckets_or (b ∷ bs) p = elim (owns_or b p) [
  | inl mine ↦ inl (record { index = 0; bucket = b; is = refl; owns = mine })
  | inr first ↦ elim (buckets_or bs p) [
    | inl o ↦ inl (in_rest o)
    | inr rest ↦ inr (λ o. in_none b p o.index o.bucket o.is o.owns first rest)
  ]
]

pub table_or : (root : ℕ) (t : HashTable) (p : ℕ) → Told (Owns root t p)
table_or root t p = elim (cases_eq p root) [
  | inl is ↦ inl (inl is)
  | inr ne ↦ elim (array_or t.directory t.names p) [
    | inl a ↦ inl (inr (inl a))
    | inr none ↦ elim (buckets_or t.buckets p) [
      | inl b ↦ inl (inr (inr b))
      | inr neither ↦ inr (λ o. elim o as (λ _. ⊥) [ inl is ↦ ne is | inr r ↦ elim r as (λ _. ⊥) [ inl a ↦ none a | inr b ↦ neither b ] ])
    ]
  ]
]
