-- The entries of a bucket that is split are divided: each key keeps its value, in the bucket where it belongs then.
use Rattle.std.proofs.Common.{◌≡◌, ◌≢◌, ℕ, ◌+◌, ◌<◌, ◌⊎◌, ◌++◌, Bool, true, false, not, if◌then◌else◌, List, [], ◌∷◌, length, Some, None, sym, ap, ◌∙◌, refl, arith, set, slice_get, inl, inr}
use Rattle.std.proofs.lemmas.Bool.{cases_eq}
use Rattle.std.proofs.lemmas.List.{length-set, length_push}
use Rattle.std.proofs.lemmas.Option.{slice_get_within}
use Rattle.sg_bucket.specs.Bucket.{Bucket, entries_of}
use Rattle.sg_bucket.specs.Entry.{value_of}
use Rattle.sg_linear.specs.Extent.{Shape, Divides, buckets_of}
use Rattle.sg_linear.specs.Fnv.{fnv_1a}
use Rattle.sg_space.proofs.InMemory.{slice_get-set_same, slice_get-set_other}
use Rattle.sg_space.proofs.Known.{same_some}
use Rattle.sg_hash.specs.Table.{AreHome, all_entries, home_of}
use Rattle.sg_hash.proofs.Splitting.{in_pushed}
use Rattle.sg_hash.proofs.Trunks.{one_there}
use Rattle.sg_hash.proofs.Values.{value_home}

-- A bucket keeps the entries of keys that fail a test, and those that pass are in a new one, behind all others. Those are
-- the keys that belong there in the next shape.
pub record IsDivided (shape next : Shape) (bs : List Bucket) (b kept new : Bucket) (passes : List ℕ → Bool) : Type 0 where
  pub home : AreHome shape bs
  pub is : slice_get bs shape.split ≡ Some b
  pub many : length bs ≡ buckets_of shape
  pub divides : (hash : ℕ) → Divides shape next hash
  pub yes : (key : List ℕ) → passes key ≡ true → home_of next key ≡ length bs
  pub no : (key : List ℕ) → passes key ≡ false → home_of next key ≢ length bs
  pub values_kept : (key : List ℕ) → value_of (entries_of kept.parts) key ≡ (if not (passes key) then value_of (entries_of b.parts) key else None)
  pub values_new : (key : List ℕ) → value_of (entries_of new.parts) key ≡ (if passes key then value_of (entries_of b.parts) key else None)

-- the buckets then
abbrev pub divided : Shape → List Bucket → Bucket → Bucket → List Bucket
divided shape bs kept new = set (bs ++ (new ∷ [])) shape.split kept

-- what a bucket is after the division
which : {shape next : Shape} {bs : List Bucket} {b kept new : Bucket} {passes : List ℕ → Bool} → IsDivided shape next bs b kept new passes → (j : ℕ) (d : Bucket) → slice_get (divided shape bs kept new) j ≡ Some d → ((j ≡ shape.split) × (d ≡ kept)) ⊎ (((j ≡ length bs) × (d ≡ new)) ⊎ ((j ≢ shape.split) × (slice_get bs j ≡ Some d)))
which {shape} {next} {bs} {b} {kept} {new} h j d e = elim (cases_eq j shape.split) [
  | inl same ↦ inl (same, same_some d kept (sym e ∙ (ap (slice_get (divided shape bs kept new)) same ∙ slice_get-set_same (bs ++ (new ∷ [])) shape.split kept (let long : length (bs ++ (new ∷ [])) ≡ length bs + 1 = length_push bs new in let below = slice_get_within bs shape.split b h.is in omega arith))))
  | inr ne ↦ elim (in_pushed bs new j d (sym (slice_get-set_other (bs ++ (new ∷ [])) shape.split j kept ne) ∙ e)) [
    | inl x ↦ inr (inl x)
    | inr is ↦ inr (inr (ne, is))
  ]
]

kept_none : {shape next : Shape} {bs : List Bucket} {b kept new : Bucket} {passes : List ℕ → Bool} → IsDivided shape next bs b kept new passes → (key : List ℕ) (t : Bool) → passes key ≡ t → home_of next key ≢ shape.split → value_of (entries_of kept.parts) key ≡ None
kept_none {b = b} h key true t ne = h.values_kept key ∙ ap (λ (x : Bool). if not x then value_of (entries_of b.parts) key else None) t
kept_none {shape} {next} {bs} {b} h key false t ne =
    h.values_kept key ∙ (ap (λ (x : Bool). if not x then value_of (entries_of b.parts) key else None) t ∙ elim (h.divides (fnv_1a key)) [
      | inl same ↦ h.home shape.split b key h.is (λ at. ne (same ∙ at))
      | inr moved ↦ absurd (h.no key t (moved.1 ∙ sym h.many))
    ])

new_none : {shape next : Shape} {bs : List Bucket} {b kept new : Bucket} {passes : List ℕ → Bool} → IsDivided shape next bs b kept new passes → (key : List ℕ) (t : Bool) → passes key ≡ t → home_of next key ≢ length bs → value_of (entries_of new.parts) key ≡ None
new_none h key true t ne = absurd (ne (h.yes key t))
new_none {b = b} h key false t ne = h.values_new key ∙ ap (λ (x : Bool). if x then value_of (entries_of b.parts) key else None) t

pub divided_home : {shape next : Shape} {bs : List Bucket} {b kept new : Bucket} {passes : List ℕ → Bool} → IsDivided shape next bs b kept new passes → AreHome next (divided shape bs kept new)
divided_home {shape} {next} {bs} {b} {kept} {new} {passes} h j d key e ne = elim (which h j d e) [
  | inl x ↦ ap (λ (y : Bucket). value_of (entries_of y.parts) key) x.1 ∙ kept_none h key (passes key) refl (λ at. ne (at ∙ sym x.0))
  | inr r ↦ elim r [
    | inl x ↦ ap (λ (y : Bucket). value_of (entries_of y.parts) key) x.1 ∙ new_none h key (passes key) refl (λ at. ne (at ∙ sym x.0))
    | inr x ↦ elim (h.divides (fnv_1a key)) [
      | inl same ↦ h.home j d key x.1 (λ at. ne (same ∙ at))
      | inr moved ↦ h.home j d key x.1 (λ at. x.0 (sym at ∙ moved.0))
    ]
  ]
]

-- the value of each key
value_divided : {shape next : Shape} {bs : List Bucket} {b kept new : Bucket} {passes : List ℕ → Bool} → IsDivided shape next bs b kept new passes → (key : List ℕ) (d : Bucket) (t : Bool) → passes key ≡ t → slice_get (divided shape bs kept new) (home_of next key) ≡ Some d → home_of shape key < length bs → value_of (entries_of d.parts) key ≡ value_of (all_entries bs) key
value_divided {shape} {next} {bs} {b} {kept} {new} {passes} h key d t pass e there = elim (which h (home_of next key) d e) [
  | inl x ↦
      let fails : passes key ≡ false = not_new t pass x.0 in
      ap (λ (y : Bucket). value_of (entries_of y.parts) key) x.1
      ∙ (h.values_kept key ∙ (ap (λ (y : Bool). if not y then value_of (entries_of b.parts) key else None) fails ∙ sym (value_home shape bs key b h.home (ap (slice_get bs) (stays x.0) ∙ h.is))))
  | inr r ↦ elim r [
    | inl x ↦
        let yes : passes key ≡ true = is_new t pass x.0 in
        ap (λ (y : Bucket). value_of (entries_of y.parts) key) x.1
        ∙ (h.values_new key ∙ (ap (λ (y : Bool). if y then value_of (entries_of b.parts) key else None) yes ∙ sym (value_home shape bs key b h.home (ap (slice_get bs) (from x.0) ∙ h.is))))
    | inr x ↦ elim (h.divides (fnv_1a key)) [
      | inl same ↦ sym (value_home shape bs key d h.home (ap (slice_get bs) (sym same) ∙ x.1))
      | inr moved ↦ absurd (let below = slice_get_within bs (home_of next key) d x.1 in let at = moved.1 in let many = h.many in omega arith)
    ]
  ]
]
  where
    below_all : shape.split < length bs
    below_all = slice_get_within bs shape.split b h.is

    not_new : (t : Bool) → passes key ≡ t → home_of next key ≡ shape.split → passes key ≡ false
    not_new true pass at = absurd (let new_home = h.yes key pass in let less = below_all in omega arith)
    not_new false pass at = pass

    is_new : (t : Bool) → passes key ≡ t → home_of next key ≡ length bs → passes key ≡ true
    is_new true pass at = pass
    is_new false pass at = absurd (h.no key pass at)

    stays : home_of next key ≡ shape.split → home_of shape key ≡ shape.split
    stays at = elim (h.divides (fnv_1a key)) [
      | inl same ↦ sym same ∙ at
      | inr moved ↦ moved.0
    ]

    from : home_of next key ≡ length bs → home_of shape key ≡ shape.split
    from at = elim (h.divides (fnv_1a key)) [
      | inl same ↦ absurd (let less = there in omega arith)
      | inr moved ↦ moved.0
    ]

pub divided_values : {shape next : Shape} {bs : List Bucket} {b kept new : Bucket} {passes : List ℕ → Bool} → IsDivided shape next bs b kept new passes → ((key : List ℕ) → home_of shape key < length bs) → ((key : List ℕ) → home_of next key < length bs + 1) → value_of (all_entries (divided shape bs kept new)) ≡ value_of (all_entries bs)
divided_values {shape} {next} {bs} {b} {kept} {new} {passes} h there next_there = λ i key. at key i
  where
    long : length (divided shape bs kept new) ≡ length bs + 1
    long = length-set (bs ++ (new ∷ [])) shape.split kept ∙ length_push bs new

    at : (key : List ℕ) → value_of (all_entries (divided shape bs kept new)) key ≡ value_of (all_entries bs) key
    at key =
        let below = next_there key in
        let all = long in
        let one = one_there (divided shape bs kept new) (home_of next key) (omega arith) in
        value_home next (divided shape bs kept new) key one.0 (divided_home h) one.1 ∙ value_divided h key one.0 (passes key) refl one.1 (there key)
