-- A linear hash table that grows by one bucket.
use Rattle.std.proofs.Common.{◌≡◌, ◌≢◌, ℕ, suc, ◌+◌, ◌*◌, ◌/◌, ◌%◌, ◌^◌, ◌<◌, ◌≤◌, ◌⊎◌, ◌==◌, nat_lt, Bool, true, false, if◌then◌else◌, sym, ap, subst, ◌∙◌, refl, arith, inl, inr, eqb, add-one}
use Rattle.std.proofs.lemmas.Bool.{cases_eq, cases_lt}
use Rattle.std.proofs.lemmas.Bool.Decides.{nat_tests}
use Rattle.std.proofs.lemmas.Nat.{mod-pow-add, pow_pos, mod_below}
use Rattle.std.proofs.Math.Nat.{pow-suc}
use Rattle.std.proofs.Math.Pow.{pow_mono}
use Rattle.sg_linear.specs.Extent.{Shape, bucket_at, buckets_of, next_of, Divides}

pub doubled : (k : ℕ) → 2 ^ (k + 1) ≡ 2 * 2 ^ k
doubled k = ap (λ (n : ℕ). 2 ^ n) (add-one k) ∙ (pow-suc 2 k ∙ omega arith)

-- one more bit
pub one_bit : (n k : ℕ) → (n % 2 ^ (k + 1) ≡ n % 2 ^ k) ⊎ (n % 2 ^ (k + 1) ≡ 2 ^ k + n % 2 ^ k)
one_bit n k =
    let sum : n % 2 ^ (1 + k) ≡ (n / 2 ^ k % 2 ^ 1) * 2 ^ k + n % 2 ^ k = mod-pow-add n 1 k in
    let order : n % 2 ^ (k + 1) ≡ n % 2 ^ (1 + k) = ap (λ (m : ℕ). n % 2 ^ m) (let e : k + 1 ≡ 1 + k = omega arith in e) in
    let small : n / 2 ^ k % 2 < 2 = mod_below (n / 2 ^ k) 2 (omega arith) in
    elim (cases_eq (n / 2 ^ k % 2) 0) as (λ _. (n % 2 ^ (k + 1) ≡ n % 2 ^ k) ⊎ (n % 2 ^ (k + 1) ≡ 2 ^ k + n % 2 ^ k)) [
      | inl zero_bit ↦ inl (order ∙ (sum ∙ (ap (λ (b : ℕ). b * 2 ^ k + n % 2 ^ k) zero_bit ∙ omega arith)))
      | inr other ↦
          let one : n / 2 ^ k % 2 ≡ 1 = omega arith in
          inr (order ∙ (sum ∙ (ap (λ (b : ℕ). b * 2 ^ k + n % 2 ^ k) one ∙ omega arith)))
    ]

pub when : {A : Type 0} (b : Bool) (x y : A) → b ≡ true → (if b then x else y) ≡ x
when b x y e = ap (λ (c : Bool). if c then x else y) e

pub unless : {A : Type 0} (b : Bool) (x y : A) → b ≡ false → (if b then x else y) ≡ y
unless b x y e = ap (λ (c : Bool). if c then x else y) e

below_is : (a b : ℕ) → a < b → nat_lt a b ≡ true
below_is a b h = grind (arith, nat_tests, h)

above_is : (a b : ℕ) → b ≤ a → nat_lt a b ≡ false
above_is a b h = grind (arith, nat_tests, h)

-- where a hash belongs: in a bucket that was split at this level, or not
pub at_split : (s : Shape) (hash : ℕ) → hash % 2 ^ s.level < s.split → bucket_at s hash ≡ hash % 2 ^ (s.level + 1)
at_split s hash h = when (nat_lt (hash % 2 ^ s.level) s.split) (hash % 2 ^ (s.level + 1)) (hash % 2 ^ s.level) (below_is _ _ h)

pub at_whole : (s : Shape) (hash : ℕ) → s.split ≤ hash % 2 ^ s.level → bucket_at s hash ≡ hash % 2 ^ s.level
at_whole s hash h = unless (nat_lt (hash % 2 ^ s.level) s.split) (hash % 2 ^ (s.level + 1)) (hash % 2 ^ s.level) (above_is _ _ h)

-- the next shape
next_level : (s : Shape) → s.split + 1 ≡ 2 ^ s.level → next_of s ≡ record { level = s.level + 1; split = 0 }
next_level s e = when (s.split + 1 == 2 ^ s.level) (record { level = s.level + 1; split = 0 }) (record { level = s.level; split = s.split + 1 }) (grind (arith, nat_tests, e))

next_split : (s : Shape) → s.split + 1 ≢ 2 ^ s.level → next_of s ≡ record { level = s.level; split = s.split + 1 }
next_split s ne = unless (s.split + 1 == 2 ^ s.level) (record { level = s.level + 1; split = 0 }) (record { level = s.level; split = s.split + 1 }) (grind (arith, nat_tests, ne))

pub next_buckets : (s : Shape) → buckets_of (next_of s) ≡ buckets_of s + 1
next_buckets s = elim (cases_eq (s.split + 1) (2 ^ s.level)) as (λ _. buckets_of (next_of s) ≡ buckets_of s + 1) [
  | inl full ↦ let two = doubled s.level in ap buckets_of (next_level s full) ∙ omega arith
  | inr more ↦ ap buckets_of (next_split s more) ∙ omega arith
]

divides_to : (s t : Shape) (hash : ℕ) → s.split < 2 ^ s.level → bucket_at t hash ≡ (if nat_lt (hash % 2 ^ s.level) (s.split + 1) then hash % 2 ^ (s.level + 1) else hash % 2 ^ s.level) → Divides s t hash
divides_to s t hash within e = elim (cases_lt (hash % 2 ^ s.level) s.split) as (λ _. Divides s t hash) [
  | inl early ↦ inl (e ∙ (when _ _ _ (below_is (hash % 2 ^ s.level) (s.split + 1) (omega arith)) ∙ sym (at_split s hash early)))
  | inr late ↦ elim (cases_eq (hash % 2 ^ s.level) s.split) as (λ _. Divides s t hash) [
    | inl here ↦
        let new : bucket_at t hash ≡ hash % 2 ^ (s.level + 1) = e ∙ when _ _ _ (below_is (hash % 2 ^ s.level) (s.split + 1) (omega arith)) in
        let old : bucket_at s hash ≡ hash % 2 ^ s.level = at_whole s hash late in
        elim (one_bit hash s.level) as (λ _. Divides s t hash) [
          | inl low ↦ inl (new ∙ (low ∙ sym old))
          | inr high ↦ inr (old ∙ here, new ∙ (high ∙ ap (λ (n : ℕ). 2 ^ s.level + n) here))
        ]
    | inr other ↦ inl (e ∙ (unless _ _ _ (above_is (hash % 2 ^ s.level) (s.split + 1) (omega arith)) ∙ sym (at_whole s hash late)))
  ]
]

-- each hash keeps its bucket, or goes from the one that is split to the new one
pub next_divides : (s : Shape) (hash : ℕ) → s.split < 2 ^ s.level → Divides s (next_of s) hash
next_divides s hash within = elim (cases_eq (s.split + 1) (2 ^ s.level)) as (λ _. Divides s (next_of s) hash) [
  | inl full ↦ subst (λ (t : Shape). Divides s t hash) (sym (next_level s full)) (divides_to s (record { level = s.level + 1; split = 0 }) hash within (wrapped full))
  | inr more ↦ subst (λ (t : Shape). Divides s t hash) (sym (next_split s more)) (divides_to s (record { level = s.level; split = s.split + 1 }) hash within refl)
]
  where
    wrapped : s.split + 1 ≡ 2 ^ s.level → bucket_at (record { level = s.level + 1; split = 0 }) hash ≡ (if nat_lt (hash % 2 ^ s.level) (s.split + 1) then hash % 2 ^ (s.level + 1) else hash % 2 ^ s.level)
    wrapped full =
        let below : hash % 2 ^ s.level < 2 ^ s.level = mod_below hash (2 ^ s.level) (pow_pos s.level) in
        at_whole (record { level = s.level + 1; split = 0 }) hash (omega arith) ∙ sym (when _ _ _ (below_is (hash % 2 ^ s.level) (s.split + 1) (omega arith)))

-- the two cases of a growth, with what the code tests
pub level_divides : (s : Shape) (low from hash : ℕ) → low ≡ 2 ^ s.level → from ≡ s.split → from + 1 ≡ low → s.split < low → Divides s (record { level = s.level + 1; split = 0 }) hash
level_divides s low from hash power is full within = subst (λ (t : Shape). Divides s t hash) (next_level s (omega arith)) (next_divides s hash (omega arith))

pub split_divides : (s : Shape) (low from hash : ℕ) → low ≡ 2 ^ s.level → from ≡ s.split → from + 1 ≢ low → s.split < low → Divides s (record { level = s.level; split = s.split + 1 }) hash
split_divides s low from hash power is more within = subst (λ (t : Shape). Divides s t hash) (next_split s (λ e. more (omega arith))) (next_divides s hash (omega arith))

-- the bucket is one of those there are
pub bucket_there : (s : Shape) (hash : ℕ) → s.split < 2 ^ s.level → bucket_at s hash < buckets_of s
bucket_there s hash within =
    let below : hash % 2 ^ s.level < 2 ^ s.level = mod_below hash (2 ^ s.level) (pow_pos s.level) in
    elim (cases_lt (hash % 2 ^ s.level) s.split) as (λ _. bucket_at s hash < buckets_of s) [
      | inl early ↦ elim (one_bit hash s.level) as (λ _. bucket_at s hash < buckets_of s) [
        | inl low ↦ let at = at_split s hash early in omega arith
        | inr high ↦ let at = at_split s hash early in omega arith
      ]
      | inr late ↦ let at = at_whole s hash late in omega arith
    ]

-- a level of at most 20 has at most 2^20 buckets
pub low_fits : (k : ℕ) → k ≤ 20 → 2 ^ k ≤ 1048576
low_fits k h = pow_mono {i = k} {j = 20} h

-- the same with what the code computes
pub split_there : (s : Shape) (low from hash : ℕ) → low ≡ 2 ^ s.level → from ≡ s.split → hash % low < from → s.split < low → hash % (2 * low) < buckets_of s
split_there s low from hash power is early within =
    let low_bits : hash % low ≡ hash % 2 ^ s.level = ap (λ (n : ℕ). hash % n) power in
    let bits : hash % (2 * low) ≡ hash % 2 ^ (s.level + 1) = ap (λ (n : ℕ). hash % n) (ap (λ (n : ℕ). 2 * n) power ∙ sym (doubled s.level)) in
    let before : hash % 2 ^ s.level < s.split = omega arith in
    subst (λ (n : ℕ). n < buckets_of s) (at_split s hash before ∙ sym bits) (bucket_there s hash (omega arith))
