-- The bits of one word: of masks, of shifted words, of words put together.
use Rattle.std.proofs.Common.{◌≡◌, ℕ, ◌+◌, ◌-◌, ◌*◌, ◌/◌, ◌%◌, ◌^◌, ◌<◌, ◌≤◌, ◌⊎◌, ◌↔◌, min, max, bit_and, bit_or, inl, inr, sym, ap, ◌∙◌, arith}
use Rattle.std.specs.Int.{bit_at, w64, trailing_zeros, bit_not}
use Rattle.std.proofs.lemmas.Nat.{shr-shr, shr_le}
use Rattle.std.proofs.lemmas.Nat.Bits.{bit_at_and, bit_at_or, bit_at_not, bit_at-lt, bit_at-zero, bit_at_above, bit_at_ones, bit_at_ones_above, bit_at_mask_below, bit_at_mask_inside, bit_at-trailing_zeros, ones_shl, ones_shr}
use Rattle.std.proofs.lemmas.Bool.{cases_lt}
use Rattle.sg_bits.specs.Bits.{HasBit}

-- the ones of `MAX << first` and of `MAX >> (64 - end)` that they share
shared_ones : (a b first end k : ℕ) → a ≡ 2 ^ 64 - 2 ^ first → b ≡ 2 ^ end - 1 → end ≤ 64 → HasBit (bit_and a b) k ↔ ((first ≤ k) × (k < end))
unfolding HasBit
shared_ones a b first end k p q fits =
    let both : bit_at (bit_and a b) k ≡ min (bit_at a k) (bit_at b k) = bit_at_and a b k in
    let low : k < first → bit_at a k ≡ 0 = λ lt. rw p (bit_at_mask_below first 64 k lt) in
    let high : end ≤ k → bit_at b k ≡ 0 = λ le. rw q (bit_at_ones_above end k le) in
    let one_a : first ≤ k → k < 64 → bit_at a k ≡ 1 = λ le lt. rw p (bit_at_mask_inside first 64 k le lt) in
    let one_b : k < end → bit_at b k ≡ 1 = λ lt. rw q (bit_at_ones end k lt) in (
      λ h. (
        elim (cases_lt k first) as (λ _. first ≤ k) [ inl lt ↦ (let z = low lt in absurd (omega (arith, z, both, h))) | inr le ↦ le ],
        elim (cases_lt k end) as (λ _. k < end) [ inl lt ↦ lt | inr le ↦ (let z = high le in absurd (omega (arith, z, both, h))) ],
      ),
      λ h. let x = one_a h.0 (omega arith) in let y = one_b h.1 in both ∙ omega (arith, x, y),
    )

pub ones_are : (first end : ℕ) → first < end → end ≤ 64 → (k : ℕ) → HasBit (bit_and (18446744073709551615 * 2 ^ first % 18446744073709551616) (18446744073709551615 / 2 ^ (64 - end))) k ↔ ((first ≤ k) × (k < end))
ones_are first end some fits k =
    let back : 64 - (64 - end) ≡ end = omega arith in
    shared_ones _ _ first end k (ones_shl 64 first (omega arith)) (ones_shr 64 (64 - end) (omega arith) ∙ ap (λ (n : ℕ). 2 ^ n - 1) back) fits

-- bit k of a word that was shifted down by `from`
shifted : (word from k : ℕ) → bit_at (word / 2 ^ from) k ≡ bit_at word (from + k)
shifted word from k = ap (λ (n : ℕ). n % 2) (shr-shr word from k)

pub none_left : (word from : ℕ) → word / 2 ^ from ≡ 0 → (k : ℕ) → from ≤ k → HasBit word k → ⊥
unfolding HasBit
none_left word from zero k after h =
    let place : from + (k - from) ≡ k = omega arith in
    let at : bit_at word k ≡ bit_at (word / 2 ^ from) (k - from) = sym (shifted word from (k - from) ∙ ap (bit_at word) place) in
    let none : bit_at (word / 2 ^ from) (k - from) ≡ 0 = rw zero (bit_at-zero (k - from)) in
    let one : bit_at word k ≡ 1 = h in
    absurd (omega (arith, at, none, one))

-- the lowest one that is left after a shift
pub record IsLowest (word from at : ℕ) : Type 0 where
  pub bound : at < 64
  pub found : HasBit word at
  pub skipped : (k : ℕ) → from ≤ k → k < at → HasBit word k → ⊥

pub lowest_left : (word from : ℕ) → word < 2 ^ 64 → (word / 2 ^ from ≡ 0 → ⊥) → IsLowest word from (from + trailing_zeros w64 (word / 2 ^ from))
unfolding HasBit
lowest_left word from fits some =
    let rest : ℕ = word / 2 ^ from in
    let least : (trailing_zeros w64 rest < 64) × (bit_at rest (trailing_zeros w64 rest) ≡ 1) × ((i : ℕ) → i < trailing_zeros w64 rest → bit_at rest i ≡ 0) =
    bit_at-trailing_zeros w64 rest (omega arith) (omega (arith, shr_le word from)) in
    let found : bit_at word (from + trailing_zeros w64 rest) ≡ 1 = sym (shifted word from (trailing_zeros w64 rest)) ∙ least.1 in
    record {
      bound = elim (cases_lt (from + trailing_zeros w64 rest) 64) as (λ _. from + trailing_zeros w64 rest < 64)
          [ inl lt ↦ lt | inr le ↦ (let past = bit_at_above word 64 (from + trailing_zeros w64 rest) fits le in absurd (omega (arith, past, found))) ];
      found = found;
      skipped = λ k after before h.
          let place : from + (k - from) ≡ k = omega arith in
          let at : bit_at word k ≡ bit_at rest (k - from) = sym (shifted word from (k - from) ∙ ap (bit_at word) place) in
          let none : bit_at rest (k - from) ≡ 0 = least.2 (k - from) (omega arith) in
          let one : bit_at word k ≡ 1 = h in
          absurd (omega (arith, at, none, one));
    }

pub HasBit-or : (a b k : ℕ) → HasBit (bit_or a b) k ↔ (HasBit a k ⊎ HasBit b k)
unfolding HasBit
HasBit-or a b k =
    let either : bit_at (bit_or a b) k ≡ max (bit_at a k) (bit_at b k) = bit_at_or a b k in
    let small_a : bit_at a k < 2 = bit_at-lt a k in
    let small_b : bit_at b k < 2 = bit_at-lt b k in (
      λ h. elim (cases_lt (bit_at a k) 1) as (λ _. (bit_at a k ≡ 1) ⊎ (bit_at b k ≡ 1))
          [ inl lt ↦ inr (omega (arith, either, h)) | inr le ↦ inl (omega arith) ],
      λ h. elim h as (λ _. bit_at (bit_or a b) k ≡ 1) [ inl x ↦ either ∙ omega (arith, x) | inr y ↦ either ∙ omega (arith, y) ],
    )

pub HasBit-not : (a k : ℕ) → a < 2 ^ 64 → k < 64 → HasBit (bit_not w64 a) k ↔ (HasBit a k → ⊥)
unfolding HasBit
HasBit-not a k fits within =
    let flipped : bit_at (bit_not w64 a) k ≡ 1 - bit_at a k = bit_at_not w64 a k fits within in
    let small : bit_at a k < 2 = bit_at-lt a k in
    (λ h one. absurd (omega (arith, h, one, flipped)), λ no. flipped ∙ omega (arith, no))

pub HasBit_or_not : (a k : ℕ) → HasBit a k ⊎ (HasBit a k → ⊥)
unfolding HasBit
HasBit_or_not a k =
    let small : bit_at a k < 2 = bit_at-lt a k in
    elim (cases_lt (bit_at a k) 1) as (λ _. (bit_at a k ≡ 1) ⊎ (bit_at a k ≡ 1 → ⊥))
    [ inl lt ↦ inr (λ one. absurd (omega (arith, one, lt))) | inr le ↦ inl (omega arith) ]

pub HasBit-and : (a b k : ℕ) → HasBit (bit_and a b) k ↔ (HasBit a k × HasBit b k)
unfolding HasBit
HasBit-and a b k =
    let both : bit_at (bit_and a b) k ≡ min (bit_at a k) (bit_at b k) = bit_at_and a b k in
    let small_a : bit_at a k < 2 = bit_at-lt a k in
    let small_b : bit_at b k < 2 = bit_at-lt b k in
    (λ h. (omega (arith, both, h), omega (arith, both, h)), λ h. both ∙ omega (arith, h.0, h.1))
