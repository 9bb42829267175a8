-- A row of bits with its summary, as bits are set and cleared, and the first clear bit by them.
use Rattle.std.proofs.Common.{◌≡◌, ◌≢◌, ◌↔◌, ◌⊎◌, ℕ, zero, suc, ◌+◌, ◌*◌, ◌/◌, ◌<◌, ◌≤◌, ◌^◌, List, ◌++◌, length, get_or, take, drop, take_all, replicate, refl, sym, ap, subst, ◌∙◌, inl, inr, arith}
use Rattle.std.proofs.lemmas.Bool.{cases_eq, cases_lt}
use Rattle.std.proofs.lemmas.List.{take-append-le}
use Rattle.sg_alloc.specs.Rows.{IsSummary, AreRows, HasClear, IsFirstClear}
use Rattle.sg_bits.specs.Bits.{IsSet, IsFull}
use Rattle.sg_bits.proofs.RowBits.{zero_bits}

-- bits of one word were set
pub record Grew (old new : List ℕ) (word : ℕ) : Type 0 where
  pub size : length new ≡ length old
  pub kept : (k : ℕ) → IsSet old k → IsSet new k
  pub only : (k : ℕ) → IsSet new k → IsSet old k ⊎ (k / 64 ≡ word)

pub grew_bit : (old new : List ℕ) (at : ℕ) → length new ≡ length old → ((k : ℕ) → IsSet new k ↔ (IsSet old k ⊎ ((at ≤ k) × (k < at + 1)))) → Grew old new (at / 64)
grew_bit old new at size is = record {
  size = size;
  kept = λ k s. (is k).1 (inl s);
  only = λ k s. elim ((is k).0 s) as (λ _. IsSet old k ⊎ (k / 64 ≡ at / 64)) [ inl was ↦ inl was | inr here ↦ inr (let same : k ≡ at = omega (arith, here.0, here.1) in ap (λ (n : ℕ). n / 64) same) ];
}

pub grew_full : (lower old new : List ℕ) (word : ℕ) → length new ≡ length old → ((w : ℕ) → IsSet new w ↔ (IsSet old w ⊎ ((w ≡ word) × IsFull lower word))) → Grew old new (word / 64)
grew_full lower old new word size is = record {
  size = size;
  kept = λ k s. (is k).1 (inl s);
  only = λ k s. elim ((is k).0 s) as (λ _. IsSet old k ⊎ (k / 64 ≡ word / 64)) [ inl was ↦ inl was | inr here ↦ inr (ap (λ (n : ℕ). n / 64) here.0) ];
}

-- the summary of such a row, with the word's bit set if it's full now
pub raised : (lower lower' upper upper' : List ℕ) (word : ℕ) → IsSummary lower upper → Grew lower lower' word → length upper' ≡ length upper → ((w : ℕ) → IsSet upper' w ↔ (IsSet upper w ⊎ ((w ≡ word) × IsFull lower' word))) → IsSummary lower' upper'
raised lower lower' upper upper' word h g size is = record {
  enough = let enough = h.enough in let same = g.size in omega arith;
  few = let few = h.few in omega arith;
  bits = λ w below. let was = h.bits w (let same = g.size in omega arith) in (
    (λ s. elim ((is w).0 s) as (λ _. IsFull lower' w) [
      | inl old ↦ (λ k e. g.kept k (was.0 old k e))
      | inr now ↦ (λ k e. now.1 k (e ∙ now.0))
    ]),
    (λ full. elim (cases_eq w word) as (λ _. IsSet upper' w) [
      | inl same ↦ (is w).1 (inr (same, subst (λ (n : ℕ). IsFull lower' n) same full))
      | inr other ↦ (is w).1 (inl (was.1 (λ k e. elim (g.only k (full k e)) as (λ _. IsSet lower k) [ inl old ↦ old | inr here ↦ absurd (other (sym e ∙ here)) ])))
    ]),
  );
}

-- a bit was cleared
pub lowered : (lower lower' upper upper' : List ℕ) (at : ℕ) → IsSummary lower upper → length lower' ≡ length lower → length upper' ≡ length upper → ((k : ℕ) → IsSet lower' k ↔ (IsSet lower k × (k ≢ at))) → ((w : ℕ) → IsSet upper' w ↔ (IsSet upper w × (w ≢ at / 64))) → IsSummary lower' upper'
lowered lower lower' upper upper' at h size size' gone is = record {
  enough = let enough = h.enough in omega arith;
  few = let few = h.few in omega arith;
  bits = λ w below. let was = h.bits w (omega arith) in (
    (λ s k e. (gone k).1 (was.0 ((is w).0 s).0 k e, λ same. ((is w).0 s).1 (sym e ∙ ap (λ (n : ℕ). n / 64) same))),
    (λ full. (is w).1 (was.1 (λ k e. ((gone k).0 (full k e)).0), λ same. ((gone at).0 (full at (sym same))).1 refl)),
  );
}

-- a clear bit isn't below a place up to which the summary's bits are set, and the bits up to that place are set
pub record Descends (lower : List ℕ) (top k : ℕ) : Type 0 where
  pub least : top ≤ k / 64
  pub below : (j : ℕ) → j < top * 64 → IsSet lower j

pub above : (lower upper : List ℕ) (k : ℕ) → IsSummary lower upper → k < 64 * length lower → ¬ IsSet lower k → ¬ IsSet upper (k / 64)
above lower upper k h within clear s = clear ((h.bits (k / 64) (omega arith)).0 s k refl)

pub descend : (lower upper : List ℕ) (top k : ℕ) → IsSummary lower upper → ((w : ℕ) → w < top → IsSet upper w) → k < 64 * length lower → ¬ IsSet lower k → Descends lower top k
descend lower upper top k h set within clear =
    let least : top ≤ k / 64 = elim (cases_lt (k / 64) top) as (λ _. top ≤ k / 64) [ inl under ↦ absurd (above lower upper k h within clear (set (k / 64) under)) | inr le ↦ le ] in
    record { least = least; below = λ j under. (h.bits (j / 64) (omega arith)).0 (set (j / 64) (omega arith)) j refl }

-- what is known of the bits below, as far as the next look goes
pub all_below : (lower : List ℕ) (from n : ℕ) → ((j : ℕ) → j < from → IsSet lower j) → ((j : ℕ) → from ≤ j → j < n → IsSet lower j) → (j : ℕ) → j < n → IsSet lower j
all_below lower from n first then j less = elim (cases_lt j from) as (λ _. IsSet lower j) [ inl under ↦ first j under | inr over ↦ then j over less ]

-- the three looks
pub record Looks (words full all_full : List ℕ) (top word : ℕ) : Type 0 where
  pub top_fits : top * 64 ≤ 64 * length full
  pub full_below : (j : ℕ) → j < top * 64 → IsSet full j

pub top_look : (words full all_full : List ℕ) (top : ℕ) → AreRows words full all_full → (c : HasClear words) → ((w : ℕ) → w < top → IsSet all_full w) → Descends full top (c.0 / 64)
top_look words full all_full top h c set =
    let enough = h.first.enough in
    let less = c.1 in
    descend full all_full top (c.0 / 64) h.second set (omega arith) (above words full c.0 h.first c.1 c.2)

pub word_look : (words full all_full : List ℕ) (top word : ℕ) → AreRows words full all_full → (c : HasClear words) → Descends full top (c.0 / 64) → ((w : ℕ) → top * 64 ≤ w → w < word → IsSet full w) → Descends words word c.0
word_look words full all_full top word h c d set = descend words full word c.0 h.first (all_below full (top * 64) word d.below set) c.1 c.2

pub bit_look : (words full all_full : List ℕ) (word n : ℕ) → AreRows words full all_full → (c : HasClear words) → Descends words word c.0 → ((w : ℕ) → word * 64 ≤ w → w < n → IsSet words w) → ¬ IsSet words n → IsFirstClear words n
bit_look words full all_full word n h c d set clear =
    let all = all_below words (word * 64) n d.below set in
    let most : n ≤ c.0 = elim (cases_lt c.0 n) as (λ _. n ≤ c.0) [ inl under ↦ absurd (c.2 (all c.0 under)) | inr le ↦ le ] in
    let less = c.1 in
    record { within = omega arith; clear = clear; below = all }

-- a slice written whole into the front of a list that it was
pub front_is : (n : ℕ) (xs ys : List ℕ) → length xs ≡ n → take n (xs ++ ys) ≡ xs
front_is n xs ys e = take-append-le n xs ys (omega arith) ∙ take_all n xs (omega arith)

-- rows of zeros
abbrev pub zero_words : ℕ → List ℕ
zero_words n = replicate n 0

zero_at : (n k : ℕ) → get_or (zero_words n) k 0 ≡ 0
zero_at zero k = refl
zero_at (suc n) zero = refl
zero_at (suc n) (suc k) = zero_at n k

pub zeros_long : (n : ℕ) → length (zero_words n) ≡ n
zeros_long zero = refl
zeros_long (suc n) = let rest = zeros_long n in omega arith

pub zeros_clear : (n k : ℕ) → ¬ IsSet (zero_words n) k
zeros_clear n k = zero_bits (zero_words n) k (zero_at n (k / 64))

pub zeros_summary : (n m : ℕ) → n ≤ 64 * m → 64 * m < 2 ^ 64 → IsSummary (zero_words n) (zero_words m)
zeros_summary n m enough few =
    let long = zeros_long n in
    let long' = zeros_long m in
    record {
      enough = omega arith;
      few = omega arith;
      bits = λ w below. (
        (λ s. absurd (zeros_clear m w s)),
        (λ full. absurd (zeros_clear n (w * 64) (full (w * 64) (let e : w * 64 / 64 ≡ w = omega arith in e)))),
      );
    }

pub zeros_are_rows : (words full all_full : List ℕ) (count : ℕ) → 64 * count < 2 ^ 63 → words ≡ zero_words count → full ≡ zero_words (count / 64 + 1) → all_full ≡ zero_words ((count / 64 + 1) / 64 + 1) → AreRows words full all_full
zeros_are_rows words full all_full count few e f g =
    let first : IsSummary (zero_words count) (zero_words (count / 64 + 1)) = zeros_summary count (count / 64 + 1) (omega arith) (omega arith) in
    let second : IsSummary (zero_words (count / 64 + 1)) (zero_words ((count / 64 + 1) / 64 + 1)) = zeros_summary (count / 64 + 1) ((count / 64 + 1) / 64 + 1) (omega arith) (omega arith) in
    record {
      few = let long = zeros_long count in subst (λ (xs : List ℕ). 64 * length xs < 2 ^ 64) (sym e) (omega arith);
      first = subst (λ (xs : List ℕ). IsSummary xs full) (sym e) (subst (λ (xs : List ℕ). IsSummary (zero_words count) xs) (sym f) first);
      second = subst (λ (xs : List ℕ). IsSummary xs all_full) (sym f) (subst (λ (xs : List ℕ). IsSummary (zero_words (count / 64 + 1)) xs) (sym g) second);
    }
