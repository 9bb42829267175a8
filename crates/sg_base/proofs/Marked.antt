-- Cells checked one by one.
use Rattle.std.proofs.Common.{◌≡◌, ◌≢◌, ℕ, ◌+◌, ◌*◌, ◌<◌, ◌≤◌, List, [], ◌∷◌, length, drop, replicate, refl, sym, ap, ◌∙◌, subst, arith, inl, inr, slice_index, ◌/◌, ◌%◌}
use Rattle.std.proofs.lemmas.Bool.{cases_lt, cases_eq}
use Rattle.std.specs.Int.{bit_at}
use Rattle.std.proofs.lemmas.Nat.Bits.{bit_at-zero}
use Rattle.std.proofs.lemmas.List.{get_or-replicate, get_or_past, length-replicate, length-take-le, length-drop}
use Rattle.std.proofs.lemmas.List.Sums.{sum_by-append}
use Rattle.sg_bits.specs.Bits.{HasBit, IsSet}
use Rattle.sg_base.specs.Page.{bytes_at, offset_at, length_at, slot_at, slots_below, cell_size, stored, HasCell, IsInCell, IsWhole, AreCells}
use Rattle.sg_base.specs.Taken.{IsTaken, Takes, IsMet, AreTaken}
use Rattle.sg_base.proofs.Slots.{slots_below-more, slot_at_empty, slot_at_full}

-- the cells of the first n slots are whole and apart, their places are taken, and their bytes are counted
pub record IsCheckedTo (page : List ℕ) (start n : ℕ) (taken : List ℕ) (bytes : ℕ) : Type 0 where
  pub cells : AreCells page start n
  pub marks : AreTaken page n taken
  pub sum : bytes ≡ stored (slots_below page n)
  pub most : bytes ≤ 4096 * n

no_word : (n word : ℕ) → slice_index (replicate {A = ℕ} n 0) word ≡ 0
no_word n word =
    elim (cases_lt word n) [
      | inl below ↦ get_or-replicate {A = ℕ} n word 0 0 below
      | inr past ↦ let P : ℕ → Type 0 = λ x. x ≤ word in
          let long : length (replicate {A = ℕ} n 0) ≡ n = length-replicate n 0 in
          get_or_past {X = ℕ} (replicate {A = ℕ} n 0) word 0 (subst P (sym long) past)
    ]

not_taken : (n place : ℕ) → ¬ IsTaken (replicate {A = ℕ} n 0) place
unfolding IsSet HasBit
not_taken n place t =
    let P : ℕ → Type 0 = λ w. bit_at w (place % 64) ≡ 1 in
    let none : bit_at 0 (place % 64) ≡ 1 = subst P (no_word n (place / 64)) t in
    absurd (omega (arith, bit_at-zero (place % 64)))

pub checked_none : (page : List ℕ) (start n : ℕ) → IsCheckedTo page start 0 (replicate {A = ℕ} n 0) 0
unfolding slots_below
checked_none page start n = record {
  cells = record { whole = λ i has. (let b = has.below in absurd (omega arith)); apart = λ i j k hi hj ne in_i in_j. (let b = hi.below in absurd (omega arith)) };
  marks = record { cells = λ i k has is_in. (let b = has.below in absurd (omega arith)); only = λ k t. absurd (not_taken n k t) };
  sum = refl;
  most = omega arith;
}

-- an older slot
older : (page : List ℕ) (n i : ℕ) → HasCell page (n + 1) i → i ≢ n → HasCell page n i
older page n i has ne = let below = has.below in record { below = omega arith; full = has.full }

-- a cell with a place that is another's
pub meets : (page : List ℕ) (start s count : ℕ) (taken : List ℕ) (bytes : ℕ) → IsCheckedTo page start s taken bytes → s < count → 0 < offset_at page s → IsMet taken (offset_at page s) (offset_at page s + length_at page s) → ¬ AreCells page start count
meets page start s count taken bytes h below full m cells =
    let other = h.marks.only m.0 m.3 in
    let has : HasCell page s other.0 = other.1 in
    let less = has.below in
    let there : HasCell page count other.0 = record { below = omega arith; full = has.full } in
    let here : HasCell page count s = record { below = below; full = full } in
    cells.apart other.0 s m.0 there here (omega arith) other.2 (record { from = m.1; to = m.2 })

-- one more cell
more_cells : (page : List ℕ) (start s : ℕ) (taken new : List ℕ) (bytes : ℕ) → IsCheckedTo page start s taken bytes → IsWhole page start s → Takes taken new (offset_at page s) (offset_at page s + length_at page s) → AreCells page start (s + 1)
more_cells page start s taken new bytes h w t = record {
  whole = λ i has. elim (cases_eq i s) [
    | inl e ↦ let P : ℕ → Type 0 = λ k. IsWhole page start k in subst P (sym e) w
    | inr ne ↦ h.cells.whole i (older page s i has ne)
  ];
  apart = λ i j k hi hj ne in_i in_j. elim (cases_eq i s) [
    | inl e ↦ elim (cases_eq j s) [
      | inl f ↦ ne (e ∙ sym f)
      | inr f ↦ let P : ℕ → Type 0 = λ q. IsInCell page q k in let mine : IsInCell page s k = subst P e in_i in t.free k mine.from mine.to (h.marks.cells j k (older page s j hj f) in_j)
    ]
    | inr e ↦ elim (cases_eq j s) [
      | inl f ↦ let P : ℕ → Type 0 = λ q. IsInCell page q k in let mine : IsInCell page s k = subst P f in_j in t.free k mine.from mine.to (h.marks.cells i k (older page s i hi e) in_i)
      | inr f ↦ h.cells.apart i j k (older page s i hi e) (older page s j hj f) ne in_i in_j
    ]
  ];
}

more_taken : (page : List ℕ) (start s : ℕ) (taken new : List ℕ) (bytes : ℕ) → IsCheckedTo page start s taken bytes → 0 < offset_at page s → Takes taken new (offset_at page s) (offset_at page s + length_at page s) → AreTaken page (s + 1) new
more_taken page start s taken new bytes h full t = record {
  cells = λ i k has is_in. elim (cases_eq i s) [
    | inl e ↦ let P : ℕ → Type 0 = λ q. IsInCell page q k in let mine : IsInCell page s k = subst P e is_in in t.here k mine.from mine.to
    | inr ne ↦ t.before k (h.marks.cells i k (older page s i has ne) is_in)
  ];
  only = λ k marked. elim (t.only k marked) [
    | inl was ↦ (let other = h.marks.only k was in let has : HasCell page s other.0 = other.1 in let less = has.below in
        let now : HasCell page (s + 1) other.0 = record { below = omega arith; full = has.full } in (other.0, now, other.2))
    | inr mine ↦ (let now : HasCell page (s + 1) s = record { below = omega arith; full = full } in let here : IsInCell page s k = record { from = mine.0; to = mine.1 } in (s, now, here))
  ];
}

sum_more : (page : List ℕ) (s : ℕ) → stored (slots_below page (s + 1)) ≡ stored (slots_below page s) + (0 + cell_size (slot_at page s))
sum_more page s = ap stored (slots_below-more page s) ∙ sum_by-append cell_size (slots_below page s) (slot_at page s ∷ [])

pub checked_full : (page : List ℕ) (start s : ℕ) (taken new : List ℕ) (bytes : ℕ) → length page ≡ 4096 → IsCheckedTo page start s taken bytes → 0 < offset_at page s → IsWhole page start s → Takes taken new (offset_at page s) (offset_at page s + length_at page s) → IsCheckedTo page start (s + 1) new (bytes + length_at page s)
unfolding bytes_at
checked_full page start s taken new bytes long h full w t =
    let size : length (bytes_at page (offset_at page s) (length_at page s)) ≡ length_at page s = length-take-le (length_at page s) (drop (offset_at page s) page) (omega (arith, length-drop (offset_at page s) page)) in
    let cell : cell_size (slot_at page s) ≡ length_at page s = ap cell_size (slot_at_full page s full) ∙ size in
    let sum = h.sum in
    let most = h.most in
    record {
      cells = more_cells page start s taken new bytes h w t;
      marks = more_taken page start s taken new bytes h full t;
      sum = omega (arith, sum_more page s);
      most = omega arith;
    }

pub checked_empty : (page : List ℕ) (start s : ℕ) (taken : List ℕ) (bytes : ℕ) → IsCheckedTo page start s taken bytes → offset_at page s ≡ 0 → IsCheckedTo page start (s + 1) taken bytes
checked_empty page start s taken bytes h empty =
    let cell : cell_size (slot_at page s) ≡ 0 = ap cell_size (slot_at_empty page s empty) in
    let sum = h.sum in
    let most = h.most in
    let not_this : (i : ℕ) → HasCell page (s + 1) i → i ≢ s = λ i has e. (let full = has.full in let none : offset_at page i ≡ 0 = ap (offset_at page) e ∙ empty in absurd (omega arith)) in
    record {
      cells = record {
        whole = λ i has. h.cells.whole i (older page s i has (not_this i has));
        apart = λ i j k hi hj ne in_i in_j. h.cells.apart i j k (older page s i hi (not_this i hi)) (older page s j hj (not_this j hj)) ne in_i in_j;
      };
      marks = record {
        cells = λ i k has is_in. h.marks.cells i k (older page s i has (not_this i has)) is_in;
        only = λ k marked. (let other = h.marks.only k marked in let has : HasCell page s other.0 = other.1 in let less = has.below in
            let now : HasCell page (s + 1) other.0 = record { below = omega arith; full = has.full } in (other.0, now, other.2));
      };
      sum = omega (arith, sum_more page s);
      most = omega arith;
    }
