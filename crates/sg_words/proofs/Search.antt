-- The first place of a byte.
use Rattle.std.proofs.Common.{◌≡◌, ℕ, ◌+◌, ◌<◌, ◌≤◌, Bool, true, false, cond, not, nat_lt, List, [], ◌∷◌, ◌++◌, length, take, drop, Option, Some, None, slice_index, refl, sym, ap, ◌∙◌, subst, arith, length-append}
use Rattle.std.proofs.lemmas.List.{take-append-drop}
use Rattle.std.specs.Prelude.{◌==◌}
use Rattle.std.specs.List.{position, position_or_len}
use Rattle.std.proofs.lemmas.List.Sums.{position_or_len_is}
use Rattle.std.proofs.lemmas.Bool.Decides.{nat_tests}
use Rattle.memchr.specs.Find.{IsFirstByte, is_byte}
use Rattle.sg_words.proofs.Cuts.{chosen, refused}

not_true : (b : Bool) → (b ≡ true → ⊥) → b ≡ false
not_true true h = absurd (h refl)
not_true false h = refl

at_place : (at k : ℕ) (text : List ℕ) → position_or_len (λ b. b == at) text ≡ k → position (λ b. b == at) text ≡ cond (nat_lt k (length text)) (Some k) None
at_place at k text e = ap (λ (n : ℕ). cond (nat_lt n (length text)) (Some n) None) e

below : (m n : ℕ) → m < n → nat_lt m n ≡ true
below m n h = grind (arith, nat_tests)

not_less : (m n : ℕ) → n ≤ m → nat_lt m n ≡ false
not_less m n h = grind (arith, nat_tests)

not_below : (n : ℕ) → nat_lt n n ≡ false
not_below n = grind (arith, nat_tests)

-- what a search for a byte gives is its position
pub is_position : (at : ℕ) (text : List ℕ) (r : Option ℕ) → IsFirstByte (is_byte at) text r → r ≡ position (λ b. b == at) text
is_position at text None h =
    let e = position_or_len_is (λ b. b == at) text (length text) 0 (omega arith) (λ k i. not_true (slice_index text k == at) (h k (omega arith) i)) (λ i. absurd (omega arith)) in
    sym (at_place at (length text) text e ∙ ap (λ (b : Bool). cond b (Some (length text)) None) (not_below (length text)))
is_position at text (Some n) h =
    let high : n < length text = h.0.high in
    let e = position_or_len_is (λ b. b == at) text n 0 (omega arith) (λ k i. not_true (slice_index text k == at) (h.0.before k (omega arith) i)) (λ i. h.1) in
    sym (at_place at n text e ∙ ap (λ (b : Bool). cond b (Some n) None) (below n (length text) high))

-- where the first part has none, the place is one of the second
place_none : (p : ℕ → Bool) (xs ys : List ℕ) → length xs ≤ position_or_len p xs → position_or_len p (xs ++ ys) ≡ length xs + position_or_len p ys
place_none p [] ys h = omega arith
place_none p (x ∷ xs) ys h =
    elim (p x) as (λ b. length (x ∷ xs) ≤ cond (not b) (1 + position_or_len p xs) 0 → cond (not b) (1 + position_or_len p (xs ++ ys)) 0 ≡ length (x ∷ xs) + position_or_len p ys) [
      | true ↦ λ k. absurd (omega arith)
      | false ↦ λ k. let e = place_none p xs ys (omega arith) in omega arith
    ] h

placed : (p : ℕ → Bool) (xs : List ℕ) (i : ℕ) → position_or_len p xs ≡ i → i < length xs → position p xs ≡ Some i
placed p xs i e h = ap (λ (n : ℕ). cond (nat_lt n (length xs)) (Some n) None) e ∙ ap (λ (b : Bool). cond b (Some i) None) (below i (length xs) h)

module _ (p : ℕ → Bool) (text near far : List ℕ) (n : ℕ) (front : near ≡ take n text) (back : far ≡ drop n text) where
  whole : near ++ far ≡ text
  whole = ap (λ (xs : List ℕ). xs ++ far) front ∙ (ap (λ (ys : List ℕ). take n text ++ ys) back ∙ take-append-drop n text)

  pub far_place : (i : ℕ) → position p near ≡ None → position p far ≡ Some i → position p text ≡ Some (length near + i)
  far_place i none e =
      let k = refused (nat_lt (position_or_len p near) (length near)) (position_or_len p near) none in
      let past : length near ≤ position_or_len p near = grind (arith, nat_tests, k) in
      let h = chosen (nat_lt (position_or_len p far) (length far)) (position_or_len p far) i e in
      let within : i < length far = grind (arith, nat_tests, h.0, h.1) in
      subst (λ (t : List ℕ). position p t ≡ Some (length near + i)) whole (placed p (near ++ far) (length near + i) (place_none p near far past ∙ ap (λ (m : ℕ). length near + m) h.1) (omega (arith, within, length-append near far)))

  pub no_place : position p near ≡ None → position p far ≡ None → position p text ≡ None
  no_place none none_far =
      let k = refused (nat_lt (position_or_len p near) (length near)) (position_or_len p near) none in
      let past : length near ≤ position_or_len p near = grind (arith, nat_tests, k) in
      let k2 = refused (nat_lt (position_or_len p far) (length far)) (position_or_len p far) none_far in
      let past_far : length far ≤ position_or_len p far = grind (arith, nat_tests, k2) in
      let e : position_or_len p (near ++ far) ≡ length near + position_or_len p far = place_none p near far past in
      let beyond : length (near ++ far) ≤ position_or_len p (near ++ far) = omega (arith, e, past_far, length-append near far) in
      subst (λ (t : List ℕ). position p t ≡ None) whole (ap (λ (b : Bool). cond b (Some (position_or_len p (near ++ far))) None) (not_less (position_or_len p (near ++ far)) (length (near ++ far)) beyond))
