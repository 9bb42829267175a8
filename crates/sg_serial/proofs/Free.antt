-- Where no other transaction holds a touch in conflict, none holds anything in conflict.
use Rattle.std.proofs.Common.{◌≡◌, ℕ, Bool, true, false, cond, not, List, [], ◌∷◌, Option, Some, None, refl, sym, ap, ◌∙◌, subst}
use Rattle.std.proofs.Common.{inl, inr}
use Rattle.std.specs.Prelude.{◌||◌, ◌&&◌, ◌==◌}
use Rattle.std.specs.List.{list_any}
use Rattle.std.proofs.lemmas.Bool.{eqb-true, ne_eqb}
use Rattle.sg_serial.specs.Machine.{any_touch, IsClearOf}
use Rattle.sg_serial.specs.Locks.{Touch, Hold, reads, writes, held_of, is_in_way, first_holder, lesser}
use Rattle.sg_serial.specs.Runs.{IsFree}
use Rattle.sg_serial.proofs.Commute.{true_or_false, or_true, or_false}
use Rattle.sg_serial.proofs.Kept.{not_both}

-- two touches that are not in conflict write nothing that the other covers
pub record IsConflict {Resource Cell : Type 0} (covers : Resource → Cell → Bool) (conflict : Touch Resource → Touch Resource → Bool) : Type 0 where
  pub first : (a b : Touch Resource) → conflict a b ≡ false → (c : Cell) → writes covers a c ≡ true → reads covers b c ≡ false
  pub second : (a b : Touch Resource) → conflict a b ≡ false → (c : Cell) → writes covers b c ≡ true → reads covers a c ≡ false

none_split : (b : Bool) (n : ℕ) (r : Option ℕ) → cond b (lesser n r) r ≡ None → (b ≡ false) × (r ≡ None)
none_split true n None h = absurd (cc)
none_split true n (Some m) h = absurd (cc)
none_split false n r h = (refl, h)

module _ {Resource Cell : Type 0} (covers : Resource → Cell → Bool) (conflict : Touch Resource → Touch Resource → Bool) (law : IsConflict covers conflict) where
  clear_first : (a : Touch Resource) (ts : List (Touch Resource)) → list_any (λ b. conflict a b) ts ≡ false → (c : Cell) → writes covers a c ≡ true → any_touch (reads covers) ts c ≡ false
  clear_first a [] h c w = refl
  clear_first a (b ∷ ts) h c w = or_false (reads covers b c) (any_touch (reads covers) ts c) (law.first a b (left_false (conflict a b) (list_any (λ b. conflict a b) ts) h) c w) (clear_first a ts (right_false (conflict a b) (list_any (λ b. conflict a b) ts) h) c w)
    where
      left_false : (p q : Bool) → (p || q) ≡ false → p ≡ false
      left_false true q h = h
      left_false false q h = refl

      right_false : (p q : Bool) → (p || q) ≡ false → q ≡ false
      right_false true q h = absurd (not_both true refl h)
      right_false false q h = h

  clear_second : (a : Touch Resource) (ts : List (Touch Resource)) → list_any (λ b. conflict a b) ts ≡ false → (c : Cell) → any_touch (writes covers) ts c ≡ true → reads covers a c ≡ false
  clear_second a [] h c w = absurd (not_both false w refl)
  clear_second a (b ∷ ts) h c w = elim (or_true (writes covers b c) (any_touch (writes covers) ts c) w) [
    | inl i ↦ law.second a b (left_false (conflict a b) (list_any (λ b. conflict a b) ts) h) c i
    | inr j ↦ clear_second a ts (right_false (conflict a b) (list_any (λ b. conflict a b) ts) h) c j
  ]
    where
      left_false : (p q : Bool) → (p || q) ≡ false → p ≡ false
      left_false true q h = h
      left_false false q h = refl

      right_false : (p q : Bool) → (p || q) ≡ false → q ≡ false
      right_false true q h = absurd (not_both true refl h)
      right_false false q h = h

  pub free_of_none : (hs : List (Hold Resource)) (t : ℕ) (ts : List (Touch Resource)) → first_holder conflict t ts hs ≡ None → IsFree covers hs t ts
  free_of_none [] t ts h u n = ((λ c w. absurd (not_both false w refl)), (λ c w. refl))
  free_of_none (h ∷ hs) t ts e u n =
      let s = none_split (is_in_way conflict t ts h) h.transaction (first_holder conflict t ts hs) e in
      let rest = free_of_none hs t ts s.1 u n in
      elim (true_or_false (h.transaction == u)) [
        | inl y ↦ (let off : (h.transaction == t) ≡ false = ne_eqb h.transaction t (λ q. n (sym (eqb-true h.transaction u y) ∙ q)) in
            let none : list_any (λ a. conflict h.touch a) ts ≡ false = sym (ap (λ b. not b && list_any (λ a. conflict h.touch a) ts) off) ∙ s.0 in
            let here : held_of (h ∷ hs) u ≡ h.touch ∷ held_of hs u = ap (λ b. cond b (h.touch ∷ held_of hs u) (held_of hs u)) y in (
              (λ c w. elim (or_true (writes covers h.touch c) (any_touch (writes covers) (held_of hs u) c) (ap (λ (ks : List (Touch Resource)). any_touch (writes covers) ks c) (sym here) ∙ w)) [
                | inl i ↦ clear_first h.touch ts none c i
                | inr j ↦ rest.0 c j
              ]),
              (λ c w. ap (λ (ks : List (Touch Resource)). any_touch (reads covers) ks c) here ∙ or_false (reads covers h.touch c) (any_touch (reads covers) (held_of hs u) c) (clear_second h.touch ts none c w) (rest.1 c w)),
            ))
        | inr other ↦ (let here : held_of (h ∷ hs) u ≡ held_of hs u = ap (λ b. cond b (h.touch ∷ held_of hs u) (held_of hs u)) other in
            subst (λ (ks : List (Touch Resource)). IsClearOf (reads covers) (writes covers) ks ts × IsClearOf (reads covers) (writes covers) ts ks) (sym here) rest)
      ]
