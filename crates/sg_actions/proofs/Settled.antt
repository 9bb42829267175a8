-- Giving back what was freed.
use Rattle.std.proofs.Common.{◌≡◌, ℕ, ◌+◌, ◌<◌, List, length, Option, Some, Bool, true, false, sym, ap, subst, ◌∙◌, refl, arith, slice_get, slice_set, inl, inr}
use Rattle.std.specs.Prelude.{◌&&◌}
use Rattle.std.proofs.lemmas.Bool.{cases_eq}
use Rattle.std.proofs.lemmas.List.{length-set}
use Rattle.std.proofs.lemmas.Option.{slice_get_within}
use Rattle.sg_alloc.specs.Flags.{free_of}
use Rattle.sg_alloc.proofs.Counted.{one_less, one_more}
use Rattle.sg_actions.specs.Calls.{AreSettled}
use Rattle.sg_actions.specs.Taken.{is_set, is_there, AreFlags, AreSaid}
use Rattle.sg_actions.proofs.Flags.{set_by, get_set, and_left}
use Rattle.sg_actions.proofs.Taking.{set_here, set_there, none_freed}

-- some of what was freed is given back
pub record AreSettling (taken unfreed taken' unfreed' : List Bool) : Type 0 where
  pub there : (n : ℕ) → is_there taken' unfreed' n ≡ is_there taken unfreed n
  pub flags : AreFlags taken' unfreed'
  pub free : free_of taken' + free_of unfreed' ≡ free_of taken + free_of unfreed
  pub long : length taken' ≡ length taken
  pub long_un : length unfreed' ≡ length unfreed

pub settling_none : (taken unfreed : List Bool) → AreFlags taken unfreed → AreSettling taken unfreed taken unfreed
settling_none taken unfreed h = record { there = λ n. refl; flags = h; free = refl; long = refl; long_un = refl }

-- the flag of one that is marked as freed is set
pub freed_taken : (taken unfreed : List Bool) (p : ℕ) → AreFlags taken unfreed → slice_get unfreed p ≡ Some false → slice_get taken p ≡ Some true
freed_taken taken unfreed p h is = let below = slice_get_within unfreed p false is in get_set taken p (h.inside p (omega (arith, below, h.long)) (set_by unfreed p false is))

and_false : (a b : Bool) → b ≡ false → (a && b) ≡ false
and_false true b e = e
and_false false b e = refl

pub settling_one : (taken unfreed now unnow next unnext : List Bool) (p : ℕ) → AreSettling taken unfreed now unnow → slice_get unnow p ≡ Some false → unnext ≡ slice_set unnow p true → next ≡ slice_set now p false → AreSettling taken unfreed next unnext
settling_one taken unfreed now unnow next unnext p h is e f = subst (λ (xs : List Bool). AreSettling taken unfreed xs unnext) (sym f) (subst (λ (ys : List Bool). AreSettling taken unfreed (slice_set now p false) ys) (sym e) (record {
  there = λ n. elim (cases_eq n p) [
    | inl same ↦ subst (λ (k : ℕ). is_there (slice_set now p false) (slice_set unnow p true) k ≡ is_there taken unfreed k) (sym same)
        (ap (λ (b : Bool). b && is_set (slice_set unnow p true) p) (set_here now p false below) ∙ (sym (and_false (is_set now p) (is_set unnow p) (set_by unnow p false is)) ∙ h.there p))
    | inr ne ↦ (λ j. set_there now p n false ne j && set_there unnow p n true ne j) ∙ h.there n
  ];
  flags = record {
    long = length-set unnow p true ∙ (h.flags.long ∙ sym (length-set now p false));
    inside = λ n less clear. elim (cases_eq n p) [
      | inl same ↦ absurd (no (sym (set_here unnow p true below_un) ∙ (ap (is_set (slice_set unnow p true)) (sym same) ∙ clear)))
      | inr ne ↦ set_there now p n false ne ∙ h.flags.inside n (let l = length-set now p false in omega (arith, less, l)) (sym (set_there unnow p n true ne) ∙ clear)
    ];
    few = let l = length-set now p false in omega (arith, l, h.flags.few);
  };
  free = let a = one_less unnow p is in let b = one_more now p (freed_taken now unnow p h.flags is) in omega (arith, a, b, h.free);
  long = length-set now p false ∙ h.long;
  long_un = length-set unnow p true ∙ h.long_un;
}))
  where
    below_un : p < length unnow
    below_un = slice_get_within unnow p false is

    below : p < length now
    below = omega (arith, below_un, h.flags.long)

    no : true ≡ false → ⊥
    no k = cc

-- all is given back
pub settled : (taken unfreed now unnow : List Bool) → AreSettling taken unfreed now unnow → free_of unnow ≡ 0 → AreSettled taken unfreed now unnow
settled taken unfreed now unnow h none = record {
  same = h.there;
  there = λ n. by_flag n (is_set now n) refl ∙ h.there n;
  none = none;
  free = let f = h.free in omega (arith, f, none);
  long = h.long;
  long_un = h.long_un;
}
  where
    by_flag : (n : ℕ) (b : Bool) → is_set now n ≡ b → is_set now n ≡ is_there now unnow n
    by_flag n false e = e ∙ sym (ap (λ (b : Bool). b && is_set unnow n) e)
    by_flag n true e =
        let within : n < length now = slice_get_within now n true (get_set now n e) in
        e ∙ sym (ap (λ (b : Bool). b && is_set unnow n) e ∙ none_freed unnow n none (omega (arith, within, h.flags.long)))

-- each that is still taken says what it said
pub said_settled : {A : Type 0} (taken unfreed taken' unfreed' now : List Bool) (contents : ℕ → Option A) → AreSettled taken unfreed taken' unfreed' → now ≡ taken' → AreSaid taken contents → AreSaid now contents
said_settled taken unfreed taken' unfreed' now contents h is said n set = said n (and_left (is_set taken n) (is_set unfreed n) (sym (h.there n) ∙ (sym (ap (λ (xs : List Bool). is_set xs n) is) ∙ set)))
