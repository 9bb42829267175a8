-- The order of keys, and the first of some entries that passes.
use Rattle.std.proofs.Common.{◌≡◌, ℕ, zero, suc, ◌<◌, ◌≤◌, Bool, true, false, cond, List, [], ◌∷◌, ◌++◌, length, get_or, Option, Some, None, refl, sym, ap, ◌∙◌, arith}
use Rattle.std.specs.Prelude.{find, not}
use Rattle.std.specs.Ordering.{is_lt, is_gt, ordering_reverse}
use Rattle.std.specs.Cmp.{IsTotalOrder, alike_right}
use Rattle.std.specs.Cmp.Lexicographic.{nat_list_cmp_total}
use Rattle.std.specs.declared.cmp.Ordering.{Ordering}
use Rattle.std.specs.declared.cmp.Ordering.TheVariants.{Less, Equal, Greater}
use Rattle.sg_index.specs.Order.{key_cmp, IsBelow, is_from}
use Rattle.sg_index.proofs.Every.{Every}

pub total : IsTotalOrder key_cmp
total = nat_list_cmp_total

pub below_trans : (a b c : List ℕ) → IsBelow a b → IsBelow b c → IsBelow a c
below_trans a b c = nat_list_cmp_total.trans a b c

-- what is above another key is so the other way round
pub above_back : (a b : List ℕ) → IsBelow a b → key_cmp b a ≡ Greater
above_back a b h = nat_list_cmp_total.antisymm b a ∙ ap ordering_reverse h

pub greater_back : (a b : List ℕ) → key_cmp a b ≡ Greater → IsBelow b a
greater_back a b h = nat_list_cmp_total.antisymm b a ∙ ap ordering_reverse h

-- what is below a key is below each that isn't below that one
pub below_upto : (a b c : List ℕ) → IsBelow a b → (IsBelow c b → ⊥) → IsBelow a c
below_upto a b c below upto = by (key_cmp b c) refl
  where
    by : (o : Ordering) → key_cmp b c ≡ o → IsBelow a c
    by Less e = below_trans a b c below e
    by Equal e = sym (alike_right total b c a e) ∙ below
    by Greater e = absurd (upto (greater_back b c e))

pub below_not_from : (from : List ℕ) (strict : Bool) (key : List ℕ) → IsBelow key from → is_from from strict key ≡ false
below_not_from from true key e = ap is_gt e
below_not_from from false key e = ap (λ (o : Ordering). not (is_lt o)) e

pub above_from : (from : List ℕ) (strict : Bool) (key : List ℕ) → IsBelow from key → is_from from strict key ≡ true
above_from from true key e = ap is_gt (above_back from key e)
above_from from false key e = ap (λ (o : Ordering). not (is_lt o)) (above_back from key e)

module _ {X : Type 0} (p : X → Bool) where
  pub find_skip : (xs ys : List X) → Every (λ x. p x ≡ false) xs → find p (xs ++ ys) ≡ find p ys
  find_skip [] ys all = refl
  find_skip (x ∷ xs) ys all = rw all.0 (find_skip xs ys all.1)

  stop_by : (b : Bool) (x : X) (rest rest' : Option X) (found : X) → (rest ≡ Some found → rest' ≡ Some found) → cond b (Some x) rest ≡ Some found → cond b (Some x) rest' ≡ Some found
  stop_by true x rest rest' found f h = h
  stop_by false x rest rest' found f h = f h

  pub find_stop : (xs ys : List X) (found : X) → find p xs ≡ Some found → find p (xs ++ ys) ≡ Some found
  find_stop [] ys found h = absurd (no found h)
    where
      no : (x : X) → None ≡ Some x → ⊥
      no x f = cc
  find_stop (x ∷ xs) ys found h = stop_by (p x) x (find p xs) (find p (xs ++ ys)) found (find_stop xs ys found) h

  on_by : (b : Bool) (x : X) (rest rest' all : Option X) → (rest ≡ None → rest' ≡ all) → cond b (Some x) rest ≡ None → cond b (Some x) rest' ≡ all
  on_by true x rest rest' all f h = absurd (no x h)
    where
      no : (x : X) → Some x ≡ None → ⊥
      no x f = cc
  on_by false x rest rest' all f h = f h

  pub find_on : (xs ys : List X) → find p xs ≡ None → find p (xs ++ ys) ≡ find p ys
  find_on [] ys h = refl
  find_on (x ∷ xs) ys h = on_by (p x) x (find p xs) (find p (xs ++ ys)) (find p ys) (find_on xs ys) h

  pub find_none : (xs : List X) → Every (λ x. p x ≡ false) xs → find p xs ≡ None
  find_none [] all = refl
  find_none (x ∷ xs) all = rw all.0 (find_none xs all.1)

  pub find_first : (x : X) (xs : List X) → p x ≡ true → find p (x ∷ xs) ≡ Some x
  find_first x xs e = rw e refl

  -- the elements before a place don't pass
  pub find_from : (xs : List X) (n : ℕ) → n ≤ length xs → ((k : ℕ) (d : X) → k < n → p (get_or xs k d) ≡ false) → (n < length xs → (d : X) → p (get_or xs n d) ≡ true) → ((x : X) → n < length xs → x ≡ get_or xs n x → find p xs ≡ Some x) × (length xs ≤ n → find p xs ≡ None)
  find_from [] n within before at = (λ x h. absurd (omega (arith, h)), λ h. refl)
  find_from (y ∷ ys) zero within before at = (λ x h e. find_first y ys (at (omega arith) y) ∙ ap Some (sym e), λ h. absurd (omega (arith, h)))
  find_from (y ∷ ys) (suc n) within before at =
      let rest = find_from ys n (omega (arith, within)) (λ k d h. before (suc k) d (omega (arith, h))) (λ h. at (omega (arith, h))) in
      let here : p y ≡ false = before 0 y (omega arith) in
      (λ x h e. rw here (rest.0 x (omega (arith, h)) e), λ h. rw here (rest.1 (omega (arith, h))))
