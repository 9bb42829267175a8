-- What asking for one touch is answered, for none, and for lists of touches that are answered alike.
use Rattle.std.proofs.Common.{◌≡◌, ℕ, ◌+◌, ◌-◌, ◌<◌, ◌≤◌, true, false, cond, List, [], ◌∷◌, length, take, drop, get_or, arith, Option, Some, None, refl, sym, ap, ◌∙◌}
use Rattle.std.specs.Prelude.{if◌then◌else◌}
use Rattle.std.specs.Option.{is_some}
use Rattle.std.proofs.lemmas.Bool.{lt-ltb, le-ltb}
use Rattle.std.proofs.lemmas.List.{take_all, length-drop}
use Rattle.sg_serial.specs.Locks.{Touch, Hold, first_holder, hold_one, hold_all, is_pair}
use Rattle.sg_model.specs.Touches.{Resource, same_resource, conflict}
use Rattle.sg_locks.specs.declared.table.LockAnswer.{LockAnswer}
use Rattle.sg_locks.specs.declared.table.LockAnswer.TheVariants.{Granted, Busy, LocksFull}
use Rattle.sg_locks.specs.Answers.{lock_answer, locks_after, answer_by, granted_or_full, held_after}
use Rattle.sg_locks.specs.Places.{first_place, blocks, lesser_of, least_of}
use Rattle.sg_locks.proofs.Counting.{length_one}
use Rattle.sg_locks.proofs.Held.{AreAnsweredAlike}
use Rattle.sg_locks.proofs.Least.{first_none, first_more, lesser_none}
use Rattle.sg_locks.proofs.Places.{any_placed}

module _ (t : ℕ) (a : Touch Resource) (hs : List (Hold Resource)) where
  holder_of_one : first_holder conflict t (a ∷ []) hs ≡ least_of (blocks t a) hs
  holder_of_one = first_more t a [] hs ∙ (ap (lesser_of (least_of (blocks t a) hs)) (first_none t hs) ∙ lesser_none (least_of (blocks t a) hs))

  pub one_answer : (r : Option ℕ) → r ≡ least_of (blocks t a) hs → answer_by r (length (hold_one same_resource t a hs)) ≡ lock_answer t (a ∷ []) hs
  one_answer r e = ap (λ h. answer_by h (length (hold_one same_resource t a hs))) (e ∙ sym holder_of_one)

  pub one_after : (answer : LockAnswer) → answer ≡ lock_answer t (a ∷ []) hs → held_after answer t (a ∷ []) hs ≡ locks_after t (a ∷ []) hs
  one_after answer e = ap (λ r. held_after r t (a ∷ []) hs) e

  -- how many pairs there are then
  pub new_pair : (r : Option ℕ) → r ≡ first_place (is_pair same_resource t a.what) hs → is_some r ≡ false → length (hold_one same_resource t a hs) ≡ length hs + 1
  new_pair None e none = length_one t a hs ∙ ap (λ b. cond b (length hs) (length hs + 1)) (sym (any_placed (is_pair same_resource t a.what) hs) ∙ ap is_some (sym e))
  new_pair (Some n) e none = absurd (cc)

  pub old_pair : (r : Option ℕ) → r ≡ first_place (is_pair same_resource t a.what) hs → is_some r ≡ true → length (hold_one same_resource t a hs) ≡ length hs
  old_pair None e some = absurd (cc)
  old_pair (Some n) e some = length_one t a hs ∙ ap (λ b. cond b (length hs) (length hs + 1)) (sym (any_placed (is_pair same_resource t a.what) hs) ∙ ap is_some (sym e))

pub full : (n : ℕ) → 4096 < n → LocksFull ≡ granted_or_full n
full n h = sym (ap (λ b. if b then LocksFull else Granted) (lt-ltb 4096 n h))

pub granted : (n : ℕ) → n ≤ 4096 → Granted ≡ granted_or_full n
granted n h = sym (ap (λ b. if b then LocksFull else Granted) (le-ltb 4096 n h))

module _ (t : ℕ) (hs : List (Hold Resource)) where
  -- no touches are granted, and change nothing
  none_answer : length hs ≤ 4096 → Granted ≡ lock_answer t [] hs
  none_answer few = granted (length hs) few ∙ ap (λ h. answer_by h (length hs)) (sym (first_none t hs))

  none_after : length hs ≤ 4096 → hs ≡ locks_after t [] hs
  none_after few = ap (λ r. held_after r t [] hs) (none_answer few)

  module _ (xs ys : List (Touch Resource)) (alike : AreAnsweredAlike t xs ys hs) where
    pub same_answer : lock_answer t xs hs ≡ lock_answer t ys hs
    same_answer = ap (λ h. answer_by h (length (hold_all same_resource t xs hs))) alike.0 ∙ ap (λ ks. answer_by (first_holder conflict t ys hs) (length ks)) alike.1

    pub same_after : locks_after t xs hs ≡ locks_after t ys hs
    same_after = held (lock_answer t xs hs) ∙ ap (λ r. held_after r t ys hs) same_answer
      where
        held : (r : LockAnswer) → held_after r t xs hs ≡ held_after r t ys hs
        held Granted = alike.1
        held (Busy holder) = refl
        held LocksFull = refl

  -- and so touches that are answered as none
  pub all_held : (xs ys : List (Touch Resource)) → xs ≡ [] → AreAnsweredAlike t xs ys hs → length hs ≤ 4096 → (Granted ≡ lock_answer t ys hs) × (hs ≡ locks_after t ys hs)
  all_held xs ys none alike few = (
    none_answer few ∙ (ap (λ zs. lock_answer t zs hs) (sym none) ∙ same_answer xs ys alike),
    none_after few ∙ (ap (λ zs. locks_after t zs hs) (sym none) ∙ same_after xs ys alike),
  )

-- a slice from a place on
pub slice_on : {B : Type 0} (xs : List B) (i : ℕ) → take (length xs - i) (drop i xs) ≡ drop i xs
slice_on xs i = take_all (length xs - i) (drop i xs) (let e = length-drop i xs in omega (arith, e))

-- and one of one element
pub only_one : {B : Type 0} (xs : List B) (x : B) → 1 ≤ length xs → length xs < 2 → x ≡ get_or xs 0 x → xs ≡ x ∷ []
only_one [] x some few is = absurd (omega arith)
only_one (y ∷ []) x some few is = ap (λ z. z ∷ []) (sym is)
only_one (y ∷ z ∷ xs) x some few is = absurd (omega arith)
