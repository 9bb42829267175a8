-- The oldest change over the frames and windows is that over the pages and bands.
use Rattle.std.proofs.Common.{◌≡◌, ◌⊎◌, inl, inr, ⊎_elim, ◌<◌, ◌≤◌, ℕ, if◌then◌else◌, Option, Some, None, List, length, sym, ◌∙◌, ap, subst, arith}
use Rattle.std.specs.Prelude.{IfNone, IfSome, OnOk, Result, Ok, Err, nat_lt}
use Rattle.std.proofs.lemmas.Bool.{cases_lt}
use Rattle.std.proofs.lemmas.Bool.Decides.{nat_tests}
use Rattle.sg_pool.specs.declared.pool.Pool.{Pool}
use Rattle.sg_pool.specs.declared.slot.Slot.{Slot}
use Rattle.sg_pool.specs.Held.{frame_of, page_in, since_of, AreApart}
use Rattle.sg_pool.specs.Oldest.{earlier}
use Rattle.sg_pool.specs.Pooled.{IsUnwritten}
use Rattle.sg_pool.proofs.Slots.{none_is_some, none_or_some, frame_some, frame_is}

-- what a walk over frames or windows finds
pub record IsLeast (slots : List Slot) (r : Option ℕ) : Type 0 where
  pub none : IfNone r ((f : ℕ) → f < length slots → since_of slots (Some f) ≡ None)
  pub least : IfSome r (λ o. (f x : ℕ) → f < length slots → since_of slots (Some f) ≡ Some x → o ≤ x)
  pub some : IfSome r (λ o. (f : ℕ) × (f < length slots) × (since_of slots (Some f) ≡ Some o))

-- a change is one of the frame
in_frame : (slots : List Slot) (n lsn : ℕ) → since_of slots (frame_of slots n) ≡ Some lsn → (f : ℕ) × (f < length slots) × (since_of slots (Some f) ≡ Some lsn)
in_frame slots n lsn has = ⊎_elim
    (λ none. absurd (none_is_some lsn (sym (ap (since_of slots) none) ∙ has)))
    (λ held. (held.0, (frame_some n slots held.0 held.1).0, sym (ap (since_of slots) held.1) ∙ has))
    (none_or_some (frame_of slots n))

-- and one of the frame is one of what it holds
of_frame : (slots : List Slot) (bound o : ℕ) → AreApart slots → ((f n : ℕ) → f < length slots → page_in slots f ≡ Some n → n < bound) → ((f : ℕ) → page_in slots f ≡ None → since_of slots (Some f) ≡ None)
    → (f : ℕ) × (f < length slots) × (since_of slots (Some f) ≡ Some o) → (n : ℕ) × (n < bound) × (since_of slots (frame_of slots n) ≡ Some o)
of_frame slots bound o apart within owned it = ⊎_elim
    (λ empty. absurd (none_is_some o (sym (owned it.0 empty) ∙ it.2)))
    (λ held. (held.0, within it.0 held.0 it.1 held.1, ap (since_of slots) (frame_is slots it.0 held.0 apart it.1 held.1) ∙ it.2))
    (none_or_some (page_in slots it.0))

lesser : (x y : ℕ) → (((if nat_lt y x then y else x) ≡ y) × (y ≤ x)) ⊎ (((if nat_lt y x then y else x) ≡ x) × (x ≤ y))
lesser x y = ⊎_elim (λ lt. inl (grind (arith, nat_tests), omega arith)) (λ le. inr (grind (arith, nat_tests), le)) (cases_lt y x)

no_change : (slots : List Slot) → ((f : ℕ) → f < length slots → since_of slots (Some f) ≡ None) → (n lsn : ℕ) → since_of slots (frame_of slots n) ≡ Some lsn → ⊥
no_change slots none n lsn has = let it = in_frame slots n lsn has in none_is_some lsn (sym (none it.0 it.1) ∙ it.2)

least_change : (slots : List Slot) (o : ℕ) → ((f x : ℕ) → f < length slots → since_of slots (Some f) ≡ Some x → o ≤ x) → (n lsn : ℕ) → since_of slots (frame_of slots n) ≡ Some lsn → o ≤ lsn
least_change slots o least n lsn has = let it = in_frame slots n lsn has in least it.0 lsn it.1 it.2

-- where no frame and no window has a change, nothing is unwritten
pub no_unwritten : (slots wins : List Slot) (pages bands : ℕ) → ((f : ℕ) → f < length slots → since_of slots (Some f) ≡ None) → ((w : ℕ) → w < length wins → since_of wins (Some w) ≡ None) → (lsn : ℕ)
    → ((n : ℕ) × (n < pages) × (since_of slots (frame_of slots n) ≡ Some lsn)) ⊎ ((b : ℕ) × (b < bands) × (since_of wins (frame_of wins b) ≡ Some lsn)) → ⊥
no_unwritten slots wins pages bands clean clear lsn has = ⊎_elim (λ p. no_change slots clean p.0 lsn p.2) (λ b. no_change wins clear b.0 lsn b.2) has

pub on_ok_two : {T E : Type 0} (r : Result T E) (P Q R : Type 0) → (P → Q → R) → OnOk r P → OnOk r Q → OnOk r R
on_ok_two (Ok x) P Q R f p q = f p q
on_ok_two (Err e) P Q R f p q = p

module _ (pool : Pool) where
  abbrev Pages : Option ℕ → Type 0
  Pages a = IsLeast pool.shelf.slots.items a

  abbrev Bands : Option ℕ → Type 0
  Bands b = IsLeast pool.shelf.wins.slots.items b

  of_page : (o : ℕ) → (f : ℕ) × (f < length pool.shelf.slots.items) × (since_of pool.shelf.slots.items (Some f) ≡ Some o) → IsUnwritten pool o
  of_page o it = inl (of_frame pool.shelf.slots.items pool.shelf.pages o pool.shelf.shelf.apart pool.shelf.shelf.within pool.shelf.shelf.owned it)

  of_band : (o : ℕ) → (f : ℕ) × (f < length pool.shelf.wins.slots.items) × (since_of pool.shelf.wins.slots.items (Some f) ≡ Some o) → IsUnwritten pool o
  of_band o it = inr (of_frame pool.shelf.wins.slots.items pool.shelf.bands o pool.shelf.wins.windows.apart
      (λ w b lt held. subst (λ (m : ℕ). b < m) pool.shelf.shelf.listed_bands (pool.shelf.wins.windows.within w b lt held)) pool.shelf.wins.windows.owned it)

  pub none_of_two : (a b : Option ℕ) → Pages a → Bands b → IfNone (earlier a b) ((lsn : ℕ) → IsUnwritten pool lsn → ⊥)
  none_of_two None None pages bands = no_unwritten pool.shelf.slots.items pool.shelf.wins.slots.items pool.shelf.pages pool.shelf.bands pages.none bands.none
  none_of_two None (Some y) pages bands = tt
  none_of_two (Some x) None pages bands = tt
  none_of_two (Some x) (Some y) pages bands = tt

  pub least_of_two : (a b : Option ℕ) → Pages a → Bands b → IfSome (earlier a b) (λ o. (lsn : ℕ) → IsUnwritten pool lsn → o ≤ lsn)
  least_of_two None None pages bands = tt
  least_of_two None (Some y) pages bands = λ lsn has. ⊎_elim (λ p. absurd (no_change pool.shelf.slots.items pages.none p.0 lsn p.2)) (λ b. least_change pool.shelf.wins.slots.items y bands.least b.0 lsn b.2) has
  least_of_two (Some x) None pages bands = λ lsn has. ⊎_elim (λ p. least_change pool.shelf.slots.items x pages.least p.0 lsn p.2) (λ b. absurd (no_change pool.shelf.wins.slots.items bands.none b.0 lsn b.2)) has
  least_of_two (Some x) (Some y) pages bands = λ lsn has.
      let m = lesser x y in
      let low : ((if nat_lt y x then y else x) ≤ x) × ((if nat_lt y x then y else x) ≤ y) = ⊎_elim (λ l. let e = l.0 in let le = l.1 in (omega (arith, e, le), omega (arith, e))) (λ l. let e = l.0 in let le = l.1 in (omega (arith, e), omega (arith, e, le))) m in
      let below_x = low.0 in let below_y = low.1 in
      ⊎_elim
      (λ p. let a = least_change pool.shelf.slots.items x pages.least p.0 lsn p.2 in omega (arith, a, below_x))
      (λ b. let a = least_change pool.shelf.wins.slots.items y bands.least b.0 lsn b.2 in omega (arith, a, below_y))
      has

  pub some_of_two : (a b : Option ℕ) → Pages a → Bands b → IfSome (earlier a b) (λ o. IsUnwritten pool o)
  some_of_two None None pages bands = tt
  some_of_two None (Some y) pages bands = of_band y bands.some
  some_of_two (Some x) None pages bands = of_page x pages.some
  some_of_two (Some x) (Some y) pages bands = ⊎_elim
      (λ l. subst (λ (o : ℕ). IsUnwritten pool o) (sym l.0) (of_band y bands.some))
      (λ l. subst (λ (o : ℕ). IsUnwritten pool o) (sym l.0) (of_page x pages.some))
      (lesser x y)
