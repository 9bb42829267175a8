-- Each pair of a transaction and a resource is held once, so the table's length is the number of different pairs.
use Rattle.std.proofs.Common.{◌≡◌, ℕ, Bool, true, false, cond, not, List, [], ◌∷◌, refl, sym, ap, ◌∙◌}
use Rattle.std.proofs.Common.{inl, inr}
use Rattle.std.specs.Prelude.{◌||◌, ◌&&◌, ◌==◌}
use Rattle.std.specs.List.{list_any, filter}
use Rattle.std.proofs.lemmas.Bool.{eqb-true, eq-eqb}
use Rattle.sg_serial.specs.Locks.{Touch, Hold, hold_one, hold_all, released, is_pair, AreOnce}
use Rattle.sg_serial.proofs.Commute.{true_or_false, or_false, or_left}
use Rattle.sg_serial.proofs.Kept.{and_true, both_true, not_both}
use Rattle.sg_serial.proofs.Lists.{or_assoc}

module _ {Resource : Type 0} (same : Resource → Resource → Bool) (same_is : (a b : Resource) → same a b ≡ true → a ≡ b) (same_self : (a : Resource) → same a a ≡ true) where
  absorb : (x y : Bool) → (y ≡ true → x ≡ true) → x ≡ (x || y)
  absorb true y f = refl
  absorb false true f = f refl
  absorb false false f = refl

  or_last : (x : Bool) → (x || false) ≡ (false || x)
  or_last true = refl
  or_last false = refl

  pair_step : (p : Bool) (u : ℕ) (r : Resource) (t : ℕ) (a : Touch Resource) (h : Hold Resource) (hs : List (Hold Resource)) → is_pair same t a.what h ≡ p
      → list_any (is_pair same u r) (hold_one same t a hs) ≡ (list_any (is_pair same u r) hs || ((t == u) && same a.what r))
      → list_any (is_pair same u r) (cond p ((record { transaction = h.transaction; touch = record { what = h.touch.what; write = h.touch.write || a.write } }) ∷ hs) (h ∷ hold_one same t a hs)) ≡ (list_any (is_pair same u r) (h ∷ hs) || ((t == u) && same a.what r))
  pair_step true u r t a h hs e i = absorb (is_pair same u r h || list_any (is_pair same u r) hs) ((t == u) && same a.what r) (λ y. or_left (is_pair same u r h) (list_any (is_pair same u r) hs)
      (let q = and_true (h.transaction == t) (same h.touch.what a.what) e in let z = and_true (t == u) (same a.what r) y in
      both_true (h.transaction == u) (same h.touch.what r) (ap (λ (k : ℕ). k == u) (eqb-true h.transaction t q.0) ∙ z.0) (ap (λ (k : Resource). same k r) (same_is h.touch.what a.what q.1) ∙ z.1)))
  pair_step false u r t a h hs e i = ap (λ b. is_pair same u r h || b) i ∙ or_assoc (is_pair same u r h) (list_any (is_pair same u r) hs) ((t == u) && same a.what r)

  any_pair : (u : ℕ) (r : Resource) (t : ℕ) (a : Touch Resource) (hs : List (Hold Resource)) → list_any (is_pair same u r) (hold_one same t a hs) ≡ (list_any (is_pair same u r) hs || ((t == u) && same a.what r))
  any_pair u r t a [] = or_last ((t == u) && same a.what r)
  any_pair u r t a (h ∷ hs) = pair_step (is_pair same t a.what h) u r t a h hs refl (any_pair u r t a hs)

  once_step : (p : Bool) (t : ℕ) (a : Touch Resource) (h : Hold Resource) (hs : List (Hold Resource)) → is_pair same t a.what h ≡ p → AreOnce same (h ∷ hs) → AreOnce same (hold_one same t a hs)
      → AreOnce same (cond p ((record { transaction = h.transaction; touch = record { what = h.touch.what; write = h.touch.write || a.write } }) ∷ hs) (h ∷ hold_one same t a hs))
  once_step true t a h hs e o i = o
  once_step false t a h hs e o i = (
    any_pair h.transaction h.touch.what t a hs ∙ or_false (list_any (is_pair same h.transaction h.touch.what) hs) ((t == h.transaction) && same a.what h.touch.what) o.0
        (elim (true_or_false ((t == h.transaction) && same a.what h.touch.what)) [
          | inl y ↦ (let z = and_true (t == h.transaction) (same a.what h.touch.what) y in
              let q : h.transaction ≡ t = sym (eqb-true t h.transaction z.0) in let s : h.touch.what ≡ a.what = sym (same_is a.what h.touch.what z.1) in
              absurd (not_both (is_pair same t a.what h) (both_true (h.transaction == t) (same h.touch.what a.what) (eq-eqb h.transaction t q) (ap (λ (k : Resource). same h.touch.what k) (sym s) ∙ same_self h.touch.what)) e))
          | inr n ↦ n
        ]),
    i,
  )

  once_one : (t : ℕ) (a : Touch Resource) (hs : List (Hold Resource)) → AreOnce same hs → AreOnce same (hold_one same t a hs)
  once_one t a [] o = (refl, tt)
  once_one t a (h ∷ hs) o = once_step (is_pair same t a.what h) t a h hs refl o (once_one t a hs o.1)

  pub once_all : (t : ℕ) (more : List (Touch Resource)) (hs : List (Hold Resource)) → AreOnce same hs → AreOnce same (hold_all same t more hs)
  once_all t [] hs o = o
  once_all t (a ∷ more) hs o = once_all t more (hold_one same t a hs) (once_one t a hs o)

any_filter : {A : Type 0} (p q : A → Bool) (xs : List A) → list_any p xs ≡ false → list_any p (filter q xs) ≡ false
any_filter p q [] h = refl
any_filter p q (x ∷ xs) h = go (q x) (p x) refl h (λ i. any_filter p q xs i)
  where
    go : (b c : Bool) → p x ≡ c → (c || list_any p xs) ≡ false → (list_any p xs ≡ false → list_any p (filter q xs) ≡ false) → list_any p (cond b (x ∷ filter q xs) (filter q xs)) ≡ false
    go b true e h f = absurd (cc)
    go true false e h f = ap (λ k. k || list_any p (filter q xs)) e ∙ f h
    go false false e h f = f h

pub once_released : {Resource : Type 0} (same : Resource → Resource → Bool) (t : ℕ) (hs : List (Hold Resource)) → AreOnce same hs → AreOnce same (released t hs)
once_released same t [] o = tt
once_released same t (h ∷ hs) o = go (not (h.transaction == t)) (once_released same t hs o.1)
  where
    go : (b : Bool) → AreOnce same (released t hs) → AreOnce same (cond b (h ∷ released t hs) (released t hs))
    go true i = (any_filter (is_pair same h.transaction h.touch.what) (λ k. not (k.transaction == t)) hs o.0, i)
    go false i = i
