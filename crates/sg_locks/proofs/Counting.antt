-- How many pairs are held once more touches are, and what is left once a transaction has released its own.
use Rattle.std.proofs.Common.{◌≡◌, ℕ, suc, ◌+◌, ◌<◌, ◌≤◌, Bool, true, false, cond, not, List, [], ◌∷◌, ◌++◌, map, length, take, drop, get_or, refl, sym, ap, ◌∙◌, subst, arith}
use Rattle.std.specs.Prelude.{◌||◌, ◌&&◌, ◌==◌}
use Rattle.std.specs.List.{list_any, filter}
use Rattle.std.proofs.Math.Seq.{drop-cons, take-suc}
use Rattle.std.proofs.Math.Numerals.{add-one}
use Rattle.std.proofs.lemmas.Bool.{eq-eqb}
use Rattle.sg_serial.specs.Locks.{Touch, Hold, hold_one, hold_all, released, is_pair}
use Rattle.sg_serial.proofs.Commute.{or_left}
use Rattle.sg_serial.proofs.Kept.{and_true, both_true}
use Rattle.sg_model.specs.Touches.{Resource, same_resource}
use Rattle.sg_model.specs.Resources.{shown_resource, shown_touch}
use Rattle.sg_model.specs.declared.touch.Touch as code_touch
use Rattle.sg_model.proofs.Meeting.{resource_same}
use Rattle.sg_locks.specs.declared.table.Hold as code
use Rattle.sg_locks.specs.Shown.{shown_hold}

or_false_right : (b : Bool) → (b || false) ≡ b
or_false_right true = refl
or_false_right false = refl

module _ (t : ℕ) where
  one_length : (p : Bool) (a : Touch Resource) (h new : Hold Resource) (hs : List (Hold Resource)) (rest : List (Hold Resource)) (q : Bool) → length rest ≡ cond q (length hs) (length hs + 1) → length (cond p (new ∷ hs) (h ∷ rest)) ≡ cond (p || q) (length (h ∷ hs)) (length (h ∷ hs) + 1)
  one_length true a h new hs rest q e = refl
  one_length false a h new hs rest true e = ap suc e
  one_length false a h new hs rest false e = ap suc e ∙ omega arith

  pub length_one : (a : Touch Resource) (hs : List (Hold Resource)) → length (hold_one same_resource t a hs) ≡ cond (list_any (is_pair same_resource t a.what) hs) (length hs) (length hs + 1)
  length_one a [] = omega arith
  length_one a (h ∷ hs) = one_length (is_pair same_resource t a.what h) a h (record { transaction = h.transaction; touch = record { what = h.touch.what; write = h.touch.write || a.write } }) hs (hold_one same_resource t a hs) (list_any (is_pair same_resource t a.what) hs) (length_one a hs)

  absorb : (x y : Bool) → (y ≡ true → x ≡ true) → x ≡ (x || y)
  absorb true y f = refl
  absorb false true f = f refl
  absorb false false f = refl

  or_swap : (a b c : Bool) → (a || (b || c)) ≡ ((a || b) || c)
  or_swap true b c = refl
  or_swap false b c = refl

  one_pair : (p : Bool) (a b : Touch Resource) (h : Hold Resource) (hs : List (Hold Resource)) → is_pair same_resource t a.what h ≡ p
      → list_any (is_pair same_resource t b.what) (hold_one same_resource t a hs) ≡ (list_any (is_pair same_resource t b.what) hs || same_resource a.what b.what)
      → list_any (is_pair same_resource t b.what) (cond p ((record { transaction = h.transaction; touch = record { what = h.touch.what; write = h.touch.write || a.write } }) ∷ hs) (h ∷ hold_one same_resource t a hs)) ≡ (list_any (is_pair same_resource t b.what) (h ∷ hs) || same_resource a.what b.what)
  one_pair true a b h hs e i = absorb (is_pair same_resource t b.what h || list_any (is_pair same_resource t b.what) hs) (same_resource a.what b.what) (λ y. or_left (is_pair same_resource t b.what h) (list_any (is_pair same_resource t b.what) hs)
      (let q = and_true (h.transaction == t) (same_resource h.touch.what a.what) e in both_true (h.transaction == t) (same_resource h.touch.what b.what) q.0 (ap (λ r. same_resource r b.what) (resource_same h.touch.what a.what q.1) ∙ y)))
  one_pair false a b h hs e i = ap (λ x. is_pair same_resource t b.what h || x) i ∙ or_swap (is_pair same_resource t b.what h) (list_any (is_pair same_resource t b.what) hs) (same_resource a.what b.what)

  any_one : (a b : Touch Resource) (hs : List (Hold Resource)) → list_any (is_pair same_resource t b.what) (hold_one same_resource t a hs) ≡ (list_any (is_pair same_resource t b.what) hs || same_resource a.what b.what)
  any_one a b [] = or_false_right ((t == t) && same_resource a.what b.what) ∙ ap (λ c. c && same_resource a.what b.what) (eq-eqb t t refl)
  any_one a b (h ∷ hs) = one_pair (is_pair same_resource t a.what h) a b h hs refl (any_one a b hs)

  any_all : (b : Touch Resource) (xs : List (Touch Resource)) (hs : List (Hold Resource)) → list_any (is_pair same_resource t b.what) (hold_all same_resource t xs hs) ≡ (list_any (is_pair same_resource t b.what) hs || list_any (λ o. same_resource o.what b.what) xs)
  any_all b [] hs = sym (or_false_right (list_any (is_pair same_resource t b.what) hs))
  any_all b (a ∷ xs) hs = any_all b xs (hold_one same_resource t a hs) ∙ (ap (λ c. c || list_any (λ o. same_resource o.what b.what) xs) (any_one a b hs) ∙ sym (or_swap (list_any (is_pair same_resource t b.what) hs) (same_resource a.what b.what) (list_any (λ o. same_resource o.what b.what) xs)))

  all_last : (xs : List (Touch Resource)) (a : Touch Resource) (hs : List (Hold Resource)) → hold_all same_resource t (xs ++ a ∷ []) hs ≡ hold_one same_resource t a (hold_all same_resource t xs hs)
  all_last [] a hs = refl
  all_last (x ∷ xs) a hs = all_last xs a (hold_one same_resource t x hs)

  map_last : (xs : List code_touch.Touch) (a : code_touch.Touch) → map shown_touch (xs ++ a ∷ []) ≡ map shown_touch xs ++ shown_touch a ∷ []
  map_last [] a = refl
  map_last (x ∷ xs) a = ap (λ ys. shown_touch x ∷ ys) (map_last xs a)

  taken : (xs : List code_touch.Touch) (i : ℕ) (d : code_touch.Touch) (hs : List (Hold Resource)) → i < length xs
      → hold_all same_resource t (map shown_touch (take (i + 1) xs)) hs ≡ hold_one same_resource t (shown_touch (get_or xs i d)) (hold_all same_resource t (map shown_touch (take i xs)) hs)
  taken xs i d hs h =
      ap (λ n. hold_all same_resource t (map shown_touch (take n xs)) hs) (add-one i)
      ∙ (ap (λ ys. hold_all same_resource t (map shown_touch ys) hs) (take-suc xs i d h)
      ∙ (ap (λ ys. hold_all same_resource t ys hs) (map_last (take i xs) (get_or xs i d)) ∙ all_last (map shown_touch (take i xs)) (shown_touch (get_or xs i d)) hs))

  new_length : (b : Bool) (count n m k : ℕ) → count + n ≡ m → k ≡ cond b m (m + 1) → cond (not b) (count + 1) count + n ≡ k
  new_length true count n m k e f = e ∙ sym f
  new_length false count n m k e f = omega (arith, e, f)

  -- one more touch is counted
  pub count_step : (xs : List code_touch.Touch) (i : ℕ) (d : code_touch.Touch) (hs : List (Hold Resource)) (count n : ℕ) (new : Bool) → i < length xs
      → count + n ≡ length (hold_all same_resource t (map shown_touch (take i xs)) hs)
      → new ≡ not (list_any (is_pair same_resource t (shown_resource (get_or xs i d).what)) hs || list_any (λ o. same_resource o.what (shown_resource (get_or xs i d).what)) (map shown_touch (take i xs)))
      → cond new (count + 1) count + n ≡ length (hold_all same_resource t (map shown_touch (take (i + 1) xs)) hs)
  count_step xs i d hs count n new h c f =
      let x : code_touch.Touch = get_or xs i d in
      let held : List (Hold Resource) = hold_all same_resource t (map shown_touch (take i xs)) hs in
      let b : Bool = list_any (is_pair same_resource t (shown_resource x.what)) hs || list_any (λ o. same_resource o.what (shown_resource x.what)) (map shown_touch (take i xs)) in
      ap (λ z. cond z (count + 1) count + n) f ∙ new_length b count n (length held) (length (hold_all same_resource t (map shown_touch (take (i + 1) xs)) hs)) c
      (ap length (taken xs i d hs h) ∙ (length_one (shown_touch x) held ∙ ap (λ z. cond z (length held) (length held + 1)) (any_all (shown_touch x) (map shown_touch (take i xs)) hs)))

  not_less : (b : Bool) (n : ℕ) → n ≤ cond b n (n + 1)
  not_less true n = omega arith
  not_less false n = omega arith

  -- more touches never make the table shorter
  pub length_all : (xs : List (Touch Resource)) (hs : List (Hold Resource)) → length hs ≤ length (hold_all same_resource t xs hs)
  length_all [] hs = omega arith
  length_all (a ∷ xs) hs =
      let step : length hs ≤ length (hold_one same_resource t a hs) = subst (λ n. length hs ≤ n) (sym (length_one a hs)) (not_less (list_any (is_pair same_resource t a.what) hs) (length hs)) in
      let rest = length_all xs (hold_one same_resource t a hs) in omega arith

  -- what is held on the way to all fits where all does
  pub hold_fits : (xs : List code_touch.Touch) (i : ℕ) (d : code_touch.Touch) (now all : List (Hold Resource)) → i < length xs → hold_all same_resource t (map shown_touch (drop i xs)) now ≡ all → length all ≤ 4096 → length (hold_one same_resource t (shown_touch (get_or xs i d)) now) ≤ 4096
  hold_fits xs i d now all h e few =
      let split : hold_all same_resource t (map shown_touch (drop (suc i) xs)) (hold_one same_resource t (shown_touch (get_or xs i d)) now) ≡ all = sym (ap (λ ys. hold_all same_resource t (map shown_touch ys) now) (drop-cons xs i d h)) ∙ e in
      let grows = length_all (map shown_touch (drop (suc i) xs)) (hold_one same_resource t (shown_touch (get_or xs i d)) now) in
      omega (arith, grows, ap length split)

  -- what is released
  pub map_released : (xs : List code.Hold) → map shown_hold (filter (λ h. not (h.transaction.0 == t)) xs) ≡ released t (map shown_hold xs)
  map_released [] = refl
  map_released (y ∷ xs) = go (not (y.transaction.0 == t)) (map_released xs)
    where
      go : (b : Bool) → map shown_hold (filter (λ h. not (h.transaction.0 == t)) xs) ≡ released t (map shown_hold xs) → map shown_hold (cond b (y ∷ filter (λ h. not (h.transaction.0 == t)) xs) (filter (λ h. not (h.transaction.0 == t)) xs)) ≡ cond b (shown_hold y ∷ released t (map shown_hold xs)) (released t (map shown_hold xs))
      go true e = ap (λ ks. shown_hold y ∷ ks) e
      go false e = e
