-- Who holds something is live.
use Rattle.std.proofs.Common.{◌≡◌, ℕ, ◌<◌, ◌≤◌, Bool, true, false, not, cond, List, [], ◌∷◌, ◌++◌, Option, Some, None, refl, sym, ap, ◌∙◌, subst, arith}
use Rattle.std.specs.Prelude.{◌==◌, ◌||◌, ◌&&◌, nat_lt, min, All, slice_index_or}
use Rattle.std.proofs.lemmas.Bool.{eq-eqb, eqb-true}
use Rattle.std.proofs.lemmas.Bool.Decides.{nat_tests}
use Rattle.std.specs.List.{list_any, list_all}
use Rattle.std.proofs.lemmas.List.Elements.{All-map}
use Rattle.sg_serial.specs.Locks.{Touch, Hold, hold_one, hold_all, released, first_holder, lesser}
use Rattle.sg_model.specs.Touches.{Resource, same_resource, conflict}
use Rattle.sg_locks.specs.declared.table.LockAnswer.{LockAnswer}
use Rattle.sg_locks.specs.declared.table.LockAnswer.TheVariants.{Granted, Busy, LocksFull}
use Rattle.sg_locks.specs.Answers.{lock_answer, held_after, locks_after}
use Rattle.sg_core.specs.Live.{Txn, begun, is_of, is_live, one_more, reserving, without, remarking, with_marks}
use Rattle.sg_model.specs.Verb.{Op}
use Rattle.sg_store.specs.Drops.{marked_by}
use Rattle.sg_store.proofs.Marking.{live_marked}

-- each that holds something passes
abbrev pub all_hold : (ℕ → Bool) → List (Hold Resource) → Bool
all_hold p hs = list_all (λ h. p h.transaction) hs

or_true : (a b : Bool) → a ≡ true → (a || b) ≡ true
or_true true b h = refl
or_true false b h = absurd (cc)

more : (p q : ℕ → Bool) (hs : List (Hold Resource)) → ((u : ℕ) → p u ≡ true → q u ≡ true) → all_hold p hs ≡ true → all_hold q hs ≡ true
more p q [] f h = refl
more p q (x ∷ hs) f h = go (p x.transaction) refl h (more p q hs f)
  where
    go : (b : Bool) → p x.transaction ≡ b → (b && all_hold p hs) ≡ true → (all_hold p hs ≡ true → all_hold q hs ≡ true) → (q x.transaction && all_hold q hs) ≡ true
    go true e k r = ap (λ z. z && all_hold q hs) (f x.transaction e) ∙ r k
    go false e k r = absurd (cc)

-- one more is live
live_more : (ks ls : List Txn) (u : ℕ) → is_live ks u ≡ true → is_live (ks ++ ls) u ≡ true
live_more [] ls u h = absurd (cc)
live_more (k ∷ ks) ls u h = go (is_of u k) h (live_more ks ls u)
  where
    go : (b : Bool) → (b || is_live ks u) ≡ true → (is_live ks u ≡ true → is_live (ks ++ ls) u ≡ true) → (b || is_live (ks ++ ls) u) ≡ true
    go true e r = refl
    go false e r = r e

pub begun_holders : (ks : List Txn) (n : ℕ) (hs : List (Hold Resource)) → all_hold (is_live ks) hs ≡ true → all_hold (is_live (ks ++ begun n ∷ [])) hs ≡ true
begun_holders ks n hs h = more (is_live ks) (is_live (ks ++ begun n ∷ [])) hs (live_more ks (begun n ∷ [])) h

-- one has reserved more
live_reserving : (v : ℕ) (ks : List Txn) (u : ℕ) → is_live ks u ≡ true → is_live (reserving v ks) u ≡ true
live_reserving v [] u h = absurd (cc)
live_reserving v (k ∷ ks) u h = go (is_of v k) h (live_reserving v ks u)
  where
    go : (b : Bool) → (is_of u k || is_live ks u) ≡ true → (is_live ks u ≡ true → is_live (reserving v ks) u ≡ true) → (is_of u (cond b (one_more k) k) || is_live (reserving v ks) u) ≡ true
    go true e r = either (is_of u k) e r
      where
        either : (c : Bool) → (c || is_live ks u) ≡ true → (is_live ks u ≡ true → is_live (reserving v ks) u ≡ true) → (c || is_live (reserving v ks) u) ≡ true
        either true f s = refl
        either false f s = s f
    go false e r = either (is_of u k) e r
      where
        either : (c : Bool) → (c || is_live ks u) ≡ true → (is_live ks u ≡ true → is_live (reserving v ks) u ≡ true) → (c || is_live (reserving v ks) u) ≡ true
        either true f s = refl
        either false f s = s f

pub reserving_holders : (v : ℕ) (ks : List Txn) (hs : List (Hold Resource)) → all_hold (is_live ks) hs ≡ true → all_hold (is_live (reserving v ks)) hs ≡ true
reserving_holders v ks hs h = more (is_live ks) (is_live (reserving v ks)) hs (live_reserving v ks) h

-- one has other marks
live_remarking : (v : ℕ) (f : List ℕ → List ℕ) (ks : List Txn) (u : ℕ) → is_live ks u ≡ true → is_live (remarking v f ks) u ≡ true
live_remarking v f [] u h = absurd (cc)
live_remarking v f (k ∷ ks) u h = go (is_of v k) h (live_remarking v f ks u)
  where
    either : (a : Bool) → (a || is_live ks u) ≡ true → (is_live ks u ≡ true → is_live (remarking v f ks) u ≡ true) → (a || is_live (remarking v f ks) u) ≡ true
    either true e r = refl
    either false e r = r e

    go : (b : Bool) → (is_of u k || is_live ks u) ≡ true → (is_live ks u ≡ true → is_live (remarking v f ks) u ≡ true) → (is_of u (cond b (with_marks f k) k) || is_live (remarking v f ks) u) ≡ true
    go true e r = either (is_of u k) e r
    go false e r = either (is_of u k) e r

pub remarking_holders : (v : ℕ) (f : List ℕ → List ℕ) (ks : List Txn) (hs : List (Hold Resource)) → all_hold (is_live ks) hs ≡ true → all_hold (is_live (remarking v f ks)) hs ≡ true
remarking_holders v f ks hs h = more (is_live ks) (is_live (remarking v f ks)) hs (live_remarking v f ks) h

-- and its number is below what it was
pub below_remarking : (v low high : ℕ) (f : List ℕ → List ℕ) (ks : List Txn) → low ≤ high → All (λ k. k.transaction < low) ks → All (λ k. k.transaction < high) (remarking v f ks)
below_remarking v low high f ks le h = All-map (λ (k : Txn). k.transaction < high) (λ (k : Txn). cond (is_of v k) (with_marks f k) k) ks (λ i d lt. one (is_of v (slice_index_or ks i d)) (slice_index_or ks i d) (h i d lt))
  where
    one : (b : Bool) (k : Txn) → k.transaction < low → (cond b (with_marks f k) k).transaction < high
    one true k z = omega (arith, z, le)
    one false k z = omega (arith, z, le)

-- one is marked
pub marked_holders : (op : Op) (v : ℕ) (ks : List Txn) (hs : List (Hold Resource)) → all_hold (is_live ks) hs ≡ true → all_hold (is_live (marked_by op v ks)) hs ≡ true
marked_holders op v ks hs h = more (is_live ks) (is_live (marked_by op v ks)) hs (λ u e. live_marked op v u ks ∙ e) h

-- one is no more, and holds nothing
live_without : (v : ℕ) (ks : List Txn) (u : ℕ) → (u == v) ≡ false → is_live ks u ≡ true → is_live (without v ks) u ≡ true
live_without v [] u ne h = absurd (cc)
live_without v (k ∷ ks) u ne h = go (k.transaction == u) (k.transaction == v) refl refl h (live_without v ks u ne)
  where
    go : (a b : Bool) → (k.transaction == u) ≡ a → (k.transaction == v) ≡ b → (a || is_live ks u) ≡ true → (is_live ks u ≡ true → is_live (without v ks) u ≡ true) → is_live (cond (not b) (k ∷ without v ks) (without v ks)) u ≡ true
    go true true e f i r = absurd (clash (ap (λ z. z == v) (sym (eqb-true k.transaction u e)) ∙ f) ne)
      where
        clash : (u == v) ≡ true → (u == v) ≡ false → ⊥
        clash x y = absurd (cc)
    go true false e f i r = ap (λ z. z || is_live (without v ks) u) e
    go false true e f i r = r i
    go false false e f i r = ap (λ z. z || is_live (without v ks) u) e ∙ r i

pub released_holders : (v : ℕ) (ks : List Txn) (hs : List (Hold Resource)) → all_hold (is_live ks) hs ≡ true → all_hold (is_live (without v ks)) (released v hs) ≡ true
released_holders v ks [] h = refl
released_holders v ks (x ∷ hs) h = go (is_live ks x.transaction) (x.transaction == v) refl refl h (released_holders v ks hs)
  where
    go : (a b : Bool) → is_live ks x.transaction ≡ a → (x.transaction == v) ≡ b → (a && all_hold (is_live ks) hs) ≡ true → (all_hold (is_live ks) hs ≡ true → all_hold (is_live (without v ks)) (released v hs) ≡ true)
        → all_hold (is_live (without v ks)) (cond (not b) (x ∷ released v hs) (released v hs)) ≡ true
    go true true e f i r = r i
    go true false e f i r = ap (λ z. z && all_hold (is_live (without v ks)) (released v hs)) (live_without v ks x.transaction f e) ∙ r i
    go false b e f i r = absurd (cc)

-- one that passes holds more
one_holder : (p : ℕ → Bool) (u : ℕ) (a : Touch Resource) (hs : List (Hold Resource)) → p u ≡ true → all_hold p hs ≡ true → all_hold p (hold_one same_resource u a hs) ≡ true
one_holder p u a [] is h = ap (λ z. z && true) is
one_holder p u a (x ∷ hs) is h = go ((x.transaction == u) && same_resource x.touch.what a.what) (p x.transaction) refl h (one_holder p u a hs is)
  where
    go : (b c : Bool) → p x.transaction ≡ c → (c && all_hold p hs) ≡ true → (all_hold p hs ≡ true → all_hold p (hold_one same_resource u a hs) ≡ true)
        → all_hold p (cond b ((record { transaction = x.transaction; touch = record { what = x.touch.what; write = x.touch.write || a.write } }) ∷ hs) (x ∷ hold_one same_resource u a hs)) ≡ true
    go true true e k r = ap (λ z. z && all_hold p hs) e ∙ k
    go false true e k r = ap (λ z. z && all_hold p (hold_one same_resource u a hs)) e ∙ r k
    go b false e k r = absurd (cc)

pub granted_holders : (p : ℕ → Bool) (u : ℕ) (ts : List (Touch Resource)) (hs : List (Hold Resource)) → p u ≡ true → all_hold p hs ≡ true → all_hold p (hold_all same_resource u ts hs) ≡ true
granted_holders p u [] hs is h = h
granted_holders p u (a ∷ ts) hs is h = granted_holders p u ts (hold_one same_resource u a hs) is (one_holder p u a hs is h)

-- who is in the way holds something, and is another
lesser_one : (n : ℕ) (o : Option ℕ) (h : ℕ) (P : ℕ → Type 0) → lesser n o ≡ Some h → P n → ((m : ℕ) → o ≡ Some m → P m) → P h
lesser_one n None h P e one others = subst P (ap (λ (x : Option ℕ). get x) e) one
  where
    get : Option ℕ → ℕ
    get None = n
    get (Some m) = m
lesser_one n (Some m) h P e one others = least (cc)
  where
    least : min n m ≡ h → P h
    least f = by_order n m h f one (others m refl)
      where
        by_order : (a b c : ℕ) → min a b ≡ c → P a → P b → P c
        by_order a b c g x y = pick (nat_lt a b) refl
          where
            pick : (t : Bool) → nat_lt a b ≡ t → P c
            pick true e = subst P (let le : a < b = grind (arith, nat_tests) in let r : a ≡ c = omega (arith, le, g) in r) x
            pick false e = subst P (let le : b ≤ a = grind (arith, nat_tests) in let r : b ≡ c = omega (arith, le, g) in r) y

pub holder_is : (p : ℕ → Bool) (u : ℕ) (ts : List (Touch Resource)) (hs : List (Hold Resource)) (h : ℕ) → all_hold p hs ≡ true → first_holder conflict u ts hs ≡ Some h → (p h ≡ true) × (h ≡ u → ⊥)
holder_is p u ts [] h all e = absurd (cc)
holder_is p u ts (x ∷ hs) h all e = go (x.transaction == u) (list_any (λ a. conflict x.touch a) ts) (p x.transaction) refl refl all e (holder_is p u ts hs)
  where
    go : (a b c : Bool) → (x.transaction == u) ≡ a → p x.transaction ≡ c → (c && all_hold p hs) ≡ true → cond (not a && b) (lesser x.transaction (first_holder conflict u ts hs)) (first_holder conflict u ts hs) ≡ Some h
        → ((m : ℕ) → all_hold p hs ≡ true → first_holder conflict u ts hs ≡ Some m → (p m ≡ true) × (m ≡ u → ⊥)) → (p h ≡ true) × (h ≡ u → ⊥)
    go a b false f g i k r = absurd (cc)
    go true b true f g i k r = r h i k
    go false false true f g i k r = r h i k
    go false true true f g i k r = lesser_one x.transaction (first_holder conflict u ts hs) h (λ m. (p m ≡ true) × (m ≡ u → ⊥)) k (g, λ same. clash (subst (λ z. (z == u) ≡ false) same f)) (λ m s. r m i s)
      where
        clash : (u == u) ≡ false → ⊥
        clash z = let y : (u == u) ≡ true = eq-eqb u u refl in absurd (cc)

-- whatever asking for locks came to
pub after_holders : (p : ℕ → Bool) (u : ℕ) (ts : List (Touch Resource)) (hs : List (Hold Resource)) → p u ≡ true → all_hold p hs ≡ true → all_hold p (locks_after u ts hs) ≡ true
after_holders p u ts hs is h = go (lock_answer u ts hs)
  where
    go : (a : LockAnswer) → all_hold p (held_after a u ts hs) ≡ true
    go Granted = granted_holders p u ts hs is h
    go (Busy holder) = h
    go LocksFull = h
