-- What transactions hold, once one holds more or lets go.
use Rattle.std.proofs.Common.{◌≡◌, ℕ, Bool, true, false, cond, not, List, [], ◌∷◌, refl, sym, ap, ◌∙◌}
use Rattle.std.specs.Prelude.{◌||◌, ◌&&◌, ◌==◌}
use Rattle.std.proofs.lemmas.Bool.{eqb-true, eq-eqb, ne_eqb}
use Rattle.sg_serial.specs.Machine.{any_touch}
use Rattle.sg_serial.specs.Locks.{Touch, Hold, reads, writes, held_of, released, hold_one, hold_all}
use Rattle.sg_serial.proofs.Lists.{or_assoc, not_chosen}

pub held-released : {Resource : Type 0} (t : ℕ) (hs : List (Hold Resource)) → held_of (released t hs) t ≡ []
held-released t [] = refl
held-released t (h ∷ hs) = go (h.transaction == t) refl (held-released t hs)
  where
    go : (b : Bool) → (h.transaction == t) ≡ b → held_of (released t hs) t ≡ [] → held_of (cond (not b) (h ∷ released t hs) (released t hs)) t ≡ []
    go true e i = i
    go false e i = not_chosen (h.transaction == t) (h.touch ∷ held_of (released t hs) t) (held_of (released t hs) t) e ∙ i

pub held-released_other : {Resource : Type 0} (t : ℕ) (hs : List (Hold Resource)) (u : ℕ) → (u ≡ t → ⊥) → held_of (released t hs) u ≡ held_of hs u
held-released_other t [] u n = refl
held-released_other t (h ∷ hs) u n = go (h.transaction == t) refl (held-released_other t hs u n)
  where
    go : (b : Bool) → (h.transaction == t) ≡ b → held_of (released t hs) u ≡ held_of hs u → held_of (cond (not b) (h ∷ released t hs) (released t hs)) u ≡ held_of (h ∷ hs) u
    go true e i = i ∙ sym (not_chosen (h.transaction == u) (h.touch ∷ held_of hs u) (held_of hs u) (ne_eqb h.transaction u (λ q. n (sym q ∙ eqb-true h.transaction t e))))
    go false e i = ap (λ xs. cond (h.transaction == u) (h.touch ∷ xs) xs) i

-- what happens to a cell
pub Merges : {Resource Cell : Type 0} → (Touch Resource → Cell → Bool) → Type 0
Merges {Resource} {Cell} f = (h a : Touch Resource) (c : Cell) → h.what ≡ a.what → f (record { what = h.what; write = h.write || a.write }) c ≡ (f h c || f a c)

pub reads_merge : {Resource Cell : Type 0} (covers : Resource → Cell → Bool) → Merges (reads covers)
unfolding Merges
reads_merge covers h a c e = sym (ap (λ r. covers h.what c || covers r c) (sym e) ∙ twice (covers h.what c))
  where
    twice : (b : Bool) → (b || b) ≡ b
    twice true = refl
    twice false = refl

pub writes_merge : {Resource Cell : Type 0} (covers : Resource → Cell → Bool) → Merges (writes covers)
unfolding Merges
writes_merge covers h a c e = joined h.write a.write (covers h.what c) ∙ ap (λ r. (h.write && covers h.what c) || (a.write && covers r c)) e
  where
    joined : (w v b : Bool) → ((w || v) && b) ≡ ((w && b) || (v && b))
    joined true true true = refl
    joined true true false = refl
    joined true false true = refl
    joined true false false = refl
    joined false v b = refl

module _ {Resource Cell : Type 0} (same : Resource → Resource → Bool) (same_is : (a b : Resource) → same a b ≡ true → a ≡ b) (f : Touch Resource → Cell → Bool) (merges : Merges f) where
  or_swap : (a b x : Bool) → ((a || b) || x) ≡ ((a || x) || b)
  or_swap true b x = refl
  or_swap false true x = sym (last x)
    where
      last : (x : Bool) → (x || true) ≡ true
      last true = refl
      last false = refl
  or_swap false false x = sym (last x)
    where
      last : (x : Bool) → (x || false) ≡ x
      last true = refl
      last false = refl

  or_last : (a x : Bool) → (a || x) ≡ (x || a)
  or_last true true = refl
  or_last true false = refl
  or_last false true = refl
  or_last false false = refl

  or_step : (a x b : Bool) (y : Bool) → y ≡ (x || b) → (a || y) ≡ ((a || x) || b)
  or_step a x b y e = ap (λ z. a || z) e ∙ or_assoc a x b

  -- the head is the same pair or not, by two tests
  at_head : (p q : Bool) (t : ℕ) (a : Touch Resource) (h : Hold Resource) (hs : List (Hold Resource)) (c : Cell) → (h.transaction == t) ≡ p → same h.touch.what a.what ≡ q
      → any_touch f (held_of (hold_one same t a hs) t) c ≡ (any_touch f (held_of hs t) c || f a c)
      → any_touch f (held_of (cond (p && q) ((record { transaction = h.transaction; touch = record { what = h.touch.what; write = h.touch.write || a.write } }) ∷ hs) (h ∷ hold_one same t a hs)) t) c
      ≡ (any_touch f (cond p (h.touch ∷ held_of hs t) (held_of hs t)) c || f a c)
  unfolding Merges
  at_head true true t a h hs c e g i =
      ap (λ b. any_touch f (cond b ((record { what = h.touch.what; write = h.touch.write || a.write }) ∷ held_of hs t) (held_of hs t)) c) e
      ∙ (ap (λ b. b || any_touch f (held_of hs t) c) (merges h.touch a c (same_is h.touch.what a.what g)) ∙ or_swap (f h.touch c) (f a c) (any_touch f (held_of hs t) c))
  at_head true false t a h hs c e g i =
      ap (λ b. any_touch f (cond b (h.touch ∷ held_of (hold_one same t a hs) t) (held_of (hold_one same t a hs) t)) c) e ∙ or_step (f h.touch c) (any_touch f (held_of hs t) c) (f a c) (any_touch f (held_of (hold_one same t a hs) t) c) i
  at_head false q t a h hs c e g i =
      ap (λ b. any_touch f (cond b (h.touch ∷ held_of (hold_one same t a hs) t) (held_of (hold_one same t a hs) t)) c) e ∙ i

  any_one : (t : ℕ) (a : Touch Resource) (hs : List (Hold Resource)) (c : Cell) → any_touch f (held_of (hold_one same t a hs) t) c ≡ (any_touch f (held_of hs t) c || f a c)
  any_one t a [] c = ap (λ b. any_touch f (cond b (a ∷ []) []) c) (eq-eqb t t refl) ∙ or_last (f a c) false
  any_one t a (h ∷ hs) c = at_head (h.transaction == t) (same h.touch.what a.what) t a h hs c refl refl (any_one t a hs c)

  pub any-hold_all : (t : ℕ) (more : List (Touch Resource)) (hs : List (Hold Resource)) (c : Cell) → any_touch f (held_of (hold_all same t more hs) t) c ≡ (any_touch f (held_of hs t) c || any_touch f more c)
  any-hold_all t [] hs c = or_last false (any_touch f (held_of hs t) c)
  any-hold_all t (a ∷ more) hs c = any-hold_all t more (hold_one same t a hs) c ∙ (ap (λ b. b || any_touch f more c) (any_one t a hs c) ∙ sym (or_assoc (any_touch f (held_of hs t) c) (f a c) (any_touch f more c)))

module _ {Resource : Type 0} (same : Resource → Resource → Bool) where
  other_head : (p q : Bool) (t u : ℕ) (a : Touch Resource) (h : Hold Resource) (hs : List (Hold Resource)) → (u ≡ t → ⊥) → (h.transaction == t) ≡ p → held_of (hold_one same t a hs) u ≡ held_of hs u
      → held_of (cond (p && q) ((record { transaction = h.transaction; touch = record { what = h.touch.what; write = h.touch.write || a.write } }) ∷ hs) (h ∷ hold_one same t a hs)) u ≡ held_of (h ∷ hs) u
  other_head true true t u a h hs n e i =
      let off : (h.transaction == u) ≡ false = ne_eqb h.transaction u (λ q. n (sym q ∙ eqb-true h.transaction t e)) in
      not_chosen (h.transaction == u) ((record { what = h.touch.what; write = h.touch.write || a.write }) ∷ held_of hs u) (held_of hs u) off ∙ sym (not_chosen (h.transaction == u) (h.touch ∷ held_of hs u) (held_of hs u) off)
  other_head true false t u a h hs n e i = ap (λ xs. cond (h.transaction == u) (h.touch ∷ xs) xs) i
  other_head false q t u a h hs n e i = ap (λ xs. cond (h.transaction == u) (h.touch ∷ xs) xs) i

  other_one : (t : ℕ) (a : Touch Resource) (hs : List (Hold Resource)) (u : ℕ) → (u ≡ t → ⊥) → held_of (hold_one same t a hs) u ≡ held_of hs u
  other_one t a [] u n = not_chosen (t == u) (a ∷ []) [] (ne_eqb t u (λ q. n (sym q)))
  other_one t a (h ∷ hs) u n = other_head (h.transaction == t) (same h.touch.what a.what) t u a h hs n refl (other_one t a hs u n)

  pub held-hold_all : (t : ℕ) (more : List (Touch Resource)) (hs : List (Hold Resource)) (u : ℕ) → (u ≡ t → ⊥) → held_of (hold_all same t more hs) u ≡ held_of hs u
  held-hold_all t [] hs u n = refl
  held-hold_all t (a ∷ more) hs u n = held-hold_all t more (hold_one same t a hs) u n ∙ other_one t a hs u n
