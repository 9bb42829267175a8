-- What a transaction holds already changes nothing when it asks for it again, and holds stay compatible.
use Rattle.std.proofs.Common.{◌≡◌, ℕ, zero, suc, Bool, true, false, cond, not, List, [], ◌∷◌, map, drop, length, get_or, Option, Some, None, refl, sym, ap, ◌∙◌, subst, inl, inr, add-one, ◌+◌, arith}
use Rattle.std.specs.Prelude.{◌||◌, ◌&&◌, ◌==◌, ◌⊎◌, ◌<◌}
use Rattle.std.specs.List.{list_any, filter}
use Rattle.std.specs.Option.{option_map, is_some}
use Rattle.std.proofs.Math.Seq.{drop-cons}
use Rattle.std.proofs.lemmas.Bool.{eqb-true, eq-eqb, ne_eqb, cases_eq}
use Rattle.sg_serial.specs.Locks.{Touch, Hold, first_holder, is_in_way, lesser, hold_one, hold_all, released, is_pair, AreOnce}
use Rattle.sg_serial.proofs.Commute.{true_or_false, or_false, or_left, or_right}
use Rattle.sg_serial.proofs.Kept.{and_true, both_true, not_both}
use Rattle.sg_serial.proofs.Lists.{or_assoc}
use Rattle.sg_model.specs.Touches.{Resource, same_resource, meet, conflict}
use Rattle.sg_model.proofs.Meeting.{resource_same, met_resources, common_cell}
use Rattle.sg_locks.specs.Places.{first_place, joined, blocks, lesser_of, least_of}
use Rattle.sg_locks.specs.Held.{IsClear, is_held, AreCompatible}
use Rattle.sg_locks.proofs.Least.{first_more}
use Rattle.sg_locks.proofs.Places.{any_placed}

-- the same are in the way of these touches as of those, and the same is held after them
abbrev pub AreAnsweredAlike : ℕ → List (Touch Resource) → List (Touch Resource) → List (Hold Resource) → Type 0
AreAnsweredAlike t xs ys hs = (first_holder conflict t xs hs ≡ first_holder conflict t ys hs) × (hold_all same_resource t xs hs ≡ hold_all same_resource t ys hs)

no_more : (b : Bool) → (b || false) ≡ b
no_more true = refl
no_more false = refl

-- where one test passes only what another does
any_below : {A : Type 0} (p q : A → Bool) (xs : List A) → ((x : A) → q x ≡ true → p x ≡ true) → list_any p xs ≡ false → list_any q xs ≡ false
any_below p q [] h none = refl
any_below p q (x ∷ xs) h none = go (p x) (q x) (h x) (any_below p q xs h) none
  where
    go : (b c : Bool) → (c ≡ true → b ≡ true) → (list_any p xs ≡ false → list_any q xs ≡ false) → (b || list_any p xs) ≡ false → (c || list_any q xs) ≡ false
    go true c f rest n = absurd (not_both true refl n)
    go false true f rest n = absurd (not_both false (f refl) refl)
    go false false f rest n = rest n

-- a test of the holds once a transaction holds a touch more, where the hold that it joins passes as before or as the touch does
module _ (p : Hold Resource → Bool) (t : ℕ) (a : Touch Resource) (c : Bool) (new : p (record { transaction = t; touch = a }) ≡ c)
    (more : (h : Hold Resource) → h.transaction ≡ t → h.touch.what ≡ a.what → p (joined h a) ≡ (p h || c)) where
  pub any_held : (hs : List (Hold Resource)) → list_any p (hold_one same_resource t a hs) ≡ (list_any p hs || c)
  any_held [] = no_more (p (record { transaction = t; touch = a })) ∙ new
  any_held (h ∷ hs) = go (is_pair same_resource t a.what h) refl (any_held hs)
    where
      swap : (x y z : Bool) → ((x || y) || z) ≡ ((x || z) || y)
      swap true y z = refl
      swap false true true = refl
      swap false true false = refl
      swap false false true = refl
      swap false false false = refl

      go : (b : Bool) → is_pair same_resource t a.what h ≡ b → list_any p (hold_one same_resource t a hs) ≡ (list_any p hs || c) → list_any p (cond b (joined h a ∷ hs) (h ∷ hold_one same_resource t a hs)) ≡ ((p h || list_any p hs) || c)
      go true e rest =
          let q = and_true (h.transaction == t) (same_resource h.touch.what a.what) e in
          ap (λ x. x || list_any p hs) (more h (eqb-true h.transaction t q.0) (resource_same h.touch.what a.what q.1)) ∙ swap (p h) c (list_any p hs)
      go false e rest = ap (λ x. p h || x) rest ∙ or_assoc (p h) (list_any p hs) c

-- one touch of a list, and those after it
pub next_touch : {B : Type 0} (f : B → Touch Resource) (xs : List B) (i : ℕ) (x : B) → i < length xs → x ≡ get_or xs i x → map f (drop i xs) ≡ f x ∷ map f (drop (i + 1) xs)
next_touch f xs i x h at = ap (map f) (drop-cons xs i x h) ∙ (ap (λ y. f y ∷ map f (drop (suc i) xs)) (sym at) ∙ ap (λ n. f x ∷ map f (drop n xs)) (sym (add-one i)))

-- nobody is in the way of its own
pub own_passes : (t : ℕ) (b : Touch Resource) (h : Hold Resource) → h.transaction ≡ t → blocks t b h ≡ false
own_passes t b h e = ap (λ x. not x && conflict h.touch b) (eq-eqb h.transaction t e)

module _ (t : ℕ) (a : Touch Resource) where
  clear_kept : (b : Touch Resource) (hs : List (Hold Resource)) → IsClear t b hs → IsClear t b (hold_one same_resource t a hs)
  clear_kept b hs clear =
      any_held (blocks t b) t a false (own_passes t b (record { transaction = t; touch = a }) refl)
      (λ h e is. own_passes t b (joined h a) e ∙ ap (λ x. x || false) (sym (own_passes t b h e))) hs ∙ or_false (list_any (blocks t b) hs) false clear refl

  -- what others hold stays
  held_other : (u : ℕ) (b : Touch Resource) (hs : List (Hold Resource)) → (t ≡ u → ⊥) → is_held u b (hold_one same_resource t a hs) ≡ is_held u b hs
  held_other u b [] other = ap (λ x. cond (x && same_resource a.what b.what) (a.write || not b.write) false) (ne_eqb t u other)
  held_other u b (h ∷ hs) other = go (is_pair same_resource t a.what h) refl (held_other u b hs other)
    where
      go : (x : Bool) → is_pair same_resource t a.what h ≡ x → is_held u b (hold_one same_resource t a hs) ≡ is_held u b hs → is_held u b (cond x (joined h a ∷ hs) (h ∷ hold_one same_resource t a hs)) ≡ is_held u b (h ∷ hs)
      go true e rest =
          let own = eqb-true h.transaction t (and_true (h.transaction == t) (same_resource h.touch.what a.what) e).0 in
          let off = ne_eqb h.transaction u (λ q. other (sym own ∙ q)) in
          ap (λ x. cond (x && same_resource h.touch.what b.what) ((h.touch.write || a.write) || not b.write) (is_held u b hs)) off
          ∙ sym (ap (λ x. cond (x && same_resource h.touch.what b.what) (h.touch.write || not b.write) (is_held u b hs)) off)
      go false e rest = ap (λ r. cond (is_pair same_resource u b.what h) (h.touch.write || not b.write) r) rest

  -- what it holds then it held before, or it is the touch's
  abbrev IsIts : Touch Resource → Type 0
  IsIts b = (a.what ≡ b.what) × ((a.write || not b.write) ≡ true)

  held_own : (b : Touch Resource) (hs : List (Hold Resource)) → is_held t b (hold_one same_resource t a hs) ≡ true → (is_held t b hs ≡ true) ⊎ IsIts b
  held_own b [] e = go ((t == t) && same_resource a.what b.what) refl e
    where
      go : (x : Bool) → ((t == t) && same_resource a.what b.what) ≡ x → cond x (a.write || not b.write) false ≡ true → (false ≡ true) ⊎ IsIts b
      go true is e = inr (resource_same a.what b.what (and_true (t == t) (same_resource a.what b.what) is).1, e)
      go false is e = inl e
  held_own b (h ∷ hs) e = go (is_pair same_resource t a.what h) refl (is_pair same_resource t b.what h) refl (held_own b hs) e
    where
      joins : (w v n : Bool) → a.what ≡ b.what → v ≡ a.write → n ≡ not b.write → ((w || v) || n) ≡ true → ((w || n) ≡ true) ⊎ IsIts b
      joins true v n is f g e = inl refl
      joins false true n is f g e = inr (is, or_left a.write (not b.write) (sym f))
      joins false false true is f g e = inl refl
      joins false false false is f g e = inl e

      go : (x : Bool) → is_pair same_resource t a.what h ≡ x → (y : Bool) → is_pair same_resource t b.what h ≡ y → (is_held t b (hold_one same_resource t a hs) ≡ true → (is_held t b hs ≡ true) ⊎ IsIts b)
          → is_held t b (cond x (joined h a ∷ hs) (h ∷ hold_one same_resource t a hs)) ≡ true
          → (cond y (h.touch.write || not b.write) (is_held t b hs) ≡ true) ⊎ IsIts b
      go true p true q rest e =
          let s = and_true (h.transaction == t) (same_resource h.touch.what a.what) p in let r = and_true (h.transaction == t) (same_resource h.touch.what b.what) q in
          joins h.touch.write a.write (not b.write) (sym (resource_same h.touch.what a.what s.1) ∙ resource_same h.touch.what b.what r.1) refl refl
          (ap (λ z. cond z ((h.touch.write || a.write) || not b.write) (is_held t b hs)) (sym q) ∙ e)
      go true p false q rest e = inl (ap (λ z. cond z ((h.touch.write || a.write) || not b.write) (is_held t b hs)) (sym q) ∙ e)
      go false p true q rest e = inl (ap (λ z. cond z (h.touch.write || not b.write) (is_held t b (hold_one same_resource t a hs))) (sym q) ∙ e)
      go false p false q rest e = rest (ap (λ z. cond z (h.touch.write || not b.write) (is_held t b (hold_one same_resource t a hs))) (sym q) ∙ e)

  -- whoever is in the way of a touch that asks for less is in the way of this one
  in_way_of_more : (b : Touch Resource) → IsIts b → (h : Hold Resource) → blocks t b h ≡ true → blocks t a h ≡ true
  in_way_of_more b its h e =
      let x = and_true (not (h.transaction == t)) (conflict h.touch b) e in
      let y = and_true (h.touch.write || b.write) (meet h.touch.what b.what) x.1 in
      both_true (not (h.transaction == t)) (conflict h.touch a) x.0 (both_true (h.touch.write || a.write) (meet h.touch.what a.what) (go h.touch.write a.write b.write its.1 y.0) (ap (meet h.touch.what) its.0 ∙ y.1))
    where
      go : (w v x : Bool) → (v || not x) ≡ true → (w || x) ≡ true → (w || v) ≡ true
      go true v x e f = refl
      go false true x e f = refl
      go false false true e f = e
      go false false false e f = f

  -- whoever holds what the touch is in conflict with is in its way
  held_blocks : (u : ℕ) (b : Touch Resource) (hs : List (Hold Resource)) → (t ≡ u → ⊥) → is_held u b hs ≡ true → conflict a b ≡ true → list_any (blocks t a) hs ≡ true
  held_blocks u b [] other held e = held
  held_blocks u b (h ∷ hs) other held e = go (is_pair same_resource u b.what h) refl (λ rest. held_blocks u b hs other rest e) held
    where
      writes : (w v x : Bool) → (w || not x) ≡ true → (v || x) ≡ true → (w || v) ≡ true
      writes true v x e f = refl
      writes false true x e f = refl
      writes false false true e f = e
      writes false false false e f = f

      go : (x : Bool) → is_pair same_resource u b.what h ≡ x → (is_held u b hs ≡ true → list_any (blocks t a) hs ≡ true) → cond x (h.touch.write || not b.write) (is_held u b hs) ≡ true → list_any (blocks t a) (h ∷ hs) ≡ true
      go true is rest enough =
          let p = and_true (h.transaction == u) (same_resource h.touch.what b.what) is in
          let q = and_true (a.write || b.write) (meet a.what b.what) e in
          let c = common_cell a.what b.what q.1 in
          let off = ne_eqb h.transaction t (λ s. other (sym s ∙ eqb-true h.transaction u p.0)) in
          or_left (blocks t a h) (list_any (blocks t a) hs) (both_true (not (h.transaction == t)) (conflict h.touch a) (ap not off)
          (both_true (h.touch.write || a.write) (meet h.touch.what a.what) (writes h.touch.write a.write b.write enough q.0)
          (ap (λ r. meet r a.what) (resource_same h.touch.what b.what p.1) ∙ met_resources b.what a.what c.0 c.2 c.1)))
      go false is rest held = or_right (blocks t a h) (list_any (blocks t a) hs) (rest held)

  -- another's touch, once this one is held
  others_way : (u : ℕ) (b : Touch Resource) (hs : List (Hold Resource)) → (t ≡ u → ⊥) → list_any (blocks u b) (hold_one same_resource t a hs) ≡ (list_any (blocks u b) hs || conflict a b)
  others_way u b hs other = any_held (blocks u b) t a (conflict a b) (ap (λ x. not x && conflict a b) (ne_eqb t u other)) more hs
    where
      merge : (w v x m : Bool) → (((w || v) || x) && m) ≡ (((w || x) && m) || ((v || x) && m))
      merge true true true true = refl
      merge true true true false = refl
      merge true true false true = refl
      merge true true false false = refl
      merge true false true true = refl
      merge true false true false = refl
      merge true false false true = refl
      merge true false false false = refl
      merge false true true true = refl
      merge false true true false = refl
      merge false true false true = refl
      merge false true false false = refl
      merge false false true true = refl
      merge false false true false = refl
      merge false false false true = refl
      merge false false false false = refl

      more : (h : Hold Resource) → h.transaction ≡ t → h.touch.what ≡ a.what → blocks u b (joined h a) ≡ (blocks u b h || conflict a b)
      more h own is =
          let off = ne_eqb h.transaction u (λ q. other (sym own ∙ q)) in
          ap (λ x. not x && (((h.touch.write || a.write) || b.write) && meet h.touch.what b.what)) off
          ∙ (merge h.touch.write a.write b.write (meet h.touch.what b.what)
          ∙ (ap (λ r. ((h.touch.write || b.write) && meet h.touch.what b.what) || ((a.write || b.write) && meet r b.what)) is
          ∙ sym (ap (λ x. (not x && ((h.touch.write || b.write) && meet h.touch.what b.what)) || conflict a b) off)))

  -- holds stay compatible where nobody is in the way of the touch
  pub compatible_kept : (hs : List (Hold Resource)) → AreCompatible hs → IsClear t a hs → AreCompatible (hold_one same_resource t a hs)
  compatible_kept hs compatible clear u b held = elim (cases_eq t u) [
    | inl own ↦ subst (λ (v : ℕ). IsClear v b (hold_one same_resource t a hs)) own (clear_kept b hs (elim (held_own b hs (ap (λ v. is_held v b (hold_one same_resource t a hs)) own ∙ held)) [
      | inl before ↦ compatible t b before
      | inr its ↦ any_below (blocks t a) (blocks t b) hs (in_way_of_more b its) clear
    ]))
    | inr other ↦ others_way u b hs other ∙ or_false (list_any (blocks u b) hs) (conflict a b) (compatible u b (sym (held_other u b hs other) ∙ held)) (elim (true_or_false (conflict a b)) [
      | inl bad ↦ absurd (not_both (list_any (blocks t a) hs) (held_blocks u b hs other (sym (held_other u b hs other) ∙ held) bad) clear)
      | inr good ↦ good
    ])
  ]

  -- what is held already joins nothing
  held_joins : (hs : List (Hold Resource)) → is_held t a hs ≡ true → hold_one same_resource t a hs ≡ hs
  held_joins [] e = absurd (not_both false e refl)
  held_joins (h ∷ hs) e = go (is_pair same_resource t a.what h) (held_joins hs) e
    where
      enough : (w v : Bool) → (w || not v) ≡ true → (w || v) ≡ w
      enough true v e = refl
      enough false true e = sym e
      enough false false e = refl

      go : (x : Bool) → (is_held t a hs ≡ true → hold_one same_resource t a hs ≡ hs) → cond x (h.touch.write || not a.write) (is_held t a hs) ≡ true → cond x (joined h a ∷ hs) (h ∷ hold_one same_resource t a hs) ≡ h ∷ hs
      go true rest e = ap (λ (w : Bool). (record { transaction = h.transaction; touch = record { what = h.touch.what; write = w } }) ∷ hs) (enough h.touch.write a.write e)
      go false rest e = ap (λ ks. h ∷ ks) (rest e)

  none_least : (p : Hold Resource → Bool) (hs : List (Hold Resource)) → list_any p hs ≡ false → least_of p hs ≡ None
  none_least p [] e = refl
  none_least p (h ∷ hs) e = go (p h) (none_least p hs) e
    where
      go : (b : Bool) → (list_any p hs ≡ false → least_of p hs ≡ None) → (b || list_any p hs) ≡ false → cond b (lesser h.transaction (least_of p hs)) (least_of p hs) ≡ None
      go true rest e = absurd (not_both true refl e)
      go false rest e = rest e

  pub least_none : (hs : List (Hold Resource)) → least_of (blocks t a) hs ≡ None → IsClear t a hs
  least_none [] e = refl
  least_none (h ∷ hs) e = go (blocks t a h) (least_of (blocks t a) hs) e (least_none hs)
    where
      go : (b : Bool) (r : Option ℕ) → cond b (lesser h.transaction r) r ≡ None → (r ≡ None → IsClear t a hs) → (b || list_any (blocks t a) hs) ≡ false
      go true None e rest = absurd (cc)
      go true (Some n) e rest = absurd (cc)
      go false r e rest = rest e

  -- The quick answer is exact: a touch that is held already changes neither who is in the way nor what is held
  pub held_changes_nothing : (rest : List (Touch Resource)) (hs : List (Hold Resource)) → AreCompatible hs → is_held t a hs ≡ true → AreAnsweredAlike t rest (a ∷ rest) hs
  held_changes_nothing rest hs compatible held = (
    sym (first_more t a rest hs ∙ ap (λ r. lesser_of r (first_holder conflict t rest hs)) (none_least (blocks t a) hs (compatible t a held))),
    sym (ap (hold_all same_resource t rest) (held_joins hs held)),
  )

  -- and so with the touches that follow it in a list
  pub held_is_skipped : {B : Type 0} (f : B → Touch Resource) (xs : List B) (i : ℕ) (x : B) (ys : List (Touch Resource)) (hs : List (Hold Resource)) → i < length xs → x ≡ get_or xs i x → f x ≡ a → AreCompatible hs → is_held t a hs ≡ true
      → AreAnsweredAlike t (map f (drop i xs)) ys hs → AreAnsweredAlike t (map f (drop (i + 1) xs)) ys hs
  held_is_skipped f xs i x ys hs h at is compatible held alike =
      let same = held_changes_nothing (map f (drop (i + 1) xs)) hs compatible held in
      let split = next_touch f xs i x h at ∙ ap (λ b. b ∷ map f (drop (i + 1) xs)) is in (
        same.0 ∙ (ap (λ ys. first_holder conflict t ys hs) (sym split) ∙ alike.0),
        same.1 ∙ (ap (λ ys. hold_all same_resource t ys hs) (sym split) ∙ alike.1),
      )

  -- whether it is held, by the first hold of the pair
  pub held_at : (hs : List (Hold Resource)) (i : ℕ) (d : Hold Resource) → first_place (is_pair same_resource t a.what) hs ≡ Some i → ((get_or hs i d).touch.write || not a.write) ≡ is_held t a hs
  held_at [] i d e = absurd (cc)
  held_at (h ∷ hs) i d e = go (is_pair same_resource t a.what h) (first_place (is_pair same_resource t a.what) hs) e (λ j. held_at hs j d)
    where
      go : (b : Bool) (r : Option ℕ) → cond b (Some 0) (option_map suc r) ≡ Some i → ((j : ℕ) → r ≡ Some j → ((get_or hs j d).touch.write || not a.write) ≡ is_held t a hs)
          → ((get_or (h ∷ hs) i d).touch.write || not a.write) ≡ cond b (h.touch.write || not a.write) (is_held t a hs)
      go true r e rest = let q : 0 ≡ i = cc in subst (λ (n : ℕ). ((get_or (h ∷ hs) n d).touch.write || not a.write) ≡ (h.touch.write || not a.write)) q refl
      go false None e rest = absurd (cc)
      go false (Some j) e rest = let q : suc j ≡ i = cc in subst (λ (n : ℕ). ((get_or (h ∷ hs) n d).touch.write || not a.write) ≡ is_held t a hs) q (rest j refl)

  -- each pair is held once, so one hold of it is the first
  pub found_once : (hs : List (Hold Resource)) (i : ℕ) (d : Hold Resource) → AreOnce same_resource hs → i < length hs → is_pair same_resource t a.what (get_or hs i d) ≡ true → first_place (is_pair same_resource t a.what) hs ≡ Some i
  found_once [] i d once within on = absurd (omega arith)
  found_once (h ∷ hs) zero d once within on = ap (λ b. cond b (Some 0) (option_map suc (first_place (is_pair same_resource t a.what) hs))) on
  found_once (h ∷ hs) (suc i) d once within on = go (is_pair same_resource t a.what h) refl (found_once hs i d once.1 (omega arith) on)
    where
      go : (b : Bool) → is_pair same_resource t a.what h ≡ b → first_place (is_pair same_resource t a.what) hs ≡ Some i → cond b (Some 0) (option_map suc (first_place (is_pair same_resource t a.what) hs)) ≡ Some (suc i)
      go true e rest =
          let q = and_true (h.transaction == t) (same_resource h.touch.what a.what) e in
          let there : list_any (is_pair same_resource t a.what) hs ≡ true = sym (any_placed (is_pair same_resource t a.what) hs) ∙ ap is_some rest in
          absurd (not_both (list_any (is_pair same_resource h.transaction h.touch.what) hs)
          (ap (λ (u : ℕ). list_any (is_pair same_resource u h.touch.what) hs) (eqb-true h.transaction t q.0) ∙ (ap (λ (r : Resource). list_any (is_pair same_resource t r) hs) (resource_same h.touch.what a.what q.1) ∙ there)) once.0)
      go false e rest = ap (option_map suc) rest

  pub held_nowhere : (hs : List (Hold Resource)) → first_place (is_pair same_resource t a.what) hs ≡ None → is_held t a hs ≡ false
  held_nowhere [] e = refl
  held_nowhere (h ∷ hs) e = go (is_pair same_resource t a.what h) (first_place (is_pair same_resource t a.what) hs) e (held_nowhere hs)
    where
      go : (b : Bool) (r : Option ℕ) → cond b (Some 0) (option_map suc r) ≡ None → (r ≡ None → is_held t a hs ≡ false) → cond b (h.touch.write || not a.write) (is_held t a hs) ≡ false
      go true r e rest = absurd (cc)
      go false None e rest = rest refl
      go false (Some j) e rest = absurd (cc)

  -- nobody in the way of several touches is in the way of the first, nor of the rest once it is held
  pub first_clear : (rest : List (Touch Resource)) (hs : List (Hold Resource)) → list_any (is_in_way conflict t (a ∷ rest)) hs ≡ false → IsClear t a hs
  first_clear rest hs clear = any_below (is_in_way conflict t (a ∷ rest)) (blocks t a) hs (λ h e. go (not (h.transaction == t)) (conflict h.touch a) (list_any (λ b. conflict h.touch b) rest) e) clear
    where
      go : (n c r : Bool) → (n && c) ≡ true → (n && (c || r)) ≡ true
      go true true r e = refl
      go true false r e = absurd (not_both false e refl)
      go false c r e = e

  pub rest_clear : (rest : List (Touch Resource)) (hs : List (Hold Resource)) → list_any (is_in_way conflict t (a ∷ rest)) hs ≡ false → list_any (is_in_way conflict t rest) (hold_one same_resource t a hs) ≡ false
  rest_clear rest hs clear =
      any_held (is_in_way conflict t rest) t a false (own (record { transaction = t; touch = a }) refl) (λ h e is. own (joined h a) e ∙ ap (λ x. x || false) (sym (own h e))) hs
      ∙ or_false (list_any (is_in_way conflict t rest) hs) false
      (any_below (is_in_way conflict t (a ∷ rest)) (is_in_way conflict t rest) hs (λ h e. go (not (h.transaction == t)) (conflict h.touch a) (list_any (λ b. conflict h.touch b) rest) e) clear) refl
    where
      own : (h : Hold Resource) → h.transaction ≡ t → is_in_way conflict t rest h ≡ false
      own h e = ap (λ x. not x && list_any (λ b. conflict h.touch b) rest) (eq-eqb h.transaction t e)

      go : (n c r : Bool) → (n && r) ≡ true → (n && (c || r)) ≡ true
      go true true r e = refl
      go true false r e = e
      go false c r e = e

pub none_in_way : (t : ℕ) (wanted : List (Touch Resource)) (hs : List (Hold Resource)) → first_holder conflict t wanted hs ≡ None → list_any (is_in_way conflict t wanted) hs ≡ false
none_in_way t wanted [] e = refl
none_in_way t wanted (h ∷ hs) e = go (is_in_way conflict t wanted h) (first_holder conflict t wanted hs) e (none_in_way t wanted hs)
  where
    go : (b : Bool) (r : Option ℕ) → cond b (lesser h.transaction r) r ≡ None → (r ≡ None → list_any (is_in_way conflict t wanted) hs ≡ false) → (b || list_any (is_in_way conflict t wanted) hs) ≡ false
    go true None e rest = absurd (cc)
    go true (Some n) e rest = absurd (cc)
    go false r e rest = rest e

-- nothing held, and holds that are released
pub compatible_none : AreCompatible []
compatible_none t a held = refl

released_none : (t : ℕ) (b : Touch Resource) (hs : List (Hold Resource)) → is_held t b (released t hs) ≡ false
released_none t b [] = refl
released_none t b (h ∷ hs) = go (h.transaction == t) refl (released_none t b hs)
  where
    go : (x : Bool) → (h.transaction == t) ≡ x → is_held t b (released t hs) ≡ false → is_held t b (cond (not x) (h ∷ released t hs) (released t hs)) ≡ false
    go true e rest = rest
    go false e rest = ap (λ x. cond (x && same_resource h.touch.what b.what) (h.touch.write || not b.write) (is_held t b (released t hs))) e ∙ rest

released_other : (t u : ℕ) (b : Touch Resource) (hs : List (Hold Resource)) → (t ≡ u → ⊥) → is_held u b (released t hs) ≡ is_held u b hs
released_other t u b [] other = refl
released_other t u b (h ∷ hs) other = go (h.transaction == t) refl (released_other t u b hs other)
  where
    go : (x : Bool) → (h.transaction == t) ≡ x → is_held u b (released t hs) ≡ is_held u b hs → is_held u b (cond (not x) (h ∷ released t hs) (released t hs)) ≡ is_held u b (h ∷ hs)
    go true e rest =
        rest
        ∙ sym (ap (λ x. cond (x && same_resource h.touch.what b.what) (h.touch.write || not b.write) (is_held u b hs)) (ne_eqb h.transaction u (λ q. other (sym (eqb-true h.transaction t e) ∙ q))))
    go false e rest = ap (λ r. cond (is_pair same_resource u b.what h) (h.touch.write || not b.write) r) rest

any_left : {A : Type 0} (p q : A → Bool) (xs : List A) → list_any p xs ≡ false → list_any p (filter q xs) ≡ false
any_left p q [] e = refl
any_left p q (x ∷ xs) e = go (p x) refl (q x) (any_left p q xs) e
  where
    go : (b : Bool) → p x ≡ b → (c : Bool) → (list_any p xs ≡ false → list_any p (filter q xs) ≡ false) → (b || list_any p xs) ≡ false → list_any p (cond c (x ∷ filter q xs) (filter q xs)) ≡ false
    go true is c rest e = absurd (not_both true refl e)
    go false is true rest e = or_false (p x) (list_any p (filter q xs)) is (rest e)
    go false is false rest e = rest e

pub compatible_released : (t : ℕ) (hs : List (Hold Resource)) → AreCompatible hs → AreCompatible (released t hs)
compatible_released t hs compatible u b held = any_left (blocks u b) (λ h. not (h.transaction == t)) hs (elim (cases_eq t u) [
  | inl own ↦ absurd (not_both (is_held t b (released t hs)) (ap (λ v. is_held v b (released t hs)) own ∙ held) (released_none t b hs))
  | inr other ↦ compatible u b (sym (released_other t u b hs other) ∙ held)
])
