-- Walks along a chain of holds.
use Rattle.std.proofs.Common.{◌≡◌, ℕ, zero, suc, ◌+◌, ◌-◌, ◌<◌, ◌≤◌, Bool, true, false, cond, List, [], ◌∷◌, map, length, take, get_or, Option, Some, None, refl, sym, ap, ◌∙◌, subst, arith}
use Rattle.std.specs.Prelude.{◌&&◌, ◌==◌}
use Rattle.std.specs.Option.{option_map, option_or, SomeIff, is_some}
use Rattle.std.proofs.lemmas.Bool.{eqb-true}
use Rattle.std.proofs.lemmas.List.{length-map, get_or-map}
use Rattle.sg_serial.specs.Locks.{Hold, lesser, is_pair}
use Rattle.sg_model.specs.Touches.{Resource, same_resource}
use Rattle.sg_model.proofs.Meeting.{resource_same}
use Rattle.sg_locks.specs.declared.table.Hold as code
use Rattle.sg_locks.specs.declared.table.Chain.{Chain}
use Rattle.sg_locks.specs.declared.table.Chain.TheVariants as chains
use Rattle.sg_locks.specs.Buckets.{resource_bucket}
use Rattle.sg_locks.specs.Chain.{is_on}
use Rattle.sg_locks.specs.Links.{last_in}
use Rattle.sg_locks.specs.Places.{first_place, last_place, lesser_of, least_of}
use Rattle.sg_locks.specs.Shown.{shown_hold}
use Rattle.sg_locks.proofs.Places.{place_walked}
use Rattle.sg_locks.proofs.Least.{least_walked}
use Rattle.sg_locks.proofs.Walks.{behind, last_within, last_passes, last_map, last_of_all, none_passes, walk_on}
use Rattle.sg_serial.proofs.Kept.{and_true, not_both}
use Rattle.std.proofs.lemmas.Bool.{eq-eqb}

-- fronts of lists
pub front_length : {A : Type 0} (n : ℕ) (xs : List A) → length (take n xs) ≤ length xs
front_length zero xs = omega arith
front_length (suc n) [] = omega arith
front_length (suc n) (x ∷ xs) = let e = front_length n xs in omega arith

front_short : {A : Type 0} (n : ℕ) (xs : List A) → length (take n xs) ≤ n
front_short zero xs = omega arith
front_short (suc n) [] = omega arith
front_short (suc n) (x ∷ xs) = let e = front_short n xs in omega arith

pub front_map : {A B : Type 0} (f : A → B) (n : ℕ) (xs : List A) → take n (map f xs) ≡ map f (take n xs)
front_map f zero xs = refl
front_map f (suc n) [] = refl
front_map f (suc n) (x ∷ xs) = ap (λ ys. f x ∷ ys) (front_map f n xs)

front_again : {A : Type 0} (m n : ℕ) (xs : List A) → m ≤ length (take n xs) → take m (take n xs) ≡ take m xs
front_again zero n xs h = refl
front_again (suc m) zero xs h = absurd (omega arith)
front_again (suc m) (suc n) [] h = refl
front_again (suc m) (suc n) (x ∷ xs) h = ap (λ ys. x ∷ ys) (front_again m n xs (omega arith))

front_get : {A : Type 0} (i n : ℕ) (xs : List A) (d : A) → i < length (take n xs) → get_or (take n xs) i d ≡ get_or xs i d
front_get i zero xs d h = absurd (omega arith)
front_get i (suc n) [] d h = refl
front_get zero (suc n) (x ∷ xs) d h = refl
front_get (suc i) (suc n) (x ∷ xs) d h = front_get i n xs d (omega arith)

-- the last of all places
pub every_last : {A : Type 0} (xs : List A) (n : ℕ) (r : Option ℕ) → length xs ≡ n → SomeIff r (1 ≤ n) (n - 1) → r ≡ last_place (λ x. true) xs
every_last [] n None e h = refl
every_last (x ∷ xs) n None e h = absurd (h (omega arith))
every_last xs n (Some m) e h = let l = h.0 in let v = h.1 in sym (last_of_all xs m (omega (arith, l, v, e)))

-- the last of those in a bucket is the last hold on its chain
pub last_on : {A : Type 0} (f : A → ℕ) (bucket : ℕ) (xs : List A) (places : List ℕ) → places ≡ map f xs → last_in bucket places ≡ last_place (λ x. f x == bucket) xs
last_on f bucket xs places e = ap (last_in bucket) e ∙ last_map f (λ b. b == bucket) xs

-- and likewise the one before a place
pub earlier_on : {A B : Type 0} (f : A → ℕ) (g : B → A) (xs : List B) (places : List ℕ) (at bucket : ℕ) → at < length xs → places ≡ map f (map g xs) → ((x : B) → (f (g (get_or xs at x)) == bucket) ≡ true)
    → last_in (get_or places at 0) (take at places) ≡ last_place (λ x. f x == bucket) (map g (take at xs))
earlier_on f g [] places at bucket h e on = absurd (omega arith)
earlier_on f g (y ∷ ys) places at bucket h e on =
    let inside : at < length (map g (y ∷ ys)) = (let l = length-map (y ∷ ys) g in omega (arith, l, h)) in
    let here : get_or places at 0 ≡ bucket =
    ap (λ ps. get_or ps at 0) e ∙ (get_or-map f (map g (y ∷ ys)) at (g y) 0 inside ∙ (ap f (get_or-map g (y ∷ ys) at y (g y) h) ∙ eqb-true (f (g (get_or (y ∷ ys) at y))) bucket (on y))) in
    let front : take at places ≡ map f (map g (take at (y ∷ ys))) = ap (take at) e ∙ (front_map f at (map g (y ∷ ys)) ∙ ap (map f) (front_map g at (y ∷ ys))) in
    ap (λ b. last_in b (take at places)) here ∙ last_on f bucket (map g (take at (y ∷ ys))) (take at places) front

-- the measure of a walk falls
pub nearer : (chain : Chain) (items : List code.Hold) (place : ℕ) (now then : Option ℕ) → now ≡ Some place → then ≡ last_place (is_on chain) (map shown_hold (take place items)) → behind then < behind now
nearer chain items place now then is e =
    let a = last_within (is_on chain) (map shown_hold (take place items)) in let b = length-map (take place items) shown_hold in let d = front_short place items in
    omega (arith, a, b, d, ap behind e, ap behind is)

-- one step of a walk
module _ (chain : Chain) (items : List code.Hold) (from place : ℕ) (at : last_place (is_on chain) (map shown_hold (take from items)) ≡ Some place) where
  inside : place < length (take from items)
  inside = let e = last_within (is_on chain) (map shown_hold (take from items)) in let f = length-map (take from items) shown_hold in let g = ap behind at in omega (arith, e, f, g)

  pub step_within : place < length items
  step_within = let e = inside in let f = front_length from items in omega (arith, e, f)

  pub step_on : (h : code.Hold) → is_on chain (shown_hold (get_or items place h)) ≡ true
  step_on h =
      subst (λ (k : Hold Resource). is_on chain k ≡ true)
      (get_or-map shown_hold (take from items) place h (shown_hold h) inside ∙ ap shown_hold (front_get place from items h inside))
      (last_passes (is_on chain) (map shown_hold (take from items)) place (shown_hold h) at)

  front : take (suc place) (map shown_hold (take from items)) ≡ map shown_hold (take (place + 1) items)
  front = front_map shown_hold (suc place) (take from items) ∙ (ap (map shown_hold) (front_again (suc place) from items (let e = inside in omega (arith, e))) ∙ ap (λ n. map shown_hold (take n items)) (let e : suc place ≡ place + 1 = omega arith in e))

  pub least_on : (w : Hold Resource → Bool) (h : code.Hold) (least new : Option ℕ) → h ≡ get_or items place h → new ≡ cond (w (shown_hold h)) (lesser (shown_hold h).transaction least) least
      → lesser_of new (least_of (λ k. is_on chain k && w k) (map shown_hold (take place items))) ≡ lesser_of least (least_of (λ k. is_on chain k && w k) (map shown_hold (take from items)))
  least_on w h least new is e =
      let on : is_on chain (shown_hold h) ≡ true = subst (λ (k : code.Hold). is_on chain (shown_hold k) ≡ true) (sym is) (step_on h) in
      least_walked shown_hold (λ k. is_on chain k && w k) items place (place + 1) h least new step_within refl is (e ∙ ap (λ b. cond (b && w (shown_hold h)) (lesser (shown_hold h).transaction least) least) (sym on))
      ∙ ap (lesser_of least) (sym (walk_on (least_of (λ k. is_on chain k && w k)) (λ k r. cond (is_on chain k && w k) (lesser k.transaction r) r) None refl (λ x xs. refl) (is_on chain) (λ x off. ap (λ b. cond (b && w x) (lesser x.transaction None) None) off) (map shown_hold (take from items)) place at
      ∙ ap (least_of (λ k. is_on chain k && w k)) front))

  pub place_on : (r : Hold Resource → Bool) → ((k : Hold Resource) → r k ≡ true → is_on chain k ≡ true) → (h : code.Hold) (found new : Option ℕ) → h ≡ get_or items place h → new ≡ cond (r (shown_hold h)) (Some place) found
      → option_or (first_place r (map shown_hold (take place items))) new ≡ option_or (first_place r (map shown_hold (take from items))) found
  place_on r only h found new is e =
      place_walked shown_hold r items place (place + 1) h found new step_within refl is e
      ∙ ap (λ m. option_or m found) (sym (walk_on (first_place r) (λ k m. cond {A = Option ℕ} (r k) (Some 0) (option_map suc m)) None refl (λ x xs. refl) (is_on chain) (λ x off. idle (r x) (λ y. not_both (is_on chain x) (only x y) off)) (map shown_hold (take from items)) place at
      ∙ ap (first_place r) front))
    where
      idle : (b : Bool) → (b ≡ true → ⊥) → cond {A = Option ℕ} b (Some 0) None ≡ None
      idle true h = absurd (h refl)
      idle false h = refl

-- there is no last one
pub no_last : (r : Option ℕ) → is_some r ≡ false → r ≡ None
no_last None e = refl
no_last (Some n) e = absurd (cc)

-- where a walk ends there is nothing left
module _ (chain : Chain) (hs : List (Hold Resource)) (at : last_place (is_on chain) hs ≡ None) where
  pub least_done : (w : Hold Resource → Bool) → least_of (λ k. is_on chain k && w k) hs ≡ None
  least_done w = none_passes (least_of (λ k. is_on chain k && w k)) (λ k r. cond (is_on chain k && w k) (lesser k.transaction r) r) None refl (λ x xs. refl) (is_on chain) (λ x off. ap (λ b. cond (b && w x) (lesser x.transaction None) None) off) hs at

  pub place_done : (r : Hold Resource → Bool) → ((k : Hold Resource) → r k ≡ true → is_on chain k ≡ true) → first_place r hs ≡ None
  place_done r only = none_passes (first_place r) (λ k m. cond {A = Option ℕ} (r k) (Some 0) (option_map suc m)) None refl (λ x xs. refl) (is_on chain) (λ x off. idle (r x) (λ y. not_both (is_on chain x) (only x y) off)) hs at
    where
      idle : (b : Bool) → (b ≡ true → ⊥) → cond {A = Option ℕ} b (Some 0) None ≡ None
      idle true h = absurd (h refl)
      idle false h = refl

-- a hold of a resource is on the chain of its bucket
pub pair_on : (t : ℕ) (what : Resource) (bucket : ℕ) → bucket ≡ resource_bucket what → (h : Hold Resource) → is_pair same_resource t what h ≡ true → is_on (chains.Resource bucket) h ≡ true
pair_on t what bucket is h e =
    eq-eqb (resource_bucket h.touch.what) bucket (ap resource_bucket (resource_same h.touch.what what (and_true (h.transaction == t) (same_resource h.touch.what what) e).1) ∙ sym is)
