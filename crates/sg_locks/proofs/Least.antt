-- The least transaction that is in the way, found touch by touch and hold by hold.
use Rattle.std.proofs.Common.{◌≡◌, ℕ, zero, suc, ◌+◌, ◌<◌, min, Bool, true, false, cond, not, List, [], ◌∷◌, map, length, take, drop, get_or, Option, Some, None, refl, sym, ap, ◌∙◌, arith, add-one}
use Rattle.std.specs.Prelude.{◌||◌, ◌&&◌, ◌==◌}
use Rattle.std.specs.List.{list_any}
use Rattle.std.proofs.Math.Seq.{drop-cons}
use Rattle.sg_serial.specs.Locks.{Touch, Hold, first_holder, lesser}
use Rattle.sg_model.specs.Touches.{Resource, conflict}
use Rattle.sg_locks.specs.Places.{blocks, lesser_of, least_of}

lesser_first : (n m : ℕ) (r : Option ℕ) → lesser (min n m) r ≡ lesser m (lesser n r)
lesser_first n m None = ap Some (omega arith)
lesser_first n m (Some k) = ap Some (omega arith)

lesser_swap : (n m : ℕ) (r : Option ℕ) → lesser n (lesser m r) ≡ lesser m (lesser n r)
lesser_swap n m None = ap Some (omega arith)
lesser_swap n m (Some k) = ap Some (omega arith)

pub lesser_none : (r : Option ℕ) → lesser_of r None ≡ r
lesser_none None = refl
lesser_none (Some n) = refl

pub lesser_assoc : (a b c : Option ℕ) → lesser_of (lesser_of a b) c ≡ lesser_of a (lesser_of b c)
lesser_assoc None b c = refl
lesser_assoc (Some n) None c = refl
lesser_assoc (Some n) (Some m) None = refl
lesser_assoc (Some n) (Some m) (Some k) = ap Some (omega arith)

-- the lesser of a number and of two others
pub both : (n : ℕ) (l r : Option ℕ) → lesser n (lesser_of l r) ≡ lesser_of (lesser n l) (lesser n r)
both n None None = ap Some (omega arith)
both n None (Some k) = ap Some (omega arith)
both n (Some m) None = ap Some (omega arith)
both n (Some m) (Some k) = ap Some (omega arith)

pub left : (n : ℕ) (l r : Option ℕ) → lesser n (lesser_of l r) ≡ lesser_of (lesser n l) r
left n None r = refl
left n (Some m) None = refl
left n (Some m) (Some k) = ap Some (omega arith)

pub right : (n : ℕ) (l r : Option ℕ) → lesser n (lesser_of l r) ≡ lesser_of l (lesser n r)
right n None r = refl
right n (Some m) r = lesser_swap n m r

module _ {B : Type 0} (f : B → Hold Resource) (p : Hold Resource → Bool) where
  -- one more hold at the end of a front
  least_more : (xs : List B) (i : ℕ) (d : B) → i < length xs
      → least_of p (map f (take (suc i) xs)) ≡ cond (p (f (get_or xs i d))) (lesser (f (get_or xs i d)).transaction (least_of p (map f (take i xs)))) (least_of p (map f (take i xs)))
  least_more [] i d h = absurd (omega arith)
  least_more (x ∷ xs) zero d h = refl
  least_more (x ∷ xs) (suc i) d h =
      go (p (f x)) (p (f (get_or xs i d))) (f x).transaction (f (get_or xs i d)).transaction (least_of p (map f (take i xs))) (least_of p (map f (take (suc i) xs))) (least_more xs i d (omega arith))
    where
      go : (b c : Bool) (n m : ℕ) (r s : Option ℕ) → s ≡ cond c (lesser m r) r → cond b (lesser n s) s ≡ cond c (lesser m (cond b (lesser n r) r)) (cond b (lesser n r) r)
      go true true n m r s e = ap (lesser n) e ∙ lesser_swap n m r
      go true false n m r s e = ap (lesser n) e
      go false true n m r s e = e
      go false false n m r s e = e

  least_step : (xs : List B) (i : ℕ) (d : B) (least : Option ℕ) → i < length xs
      → lesser_of (cond (p (f (get_or xs i d))) (lesser (f (get_or xs i d)).transaction least) least) (least_of p (map f (take i xs))) ≡ lesser_of least (least_of p (map f (take (i + 1) xs)))
  least_step xs i d least h =
      go (p (f (get_or xs i d))) (f (get_or xs i d)).transaction least (least_of p (map f (take i xs)))
      ∙ (ap (lesser_of least) (sym (least_more xs i d h))
      ∙ ap (λ n. lesser_of least (least_of p (map f (take n xs)))) (sym (add-one i)))
    where
      go : (b : Bool) (n : ℕ) (least r : Option ℕ) → lesser_of (cond b (lesser n least) least) r ≡ lesser_of least (cond b (lesser n r) r)
      go true n None r = refl
      go true n (Some m) r = lesser_first n m r
      go false n least r = refl

  -- one more hold, from the end on, has been looked at
  pub least_walked : (xs : List B) (i n : ℕ) (x : B) (least new : Option ℕ) → i < length xs → n ≡ i + 1 → x ≡ get_or xs i x → new ≡ cond (p (f x)) (lesser (f x).transaction least) least
      → lesser_of new (least_of p (map f (take i xs))) ≡ lesser_of least (least_of p (map f (take n xs)))
  least_walked xs i n x least new h one is e =
      ap (λ r. lesser_of r (least_of p (map f (take i xs)))) (e ∙ ap (λ y. cond (p (f y)) (lesser (f y).transaction least) least) is)
      ∙ (least_step xs i x least h ∙ ap (λ m. lesser_of least (least_of p (map f (take m xs)))) (sym one))

module _ (t : ℕ) where
  -- nobody is in the way of no touches
  pub first_none : (hs : List (Hold Resource)) → first_holder conflict t [] hs ≡ None
  first_none [] = refl
  first_none (h ∷ hs) = go (not (h.transaction == t)) (first_holder conflict t [] hs) (first_none hs)
    where
      go : (b : Bool) (r : Option ℕ) → r ≡ None → cond (b && false) (lesser h.transaction r) r ≡ None
      go true r e = e
      go false r e = e

  -- who is in the way of several touches is in the way of the first or of the rest
  pub first_more : (a : Touch Resource) (rest : List (Touch Resource)) (hs : List (Hold Resource)) → first_holder conflict t (a ∷ rest) hs ≡ lesser_of (least_of (blocks t a) hs) (first_holder conflict t rest hs)
  first_more a rest [] = refl
  first_more a rest (h ∷ hs) =
      go (not (h.transaction == t)) (conflict h.touch a) (list_any (λ b. conflict h.touch b) rest) (first_holder conflict t (a ∷ rest) hs) (least_of (blocks t a) hs) (first_holder conflict t rest hs) (first_more a rest hs)
    where
      go : (n c r : Bool) (x l f : Option ℕ) → x ≡ lesser_of l f → cond (n && (c || r)) (lesser h.transaction x) x ≡ lesser_of (cond (n && c) (lesser h.transaction l) l) (cond (n && r) (lesser h.transaction f) f)
      go true true true x l f e = ap (lesser h.transaction) e ∙ both h.transaction l f
      go true true false x l f e = ap (lesser h.transaction) e ∙ left h.transaction l f
      go true false true x l f e = ap (lesser h.transaction) e ∙ right h.transaction l f
      go true false false x l f e = e
      go false c r x l f e = e

  -- one more touch has been looked at
  pub first_step : {B : Type 0} (f : B → Touch Resource) (xs : List B) (i : ℕ) (d : B) (hs : List (Hold Resource)) (least now all : Option ℕ) → i < length xs
      → now ≡ lesser_of least (least_of (blocks t (f (get_or xs i d))) hs) → lesser_of least (first_holder conflict t (map f (drop i xs)) hs) ≡ all → lesser_of now (first_holder conflict t (map f (drop (i + 1) xs)) hs) ≡ all
  first_step f xs i d hs least now all h e whole =
      ap (λ n. lesser_of now (first_holder conflict t (map f (drop n xs)) hs)) (add-one i)
      ∙ (ap (λ r. lesser_of r (first_holder conflict t (map f (drop (suc i) xs)) hs)) e
      ∙ (lesser_assoc least (least_of (blocks t (f (get_or xs i d))) hs) (first_holder conflict t (map f (drop (suc i) xs)) hs)
      ∙ (ap (lesser_of least) (sym (first_more (f (get_or xs i d)) (map f (drop (suc i) xs)) hs))
      ∙ (ap (λ ys. lesser_of least (first_holder conflict t (map f ys) hs)) (sym (drop-cons xs i d h))
      ∙ whole))))
