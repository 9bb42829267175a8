-- The entries of a map, one behind another.
use Rattle.std.proofs.Common.{◌≡◌, ℕ, zero, suc, ◌+◌, ◌<◌, Bool, true, false, cond, T, ◌&&◌, List, [], ◌∷◌, ◌++◌, map, length, take, drop, get_or, slice_get, Some, None, refl, sym, ap, ◌∙◌, subst, arith, add-one, append_assoc, append-nil}
use Rattle.std.specs.List.{flat_map}
use Rattle.std.specs.Cmp.{eq_by_cmp_equiv}
use Rattle.std.specs.Cmp.Lexicographic.{slice_cmp, nat_list_cmp_total}
use Rattle.std.specs.Ordering.{nat_cmp, eq_by_cmp, is_lt, is_eq}
use Rattle.std.specs.declared.cmp.Ordering.{Ordering}
use Rattle.std.specs.declared.cmp.Ordering.TheVariants.{Less, Equal, Greater}
use Rattle.std.specs.FinMap.{FinMap, get, entries, keys, find, is_sorted, entries_sorted, get-entries}
use Rattle.std.specs.FinMap.Entries.{below_all}

abbrev pub order : List ℕ → List ℕ → Ordering
order = slice_cmp nat_cmp

one_of : (a b : Bool) → T (a && b) → T a
one_of true b h = tt
one_of false b h = h

two_of : (a b : Bool) → T (a && b) → T b
two_of true b h = h
two_of false b h = absurd h

less : (r : Ordering) → T (is_lt r) → r ≡ Less
less Less h = refl
less Equal h = absurd h
less Greater h = absurd h

same_some : {A : Type 0} (x y : A) → Some x ≡ Some y → x ≡ y
same_some x y h = cc

other : (k q : List ℕ) → order k q ≡ Less → eq_by_cmp order q k ≡ false
other k q e = (eq_by_cmp_equiv nat_list_cmp_total).symm q k ∙ ap is_eq e

module _ {X : Type 0} where
  -- an entry behind others has a greater key
  above : (k : List ℕ) (es : List (List ℕ × X)) (i : ℕ) (e : List ℕ × X) → T (below_all order k es) → slice_get es i ≡ Some e → order k e.0 ≡ Less
  above k [] i e h at = absurd (let w : None ≡ Some e = at in cc)
  above k (x ∷ es) zero e h at = subst (λ (y : List ℕ × X). order k y.0 ≡ Less) (same_some x e at) (less (order k x.0) (one_of (is_lt (order k x.0)) (below_all order k es) h))
  above k (x ∷ es) (suc i) e h at = above k es i e (two_of (is_lt (order k x.0)) (below_all order k es) h) at

  -- the entry at a place is what its key finds
  found_in : (es : List (List ℕ × X)) (i : ℕ) (e : List ℕ × X) → T (is_sorted order es) → slice_get es i ≡ Some e → find order e.0 es ≡ Some e.1
  found_in [] i e s at = absurd (let w : None ≡ Some e = at in cc)
  found_in (x ∷ es) zero e s at =
      subst (λ (y : List ℕ × X). find order y.0 (x ∷ es) ≡ Some y.1) (same_some x e at)
      (ap (λ (b : Bool). cond b (Some x.1) (find order x.0 es)) ((eq_by_cmp_equiv nat_list_cmp_total).refl x.0))
  found_in (x ∷ es) (suc i) e s at =
      ap (λ (b : Bool). cond b (Some x.1) (find order e.0 es)) (other x.0 e.0 (above x.0 es i e (one_of (below_all order x.0 es) (is_sorted order es) s) at))
      ∙ found_in es i e (two_of (below_all order x.0 es) (is_sorted order es) s) at

  pub found_at : (m : FinMap order X) (i : ℕ) (e : List ℕ × X) → slice_get (entries m) i ≡ Some e → get m e.0 ≡ Some e.1
  found_at m i e at = get-entries m e.0 ∙ found_in (entries m) i e (entries_sorted m) at

  -- where there is a key there is an entry
  pub entry_at : (es : List (List ℕ × X)) (i : ℕ) (d : List ℕ) → i < length (map (λ e. e.0) es) → (e : List ℕ × X) × (slice_get es i ≡ Some e) × (get_or (map (λ x. x.0) es) i d ≡ e.0)
  entry_at [] i d lt = absurd (omega arith)
  entry_at (x ∷ es) zero d lt = (x, refl, refl)
  entry_at (x ∷ es) (suc i) d lt = entry_at es i d (omega arith)

-- WHAT THE ELEMENTS OF A LIST COME TO, up to one of them, and with those behind it
module _ {A B : Type 0} (f : A → List B) where
  up_to_next : (xs : List A) (i : ℕ) (x : A) → slice_get xs i ≡ Some x → flat_map f (take (suc i) xs) ≡ flat_map f (take i xs) ++ f x
  up_to_next [] i x at = absurd (let w : None ≡ Some x = at in cc)
  up_to_next (y ∷ xs) zero x at = append-nil (f y) ∙ ap f (same_some y x at)
  up_to_next (y ∷ xs) (suc i) x at = ap (λ (t : List B). f y ++ t) (up_to_next xs i x at) ∙ sym (append_assoc (f y) (flat_map f (take i xs)) (f x))

  pub up_to : (xs : List A) (i : ℕ) (x : A) → slice_get xs i ≡ Some x → flat_map f (take (i + 1) xs) ≡ flat_map f (take i xs) ++ f x
  up_to xs i x at = rw add-one (up_to_next xs i x at)

  pub with_behind : (xs : List A) (i : ℕ) (x : A) → slice_get xs i ≡ Some x → flat_map f (take i xs) ++ (f x ++ flat_map f (drop (suc i) xs)) ≡ flat_map f xs
  with_behind [] i x at = absurd (let w : None ≡ Some x = at in cc)
  with_behind (y ∷ xs) zero x at = ap (λ (z : A). f z ++ flat_map f xs) (sym (same_some y x at))
  with_behind (y ∷ xs) (suc i) x at = append_assoc (f y) (flat_map f (take i xs)) (f x ++ flat_map f (drop (suc i) xs)) ∙ ap (λ (t : List B). f y ++ t) (with_behind xs i x at)

-- A KEY AT A PLACE among all keys of a map: the entry there is the key's
pub key_at : {X : Type 0} (m : FinMap order X) (ks : List (List ℕ)) (i : ℕ) (k : List ℕ) → ks ≡ keys m → i < length ks → k ≡ get_or ks i k → (e : List ℕ × X) × (slice_get (entries m) i ≡ Some e) × (e.0 ≡ k) × (get m k ≡ Some e.1)
key_at {X} m ks i k same lt is =
    let e = entry_at (entries m) i k (subst (λ (xs : List (List ℕ)). i < length xs) same lt) in
    let own : e.0.0 ≡ k = sym (is ∙ (ap (λ (xs : List (List ℕ)). get_or xs i k) same ∙ e.2)) in
    (e.0, e.1, own, subst (λ (q : List ℕ). get m q ≡ Some e.0.1) own (found_at m i e.0 e.1))
