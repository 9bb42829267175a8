-- Places that are sorted by unit, and those of one unit by their numbers.
use Rattle.std.proofs.Common.{◌≡◌, ◌≢◌, ◌⊎◌, inl, inr, ⊎_elim, ◌<◌, ◌≤◌, ◌+◌, ◌-◌, ◌==◌, nat_lt, ℕ, zero, suc, Bool, true, false, List, [], ◌∷◌, length, get_or, refl, sym, ◌∙◌, ap, subst, arith}
use Rattle.std.specs.Prelude.{AllPairs, Contains, filter, map, cond}
use Rattle.std.specs.List.{IsDistinct}
use Rattle.std.specs.List.Sorted.{IsPermutation, IsSortedByKey, IsNonDecreasingBy}
use Rattle.std.specs.Ordering.{is_lt, nat_cmp, ordering_then}
use Rattle.std.proofs.lemmas.Bool.{cases_eq, cases_lt}
use Rattle.std.proofs.lemmas.Bool.Decides.{nat_tests, Decides-eqb}
use Rattle.std.proofs.lemmas.List.Elements.{filter_passes}
use Rattle.std.proofs.lemmas.List.Kept.{AllPairs-filter, AllPairs-from_increasing}
use Rattle.std.proofs.lemmas.List.{get_or-map, length-map}
use Rattle.std.proofs.lemmas.List.Sorted.{Contains-permutation, IsPermutation-sym, IsPermutation-map}
use Rattle.std.proofs.lemmas.Map.Keys.{ge_from_not_lt, IsDistinct-IsPermutation}
use Rattle.std.proofs.lemmas.Map.Made.{AllPairs-from_IsDistinct, IsDistinct-from_AllPairs}
use Rattle.sg_redo.specs.declared.place.Place.{Place}
use Rattle.sg_pool.specs.Redone.{AreInOrder, places_of}
use Rattle.sg_pool.proofs.Placed.{no_place}

-- ELEMENTS of a list
head_in : (x : Place) (xs : List Place) → Contains (x ∷ xs) x
head_in x xs = (0, omega arith, refl)

tail_in : (x p : Place) (xs : List Place) → Contains xs p → Contains (x ∷ xs) p
tail_in x p xs there = (suc there.0, let lt = there.1 in omega (arith, lt), there.2)

in_at : (x p : Place) (xs : List Place) (k : ℕ) → k < length (x ∷ xs) → get_or (x ∷ xs) k p ≡ p → (x ≡ p) ⊎ Contains xs p
in_at x p xs zero lt is = inl is
in_at x p xs (suc k) lt is = inr (k, omega (arith, lt), is)

in_cons : (x p : Place) (xs : List Place) → Contains (x ∷ xs) p → (x ≡ p) ⊎ Contains xs p
in_cons x p xs there = in_at x p xs there.0 there.1 there.2

not_both : false ≡ true → ⊥
not_both e = cc

module _ (test : Place → Bool) where
  -- those that pass
  kept_in : (xs : List Place) (p : Place) → test p ≡ true → Contains xs p → Contains (filter test xs) p
  kept_in [] p passes there = let lt = there.1 in absurd (omega (arith, lt))
  kept_in (x ∷ xs) p passes there = either (kept_in xs p passes) (test x) refl
    where
      either : (Contains xs p → Contains (filter test xs) p) → (b : Bool) → test x ≡ b → Contains (cond b (x ∷ filter test xs) (filter test xs)) p
      either again true is = ⊎_elim (λ same. subst (λ (q : Place). Contains (x ∷ filter test xs) q) same (head_in x (filter test xs))) (λ later. tail_in x p (filter test xs) (again later)) (in_cons x p xs there)
      either again false is = ⊎_elim (λ same. absurd (not_both (sym is ∙ (ap test same ∙ passes)))) (λ later. again later) (in_cons x p xs there)

  from_in : (xs : List Place) (p : Place) → Contains (filter test xs) p → Contains xs p
  from_in [] p there = there
  from_in (x ∷ xs) p there = either (from_in xs p) (test x) there
    where
      either : (Contains (filter test xs) p → Contains xs p) → (b : Bool) → Contains (cond b (x ∷ filter test xs) (filter test xs)) p → Contains (x ∷ xs) p
      either again true here = ⊎_elim (λ same. subst (λ (q : Place). Contains (x ∷ xs) q) same (head_in x xs)) (λ later. tail_in x p xs (again later)) (in_cons x p (filter test xs) here)
      either again false here = tail_in x p xs (again here)

  passes_in : (xs : List Place) (p : Place) → Contains (filter test xs) p → test p ≡ true
  passes_in xs p there = subst (λ (q : Place). test q ≡ true) there.2 (filter_passes test xs there.0 p there.1)

-- LISTS WHOSE NUMBERS RISE
abbrev Rises : List Place → Type 0
Rises xs = AllPairs (λ (p q : Place). p.lsn < q.lsn) xs

rises_tail : (x : Place) (xs : List Place) → Rises (x ∷ xs) → Rises xs
rises_tail x xs up i j d less lt = up (suc i) (suc j) d (omega (arith, less)) (omega (arith, lt))

above_head : (x p : Place) (xs : List Place) → Rises (x ∷ xs) → Contains xs p → x.lsn < p.lsn
above_head x p xs up there = subst (λ (q : Place). x.lsn < q.lsn) there.2 (up 0 (suc there.0) p (omega arith) (let lt = there.1 in omega (arith, lt)))

-- are the same where they have the same elements
same_rising : (xs ys : List Place) → Rises xs → Rises ys → ((p : Place) → Contains xs p → Contains ys p) → ((p : Place) → Contains ys p → Contains xs p) → xs ≡ ys
same_rising [] [] up_x up_y to from = refl
same_rising [] (y ∷ ys) up_x up_y to from = let lt = (from y (head_in y ys)).1 in absurd (omega (arith, lt))
same_rising (x ∷ xs) [] up_x up_y to from = let lt = (to x (head_in x xs)).1 in absurd (omega (arith, lt))
same_rising (x ∷ xs) (y ∷ ys) up_x up_y to from =
    let heads : x ≡ y = ⊎_elim
    (λ same. sym same)
    (λ later. ⊎_elim
    (λ same. same)
    (λ after. let a = above_head y x ys up_y later in let b = above_head x y xs up_x after in absurd (omega (arith, a, b)))
    (in_cons x y xs (from y (head_in y ys))))
    (in_cons y x ys (to x (head_in x xs))) in
    let to_tail : (p : Place) → Contains xs p → Contains ys p = λ p there. ⊎_elim
    (λ same. let a = above_head x p xs up_x there in absurd (omega (arith, a, ap (λ (q : Place). q.lsn) (heads ∙ same))))
    (λ later. later)
    (in_cons y p ys (to p (tail_in x p xs there))) in
    let from_tail : (p : Place) → Contains ys p → Contains xs p = λ p there. ⊎_elim
    (λ same. let a = above_head y p ys up_y there in absurd (omega (arith, a, ap (λ (q : Place). q.lsn) (sym heads ∙ same))))
    (λ later. later)
    (in_cons x p xs (from p (tail_in y p ys there))) in
    ap (λ (q : Place). q ∷ xs) heads ∙ ap (λ (l : List Place). y ∷ l) (same_rising xs ys (rises_tail x xs up_x) (rises_tail y ys up_y) to_tail from_tail)

-- THE ORDER OF A SORT: by unit, and then by number
abbrev IsBefore : Place → Place → Type 0
IsBefore p q = (p.unit < q.unit) ⊎ ((p.unit ≡ q.unit) × (p.lsn ≤ q.lsn))

then_before : (p q r : Place) → IsBefore p q → IsBefore q r → IsBefore p r
then_before p q r first second = ⊎_elim
    (λ a. ⊎_elim (λ b. inl (omega (arith, a, b))) (λ b. let e = b.0 in inl (omega (arith, a, e))) second)
    (λ a. let e = a.0 in let le = a.1 in ⊎_elim (λ b. inl (omega (arith, e, b))) (λ b. let f = b.0 in let lf = b.1 in inr (omega (arith, e, f), omega (arith, le, lf))) second)
    first

not_less : (a b x y : ℕ) → is_lt (ordering_then (nat_cmp a x) (nat_cmp b y)) ≡ false → (x < a) ⊎ ((x ≡ a) × (y ≤ b))
not_less a b x y is = ⊎_elim
    (λ lt. absurd (not_both (let t : nat_lt a x ≡ true = grind (arith, nat_tests, lt) in sym (rw t at is))))
    (λ le. ⊎_elim
    (λ same. inr (sym same, ge_from_not_lt b y (later same)))
    (λ differ. inl (omega (arith, le, differ)))
    (cases_eq a x))
    (cases_lt a x)
  where
    later : a ≡ x → is_lt (nat_cmp b y) ≡ false
    later same =
        let t : nat_lt a x ≡ false = grind (arith, nat_tests, same) in
        let u : (a == x) ≡ true = grind (arith, nat_tests, same) in
        rw (t, u) at is

module _ (xs : List Place) (sorted : IsSortedByKey (λ (p : Place). (p.unit, p.lsn)) (λ (k l : ℕ × ℕ). ordering_then (nat_cmp k.0 l.0) (nat_cmp k.1 l.1)) xs) where
  next_before : (k : ℕ) (d : Place) → k + 1 < length xs → IsBefore (get_or xs k d) (get_or xs (k + 1) d)
  next_before k d lt = not_less _ _ _ _ (sorted k d (omega arith) lt)

  far_before : (i m : ℕ) (d : Place) → i + m < length xs → IsBefore (get_or xs i d) (get_or xs (i + m) d)
  far_before i zero d lt = let e : i + 0 ≡ i = omega arith in subst (λ (k : ℕ). IsBefore (get_or xs i d) (get_or xs k d)) (sym e) (inr (refl, omega arith))
  far_before i (suc m) d lt =
      let e : i + m + 1 ≡ i + suc m = omega arith in
      then_before (get_or xs i d) (get_or xs (i + m) d) (get_or xs (i + suc m) d) (far_before i m d (omega (arith, lt)))
      (subst (λ (k : ℕ). IsBefore (get_or xs (i + m) d) (get_or xs k d)) e (next_before (i + m) d (omega (arith, lt))))

  pub sorted_up : IsNonDecreasingBy (λ (p : Place). p.unit) xs
  sorted_up i j d le lt =
      let e : i + (j - i) ≡ j = omega (arith, le) in
      let it : IsBefore (get_or xs i d) (get_or xs j d) = subst (λ (k : ℕ). IsBefore (get_or xs i d) (get_or xs k d)) e (far_before i (j - i) d (omega (arith, le, lt))) in
      ⊎_elim (λ a. omega (arith, a)) (λ a. let same = a.0 in omega (arith, same)) it

  -- of two places of one unit, the later one has no smaller number
  pairs_before : AllPairs (λ (p q : Place). p.unit ≡ q.unit → p.lsn ≤ q.lsn) xs
  pairs_before i j d less lt same =
      let e : i + (j - i) ≡ j = omega (arith, less) in
      let it : IsBefore (get_or xs i d) (get_or xs j d) = subst (λ (k : ℕ). IsBefore (get_or xs i d) (get_or xs k d)) e (far_before i (j - i) d (omega (arith, less, lt))) in
      ⊎_elim (λ a. absurd (omega (arith, a, same))) (λ a. a.1) it

abbrev number : Place → ℕ
number p = p.lsn

-- the order of neighbours, by their numbers
pub order_at : (places : List Place) → AreInOrder places → (k : ℕ) (d : Place) → k + 1 < length places → (get_or places k d).lsn < (get_or places (k + 1) d).lsn
order_at places up k d lt =
    let size = length-map places number in
    let it = up k (omega (arith, lt, size)) in
    let a = get_or-map number places k d 0 (omega (arith, lt)) in
    let b = get_or-map number places (k + 1) d 0 lt in
    omega (arith, it, a, b)

pub order_of : (places : List Place) → ((k : ℕ) (d : Place) → k + 1 < length places → (get_or places k d).lsn < (get_or places (k + 1) d).lsn) → AreInOrder places
order_of places up k lt =
    let size = length-map places number in
    let less : k + 1 < length places = omega (arith, lt, size) in
    let it = up k no_place less in
    let a = get_or-map number places k no_place 0 (omega (arith, less)) in
    let b = get_or-map number places (k + 1) no_place 0 less in
    omega (arith, it, a, b)

in_order : (places : List Place) → AreInOrder places → Rises places
in_order places up i j d less lt =
    let size = length-map places number in
    let it = AllPairs-from_increasing (map number places) up i j 0 less (omega (arith, lt, size)) in
    let a = get_or-map number places i d 0 (omega (arith, less, lt)) in
    let b = get_or-map number places j d 0 lt in
    omega (arith, it, a, b)

same_test : (x y : ℕ) → (x == y) ≡ (y == x)
same_test x y = grind (arith, nat_tests)

-- no two places have one number, in any order
all_differ : (places sorted : List Place) → AreInOrder places → IsPermutation places sorted → AllPairs (λ (p q : Place). p.lsn ≢ q.lsn) sorted
all_differ places sorted up moved i j d less lt is =
    let apart : IsDistinct (λ (x y : ℕ). x == y) (map number places) = IsDistinct-from_AllPairs Decides-eqb (map number places) (λ a b e low high same. let it = AllPairs-from_increasing (map number places) up a b e low high in absurd (omega (arith, it, same))) in
    let still = AllPairs-from_IsDistinct Decides-eqb (map number sorted) (IsDistinct-IsPermutation (λ (x y : ℕ). x == y) same_test (map number places) (map number sorted) (IsPermutation-map number places sorted moved) apart) in
    let size = length-map sorted number in
    still i j 0 less (omega (arith, lt, size)) (get_or-map number sorted i d 0 (omega (arith, less, lt)) ∙ (is ∙ sym (get_or-map number sorted j d 0 lt)))

-- SORTING KEEPS each unit's places, in their order
module _ (places sorted : List Place) (order : AreInOrder places) (moved : IsPermutation places sorted) (by_unit : IsSortedByKey (λ (p : Place). (p.unit, p.lsn)) (λ (k l : ℕ × ℕ). ordering_then (nat_cmp k.0 l.0) (nat_cmp k.1 l.1)) sorted) (unit : ℕ) where
  rising : AllPairs (λ (p q : Place). p.unit ≡ q.unit → p.lsn < q.lsn) sorted
  rising i j d less lt same = let le = pairs_before sorted by_unit i j d less lt same in let not = all_differ places sorted order moved i j d less lt in omega (arith, le, not)

  is_its : (p : Place) → (p.unit == unit) ≡ true → p.unit ≡ unit
  is_its p is = grind (arith, nat_tests, is)

  its_rising : Rises (places_of unit sorted)
  its_rising i j d less lt =
      let a = is_its (get_or (places_of unit sorted) i d) (filter_passes (λ (p : Place). p.unit == unit) sorted i d (omega (arith, less, lt))) in
      let b = is_its (get_or (places_of unit sorted) j d) (filter_passes (λ (p : Place). p.unit == unit) sorted j d lt) in
      AllPairs-filter (λ (p q : Place). p.unit ≡ q.unit → p.lsn < q.lsn) (λ p. p.unit == unit) sorted rising i j d less lt (a ∙ sym b)

  across : (xs ys : List Place) → IsPermutation xs ys → (p : Place) → Contains (places_of unit xs) p → Contains (places_of unit ys) p
  across xs ys swaps p there = kept_in (λ q. q.unit == unit) ys p (passes_in (λ q. q.unit == unit) xs p there) (Contains-permutation xs ys p swaps (from_in (λ q. q.unit == unit) xs p there))

  pub sorted_same : places_of unit sorted ≡ places_of unit places
  sorted_same = same_rising (places_of unit sorted) (places_of unit places) its_rising (AllPairs-filter (λ (p q : Place). p.lsn < q.lsn) (λ p. p.unit == unit) places (in_order places order))
      (across sorted places (IsPermutation-sym places sorted moved)) (across places sorted moved)
