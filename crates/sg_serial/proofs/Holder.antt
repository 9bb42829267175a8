-- The least number in a table of holds is that of the holder that began first.
use Rattle.std.proofs.Common.{◌≡◌, ℕ, ◌<◌, ◌≤◌, min, Bool, true, false, cond, not, List, [], ◌∷◌, Option, Some, None, refl, sym, ap, ◌∙◌, ◌⊎◌, subst, arith}
use Rattle.std.proofs.Common.{inl, inr}
use Rattle.std.specs.Prelude.{◌||◌, ◌&&◌, ◌==◌}
use Rattle.std.specs.Option.{option_map}
use Rattle.std.specs.List.{find, list_any}
use Rattle.std.proofs.lemmas.Bool.{eqb-true, eqb-false, eq-eqb, ne_eqb}
use Rattle.sg_serial.specs.Locks.{Touch, Hold, held_of, any_conflict, is_in_way, first_holder, lesser}
use Rattle.sg_serial.specs.Runs.{Live, is_live, AreAbove, AreRising, holder}
use Rattle.sg_serial.proofs.Commute.{true_or_false, or_true, or_left, or_right}
use Rattle.sg_serial.proofs.Kept.{and_true, both_true, not_both}

-- r is the least number at which P holds, if there is one
abbrev pub IsLeast : (ℕ → Bool) → Option ℕ → Type 0
IsLeast P None = (u : ℕ) → P u ≡ false
IsLeast P (Some m) = (P m ≡ true) × ((u : ℕ) → P u ≡ true → m ≤ u)

-- the same among the live ones
abbrev IsLeastIn : List Live → (ℕ → Bool) → Option ℕ → Type 0
IsLeastIn ls P None = (u : ℕ) → is_live ls u ≡ true → P u ≡ false
IsLeastIn ls P (Some m) = (is_live ls m ≡ true) × (P m ≡ true) × ((u : ℕ) → is_live ls u ≡ true → P u ≡ true → m ≤ u)

one_more : (P : ℕ → Bool) (n : ℕ) (b : Bool) (r : Option ℕ) → IsLeast P r → IsLeast (λ u. P u || ((n == u) && b)) (cond b (lesser n r) r)
one_more P n true None h = (
  or_right (P n) ((n == n) && true) (both_true (n == n) true (eq-eqb n n refl) refl),
  (λ u y. elim (or_true (P u) ((n == u) && true) y) [
    | inl i ↦ absurd (not_both (P u) i (h u))
    | inr j ↦ (let q : n ≡ u = eqb-true n u (and_true (n == u) true j).0 in omega arith)
  ]),
)
one_more P n true (Some m) h = (
  least_one,
  (λ u y. elim (or_true (P u) ((n == u) && true) y) [
    | inl i ↦ (let q : m ≤ u = h.1 u i in omega arith)
    | inr j ↦ (let q : n ≡ u = eqb-true n u (and_true (n == u) true j).0 in omega arith)
  ]),
)
  where
    n_one : (P n || ((n == n) && true)) ≡ true
    n_one = or_right (P n) ((n == n) && true) (both_true (n == n) true (eq-eqb n n refl) refl)

    m_one : (P m || ((n == m) && true)) ≡ true
    m_one = or_left (P m) ((n == m) && true) h.0

    either : (k : ℕ) → (k ≡ n) ⊎ (k ≡ m) → (P k || ((n == k) && true)) ≡ true
    either k e = elim e [ inl i ↦ subst (λ (j : ℕ). (P j || ((n == j) && true)) ≡ true) (sym i) n_one | inr i ↦ subst (λ (j : ℕ). (P j || ((n == j) && true)) ≡ true) (sym i) m_one ]

    least_one : (P (min n m) || ((n == min n m) && true)) ≡ true
    least_one = elim (true_or_false (n == min n m)) [
      | inl i ↦ either (min n m) (inl (sym (eqb-true n (min n m) i)))
      | inr i ↦ either (min n m) (inr (let q : n ≡ min n m → ⊥ = eqb-false n (min n m) i in omega arith))
    ]
one_more P n false None h = λ u. none (P u) (n == u) (h u)
  where
    none : (a b : Bool) → a ≡ false → (a || (b && false)) ≡ false
    none true b e = e
    none false true e = refl
    none false false e = refl
one_more P n false (Some m) h = (or_left (P m) ((n == m) && false) h.0, (λ u y. h.1 u (only (P u) (n == u) y)))
  where
    only : (a b : Bool) → (a || (b && false)) ≡ true → a ≡ true
    only true b e = refl
    only false true e = e
    only false false e = e

same_least : (P Q : ℕ → Bool) → ((u : ℕ) → P u ≡ Q u) → (r : Option ℕ) → IsLeast P r → IsLeast Q r
same_least P Q e None h = λ u. sym (e u) ∙ h u
same_least P Q e (Some m) h = (sym (e m) ∙ h.0, (λ u y. h.1 u (e u ∙ y)))

module _ {Resource : Type 0} (conflict : Touch Resource → Touch Resource → Bool) (t : ℕ) (wanted : List (Touch Resource)) where
  abbrev blocks : List (Hold Resource) → ℕ → Bool
  blocks hs u = not (u == t) && any_conflict conflict (held_of hs u) wanted

  joined : (p a b x : Bool) → (p && (a || x)) ≡ ((p && x) || (p && a))
  joined true true b true = refl
  joined true true b false = refl
  joined true false b true = refl
  joined true false b false = refl
  joined false a b x = refl

  no_more : (p x a : Bool) → (p && x) ≡ ((p && x) || (false && a))
  no_more true true a = refl
  no_more true false a = refl
  no_more false x a = refl

  head : (h : Hold Resource) (hs : List (Hold Resource)) (u : ℕ) (b : Bool) → (h.transaction == u) ≡ b
      → (not (u == t) && any_conflict conflict (cond b (h.touch ∷ held_of hs u) (held_of hs u)) wanted) ≡ (blocks hs u || (b && is_in_way conflict t wanted h))
  head h hs u true e =
      joined (not (u == t)) (list_any (λ a. conflict h.touch a) wanted) true (any_conflict conflict (held_of hs u) wanted)
      ∙ ap (λ (k : ℕ). blocks hs u || (not (k == t) && list_any (λ a. conflict h.touch a) wanted)) (sym (eqb-true h.transaction u e))
  head h hs u false e = no_more (not (u == t)) (any_conflict conflict (held_of hs u) wanted) (is_in_way conflict t wanted h)

  pub least_holder : (hs : List (Hold Resource)) → IsLeast (blocks hs) (first_holder conflict t wanted hs)
  least_holder [] = λ u. none (not (u == t))
    where
      none : (b : Bool) → (b && false) ≡ false
      none true = refl
      none false = refl
  least_holder (h ∷ hs) =
      same_least (λ u. blocks hs u || ((h.transaction == u) && is_in_way conflict t wanted h)) (blocks (h ∷ hs)) (λ u. sym (head h hs u (h.transaction == u) refl)) (cond (is_in_way conflict t wanted h) (lesser h.transaction (first_holder conflict t wanted hs)) (first_holder conflict t wanted hs))
      (one_more (blocks hs) h.transaction (is_in_way conflict t wanted h) (first_holder conflict t wanted hs) (least_holder hs))

above_live : (n : ℕ) (ls : List Live) (u : ℕ) → AreAbove n ls → is_live ls u ≡ true → n < u
above_live n [] u h y = absurd (not_both false y refl)
above_live n (l ∷ ls) u h y = elim (or_true (l.transaction == u) (is_live ls u) y) [
  | inl i ↦ subst (λ (k : ℕ). n < k) (eqb-true l.transaction u i) h.0
  | inr j ↦ above_live n ls u h.1 j
]

find_cond : (P : ℕ → Bool) (l : Live) (ls : List Live) (b : Bool) → P l.transaction ≡ b → AreAbove l.transaction ls → (r : Option Live) → IsLeastIn ls P (option_map (λ k. k.transaction) r) → IsLeastIn (l ∷ ls) P (option_map (λ k. k.transaction) (cond b (Some l) r))
find_cond P l ls true e above r h = (
  or_left (l.transaction == l.transaction) (is_live ls l.transaction) (eq-eqb l.transaction l.transaction refl),
  e,
  (λ u y z. elim (or_true (l.transaction == u) (is_live ls u) y) [
    | inl i ↦ (let q : l.transaction ≡ u = eqb-true l.transaction u i in omega arith)
    | inr j ↦ (let q : l.transaction < u = above_live l.transaction ls u above j in omega arith)
  ]),
)
find_cond P l ls false e above None h = λ u y. elim (or_true (l.transaction == u) (is_live ls u) y) [
  | inl i ↦ ap P (sym (eqb-true l.transaction u i)) ∙ e
  | inr j ↦ h u j
]
find_cond P l ls false e above (Some m) h = (
  or_right (l.transaction == m.transaction) (is_live ls m.transaction) h.0,
  h.1,
  (λ u y z. elim (or_true (l.transaction == u) (is_live ls u) y) [
    | inl i ↦ absurd (not_both (P u) z (ap P (sym (eqb-true l.transaction u i)) ∙ e))
    | inr j ↦ h.2 u j z
  ]),
)

find_least : (P : ℕ → Bool) (ls : List Live) → AreRising ls → IsLeastIn ls P (option_map (λ k. k.transaction) (find (λ l. P l.transaction) ls))
find_least P [] h = λ u y. absurd (not_both false y refl)
find_least P (l ∷ ls) h = find_cond P l ls (P l.transaction) refl h.0 (find (λ k. P k.transaction) ls) (find_least P ls h.1)

unique : (P : ℕ → Bool) (ls : List Live) → ((u : ℕ) → P u ≡ true → is_live ls u ≡ true) → (r q : Option ℕ) → IsLeast P r → IsLeastIn ls P q → r ≡ q
unique P ls live None None h i = refl
unique P ls live None (Some m) h i = absurd (not_both (P m) i.1 (h m))
unique P ls live (Some m) None h i = absurd (not_both (P m) h.0 (i m (live m h.0)))
unique P ls live (Some m) (Some n) h i = ap Some (let a : m ≤ n = h.1 n i.1 in let b : n ≤ m = i.2 m (live m h.0) h.0 in omega arith)

-- the table's answer is the holder that began first
pub holder_is : {Resource : Type 0} (conflict : Touch Resource → Touch Resource → Bool) (ls : List Live) (hs : List (Hold Resource)) (t : ℕ) (wanted : List (Touch Resource))
    → AreRising ls → ((u : ℕ) → is_live ls u ≡ false → held_of hs u ≡ []) → first_holder conflict t wanted hs ≡ option_map (λ l. l.transaction) (holder conflict ls hs t wanted)
holder_is conflict ls hs t wanted rising none =
    unique (blocks conflict t wanted hs) ls (λ u y. elim (true_or_false (is_live ls u)) [
      | inl i ↦ i
      | inr j ↦ absurd (not_both (any_conflict conflict (held_of hs u) wanted) (and_true (not (u == t)) (any_conflict conflict (held_of hs u) wanted) y).1 (ap (λ ks. any_conflict conflict ks wanted) (none u j)))
    ])
    (first_holder conflict t wanted hs) (option_map (λ l. l.transaction) (holder conflict ls hs t wanted)) (least_holder conflict t wanted hs) (find_least (blocks conflict t wanted hs) ls rising)

-- the live transaction with a number, found again among those that rise
not_above : (n : ℕ) (ls : List Live) (l : Live) (p : Live → Bool) → AreAbove n ls → find p ls ≡ Some l → n < l.transaction
not_above n [] l p h e = absurd (cc)
not_above n (m ∷ ls) l p h e = go (p m) e (λ f. not_above n ls l p h.1 f)
  where
    go : (b : Bool) → cond b (Some m) (find p ls) ≡ Some l → (find p ls ≡ Some l → n < l.transaction) → n < l.transaction
    go true f r = let q : m ≡ l = cc in subst (λ (k : Live). n < k.transaction) q h.0
    go false f r = r f

pub found_again : (p : Live → Bool) (ls : List Live) (l : Live) → AreRising ls → find p ls ≡ Some l → find (λ k. k.transaction == l.transaction) ls ≡ Some l
found_again p [] l h e = absurd (cc)
found_again p (m ∷ ls) l h e = go (p m) e (λ f. found_again p ls l h.1 f)
  where
    go : (b : Bool) → cond b (Some m) (find p ls) ≡ Some l → (find p ls ≡ Some l → find (λ k. k.transaction == l.transaction) ls ≡ Some l) → cond (m.transaction == l.transaction) (Some m) (find (λ k. k.transaction == l.transaction) ls) ≡ Some l
    go true f r = let q : m ≡ l = cc in ap (λ b. cond b (Some m) (find (λ k. k.transaction == l.transaction) ls)) (eq-eqb m.transaction l.transaction (ap (λ (k : Live). k.transaction) q)) ∙ ap Some q
    go false f r = ap (λ b. cond b (Some m) (find (λ k. k.transaction == l.transaction) ls)) (ne_eqb m.transaction l.transaction (λ q. let s : m.transaction < l.transaction = not_above m.transaction ls l p h.0 f in absurd (omega arith))) ∙ r f
