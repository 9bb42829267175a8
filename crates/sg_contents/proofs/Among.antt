-- Rows among others.
use Rattle.std.proofs.Common.{◌≡◌, ℕ, ◌+◌, ◌≤◌, ◌==◌, ◌⊎◌, inl, inr, Bool, true, false, cond, List, [], ◌∷◌, ◌++◌, Some, sym, ap, ◌∙◌, refl, arith, subst}
use Rattle.std.specs.List.{find, count_by}
use Rattle.std.proofs.lemmas.Bool.Decides.{nat_tests}
use Rattle.std.proofs.lemmas.List.Sums.{sum_by-cons}
use Rattle.sg_catalog.specs.declared.row.Row.{Row}
use Rattle.sg_contents.specs.Standing.{IsAmong, is_at}

pub eq_self : (n : ℕ) → (n == n) ≡ true
eq_self n = grind (arith, nat_tests)

pub among_front : (xs ys : List Row) (row : Row) → IsAmong xs row → IsAmong (xs ++ ys) row
among_front [] ys row h = absurd h
among_front (x ∷ xs) ys row (inl e) = inl e
among_front (x ∷ xs) ys row (inr h) = inr (among_front xs ys row h)

pub among_back : (xs ys : List Row) (row : Row) → IsAmong ys row → IsAmong (xs ++ ys) row
among_back [] ys row h = h
among_back (x ∷ xs) ys row h = inr (among_back xs ys row h)

pub among_either : (xs ys : List Row) (row : Row) → IsAmong (xs ++ ys) row → IsAmong xs row ⊎ IsAmong ys row
among_either [] ys row h = inr h
among_either (x ∷ xs) ys row (inl e) = inl (inl e)
among_either (x ∷ xs) ys row (inr h) = elim (among_either xs ys row h) [ inl a ↦ inl (inr a) | inr b ↦ inr b ]

pub among_mid : (xs ys : List Row) (row : Row) → IsAmong (xs ++ (row ∷ ys)) row
among_mid xs ys row = among_back xs (row ∷ ys) row (inl refl)

-- one that stands behind another one put in the midst
pub among_more : (xs ys : List Row) (x row : Row) → IsAmong (xs ++ ys) row → IsAmong (xs ++ (x ∷ ys)) row
among_more xs ys x row h = elim (among_either xs ys row h) [ inl a ↦ among_front xs (x ∷ ys) row a | inr b ↦ among_back xs (x ∷ ys) row (inr b) ]

pub among_less : (xs ys : List Row) (x row : Row) → IsAmong (xs ++ (x ∷ ys)) row → (row ≡ x) ⊎ IsAmong (xs ++ ys) row
among_less xs ys x row h = elim (among_either xs (x ∷ ys) row h) [
  | inl a ↦ inr (among_front xs ys row a)
  | inr b ↦ elim b [ inl e ↦ inl e | inr c ↦ inr (among_back xs ys row c) ]
]

-- a row that a search finds
pub found_among : (p : Row → Bool) (xs : List Row) (row : Row) → find p xs ≡ Some row → IsAmong xs row
found_among p [] row e = absurd (cc)
found_among p (x ∷ xs) row e = by (p x) e (found_among p xs row)
  where
    by : (b : Bool) → cond b (Some x) (find p xs) ≡ Some row → (find p xs ≡ Some row → IsAmong xs row) → (row ≡ x) ⊎ IsAmong xs row
    by true e rest = inl (cc)
    by false e rest = inr (rest e)

-- a row that passes, of several
pub counted : (p : Row → Bool) (xs : List Row) (row : Row) → IsAmong xs row → p row ≡ true → 1 ≤ count_by p xs
counted p [] row h pass = absurd h
counted p (x ∷ xs) row (inl e) pass =
    let sum : count_by p (x ∷ xs) ≡ cond {A = ℕ} (p x) 1 0 + count_by p xs = sum_by-cons (λ (r : Row). cond {A = ℕ} (p r) 1 0) x xs in
    let one : cond {A = ℕ} (p x) 1 0 ≡ 1 = ap (λ (b : Bool). cond {A = ℕ} b 1 0) (ap p (sym e) ∙ pass) in
    omega arith
counted p (x ∷ xs) row (inr h) pass =
    let sum : count_by p (x ∷ xs) ≡ cond {A = ℕ} (p x) 1 0 + count_by p xs = sum_by-cons (λ (r : Row). cond {A = ℕ} (p r) 1 0) x xs in
    let rest = counted p xs row h pass in
    omega arith

-- none passes where none among them does
pub none_counted : (p : Row → Bool) (xs : List Row) → ((row : Row) → IsAmong xs row → p row ≡ false) → count_by p xs ≡ 0
none_counted p [] none = refl
none_counted p (x ∷ xs) none =
    let sum : count_by p (x ∷ xs) ≡ cond {A = ℕ} (p x) 1 0 + count_by p xs = sum_by-cons (λ (r : Row). cond {A = ℕ} (p r) 1 0) x xs in
    let zero_here : cond {A = ℕ} (p x) 1 0 ≡ 0 = ap (λ (b : Bool). cond {A = ℕ} b 1 0) (none x (inl refl)) in
    let rest = none_counted p xs (λ row h. none row (inr h)) in
    omega arith

-- where one at most passes, two that pass are one
pub only_one : (p : Row → Bool) (xs : List Row) (x y : Row) → count_by p xs ≤ 1 → IsAmong xs x → IsAmong xs y → p x ≡ true → p y ≡ true → x ≡ y
only_one p [] x y once a b px py = absurd a
only_one p (z ∷ zs) x y once (inl a) (inl b) px py = a ∙ sym b
only_one p (z ∷ zs) x y once (inl a) (inr b) px py =
    let sum : count_by p (z ∷ zs) ≡ cond {A = ℕ} (p z) 1 0 + count_by p zs = sum_by-cons (λ (r : Row). cond {A = ℕ} (p r) 1 0) z zs in
    let one : cond {A = ℕ} (p z) 1 0 ≡ 1 = ap (λ (t : Bool). cond {A = ℕ} t 1 0) (ap p (sym a) ∙ px) in
    let more = counted p zs y b py in
    absurd (omega arith)
only_one p (z ∷ zs) x y once (inr a) (inl b) px py =
    let sum : count_by p (z ∷ zs) ≡ cond {A = ℕ} (p z) 1 0 + count_by p zs = sum_by-cons (λ (r : Row). cond {A = ℕ} (p r) 1 0) z zs in
    let one : cond {A = ℕ} (p z) 1 0 ≡ 1 = ap (λ (t : Bool). cond {A = ℕ} t 1 0) (ap p (sym b) ∙ py) in
    let more = counted p zs x a px in
    absurd (omega arith)
only_one p (z ∷ zs) x y once (inr a) (inr b) px py =
    let sum : count_by p (z ∷ zs) ≡ cond {A = ℕ} (p z) 1 0 + count_by p zs = sum_by-cons (λ (r : Row). cond {A = ℕ} (p r) 1 0) z zs in
    only_one p zs x y (omega arith) a b px py

-- rows that name one root are one, where each root is named once
pub one_at : (xs : List Row) (x y : Row) → ((root : ℕ) → count_by (is_at root) xs ≤ 1) → IsAmong xs x → IsAmong xs y → x.root.0 ≡ y.root.0 → x ≡ y
one_at xs x y once a b same = only_one (is_at x.root.0) xs x y (once x.root.0) a b (eq_self x.root.0) (subst (λ (n : ℕ). (y.root.0 == n) ≡ true) (sym same) (eq_self y.root.0))
