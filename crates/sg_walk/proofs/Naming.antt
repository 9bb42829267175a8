-- The bodies of rows, by their roots.
use Rattle.std.proofs.Common.{◌≡◌, ◌≢◌, ℕ, zero, suc, ◌+◌, ◌<◌, ◌≤◌, ◌==◌, ◌⊎◌, inl, inr, Bool, true, false, cond, List, [], ◌∷◌, ◌++◌, length, map, Option, Some, None, slice_get, refl, sym, ap, subst, ◌∙◌, arith}
use Rattle.std.specs.Prelude.{⊤}
use Rattle.std.proofs.lemmas.Bool.{cases_eq}
use Rattle.std.proofs.lemmas.Bool.Decides.{nat_tests}
use Rattle.sg_array.specs.Array.{Array}
use Rattle.sg_catalog.specs.Catalog.{Catalog, rows}
use Rattle.sg_catalog.specs.declared.row.Row.{Row}
use Rattle.sg_space.specs.View.{Space}
use Rattle.sg_space.proofs.Known.{same_some}
use Rattle.sg_reach.specs.Marks.{CanSet}
use Rattle.sg_reach.proofs.Lists.{in_front, in_back}
use Rattle.sg_tables.proofs.Lists.{never, rest_apart}
use Rattle.sg_walk.specs.Bodies.{body_pages}
use Rattle.sg_walk.specs.Rows.{AreBodies, all_pages, bodies_of}
use Rattle.sg_contents.specs.Standing.{Body, Contents, IsAmong}
use Rattle.sg_contents.specs.Standing.Body.{AnArray, ATable, ABlob}

abbrev pub nothing : Body
nothing = AnArray (record { size = 0; items = []; peak = 0; index = []; leaves = [] })

-- the body of the first row that names this root
abbrev pub body_at : List Row → List Body → ℕ → Body
body_at [] bs root = nothing
body_at (row ∷ xs) [] root = nothing
body_at (row ∷ xs) (b ∷ bs) root = cond (row.root.0 == root) b (body_at xs bs root)

abbrev pub contents_for : Catalog → List Body → Contents
contents_for c bs = record { catalog = c; body = body_at (rows c) bs }

-- no two rows name one root
abbrev pub AreApart : List Row → Type 0
AreApart [] = ⊤
AreApart (x ∷ xs) = ((row : Row) → IsAmong xs row → row.root.0 ≢ x.root.0) × AreApart xs

-- a body's first page is its root
pub first_root : (root : ℕ) (b : Body) → slice_get (body_pages root b) 0 ≡ Some root
first_root root (AnArray a) = refl
first_root root (ATable t) = refl
first_root root (ABlob b) = refl

root_in : (s : Space) (xs : List Row) (bs : List Body) (row : Row) → AreBodies s xs bs → IsAmong xs row → (m : ℕ) × (slice_get (all_pages xs bs) m ≡ Some row.root.0)
root_in s [] bs row h a = absurd a
root_in s (x ∷ xs) [] row h a = absurd h
root_in s (x ∷ xs) (b ∷ bs) row h a = elim a [
  | inl e ↦ (0, in_front (body_pages x.root.0 b) (all_pages xs bs) 0 row.root.0 (first_root x.root.0 b ∙ ap (λ (r : Row). Some r.root.0) (sym e)))
  | inr l ↦ let k = root_in s xs bs row h.1 l in (length (body_pages x.root.0 b) + k.0, in_back (body_pages x.root.0 b) (all_pages xs bs) k.0 row.root.0 k.1)
]

pub roots_apart : (s : Space) (xs : List Row) (bs : List Body) (taken : List Bool) → AreBodies s xs bs → CanSet taken (all_pages xs bs) → AreApart xs
roots_apart s [] bs taken h can = tt
roots_apart s (x ∷ xs) [] taken h can = absurd h
roots_apart s (x ∷ xs) (b ∷ bs) taken h can = (
  λ row a e.
      let k = root_in s xs bs row h.1 a in
      never (body_pages x.root.0 b) (all_pages xs bs) can 0 k.0 x.root.0 (first_root x.root.0 b) (k.1 ∙ ap (λ (n : ℕ). Some n) e),
  roots_apart s xs bs taken h.1 (rest_apart (body_pages x.root.0 b) (all_pages xs bs) can),
)

-- functions that say the same at the roots
same_on : (xs : List Row) (f g : ℕ → Body) → ((row : Row) → IsAmong xs row → f row.root.0 ≡ g row.root.0) → map (λ (row : Row). f row.root.0) xs ≡ map (λ (row : Row). g row.root.0) xs
same_on [] f g h = refl
same_on (x ∷ xs) f g h =
    ap (λ (b : Body). b ∷ map (λ (row : Row). f row.root.0) xs) (h x (inl refl))
    ∙ ap (λ (bs : List Body). g x.root.0 ∷ bs) (same_on xs f g (λ row a. h row (inr a)))

is_same : (n : ℕ) → (n == n) ≡ true
is_same n = grind (arith, nat_tests)

is_other : (m n : ℕ) → m ≢ n → (m == n) ≡ false
is_other m n ne = by_test (m == n) refl
  where
    by_test : (b : Bool) → (m == n) ≡ b → (m == n) ≡ false
    by_test true e = absurd (ne (equal e))
      where
        equal : (m == n) ≡ true → m ≡ n
        equal e = grind (arith, nat_tests, e)
    by_test false e = e

bodies_named : (s : Space) (xs : List Row) (bs : List Body) → AreBodies s xs bs → AreApart xs → map (λ (row : Row). body_at xs bs row.root.0) xs ≡ bs
bodies_named s [] [] h apart = refl
bodies_named s [] (b ∷ bs) h apart = absurd h
bodies_named s (x ∷ xs) [] h apart = absurd h
bodies_named s (x ∷ xs) (b ∷ bs) h apart =
    ap (λ (c : Body). c ∷ map (λ (row : Row). body_at (x ∷ xs) (b ∷ bs) row.root.0) xs) (ap (λ (t : Bool). cond t b (body_at xs bs x.root.0)) (is_same x.root.0))
    ∙ ap (λ (cs : List Body). b ∷ cs)
    (same_on xs (body_at (x ∷ xs) (b ∷ bs)) (body_at xs bs) (λ row a. ap (λ (t : Bool). cond t b (body_at xs bs row.root.0)) (is_other x.root.0 row.root.0 (λ e. apart.0 row a (sym e))))
    ∙ bodies_named s xs bs h.1 apart.1)

pub named_so : (s : Space) (c : Catalog) (bs : List Body) (taken : List Bool) → AreBodies s (rows c) bs → CanSet taken (all_pages (rows c) bs) → bodies_of (contents_for c bs) ≡ bs
named_so s c bs taken h can = bodies_named s (rows c) bs h (roots_apart s (rows c) bs taken h can)
