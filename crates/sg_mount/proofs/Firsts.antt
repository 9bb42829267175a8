-- The first of each pair, as far as a place.
use Rattle.std.proofs.Common.{◌≡◌, ℕ, zero, suc, ◌+◌, List, [], ◌∷◌, ◌++◌, map, take, Option, Some, None, slice_get, ap, add-one}

-- the first of each pair
abbrev pub firsts_of : List (ℕ × ℕ) → List ℕ
firsts_of ps = map (λ (p : ℕ × ℕ). p.0) ps

none_there : {P : Type 0} (p : ℕ × ℕ) → ◌≡◌ {A = Option (ℕ × ℕ)} None (Some p) → P
none_there p e = absurd cc

more : (ps : List (ℕ × ℕ)) (i : ℕ) (p : ℕ × ℕ) → slice_get ps i ≡ Some p → take (suc i) (firsts_of ps) ≡ take i (firsts_of ps) ++ p.0 ∷ []
more [] i p e = none_there p e
more (q ∷ ps) zero p e = (let same : q ≡ p = cc in ap (λ (r : ℕ × ℕ). r.0 ∷ []) same)
more (q ∷ ps) (suc i) p e = ap (λ (l : List ℕ). q.0 ∷ l) (more ps i p e)

-- one more of them
pub one_more : (ps : List (ℕ × ℕ)) (i : ℕ) (p : ℕ × ℕ) → slice_get ps i ≡ Some p → take (i + 1) (firsts_of ps) ≡ take i (firsts_of ps) ++ p.0 ∷ []
one_more ps i p e = rw add-one (more ps i p e)
