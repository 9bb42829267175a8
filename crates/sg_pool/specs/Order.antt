-- The frames by their last use, the most recently used first, each with whether it is pinned.
use Rattle.std.specs.Prelude.{◌≡◌, ℕ, zero, suc, ◌<◌, ◌≤◌, Bool, false, IsTrue, nat_eq, Contains, IsSome, Some, List, [], ◌∷◌, ◌++◌, length, count_by}
use Rattle.std.specs.List.{All}
use Rattle.std.specs.Map.{lookup, remove_entry}

-- frame k isn't pinned, and all that were used less recently are
abbrev pub IsVictim : List (ℕ × Bool) → ℕ → Type 0
IsVictim es k = (xs : List (ℕ × Bool)) × (ys : List (ℕ × Bool)) × (es ≡ xs ++ (k, false) ∷ ys) × All (λ e. IsTrue e.1) ys

-- the frames from n - 1 down to 0, none pinned
abbrev pub below : ℕ → List (ℕ × Bool)
below zero = []
below (suc k) = (k, false) ∷ below k

-- how many are pinned
abbrev pub pins_of : List (ℕ × Bool) → ℕ
pins_of es = count_by (λ e. e.1) es

-- THE ORDER HAS EACH FRAME ONCE, and at most 6 are pinned
pub record IsOrder (count : ℕ) (es : List (ℕ × Bool)) : Type 0 where
  pub size : length es ≡ count
  pub keys : (e : ℕ × Bool) → Contains es e → e.0 < count
  pub each : (k : ℕ) → k < count → IsSome (lookup (nat_eq k) es)
  pub few : pins_of es ≤ 6

-- FRAME f HAS BEEN USED: it stands first, pinned or not as it was, and the others in their order behind it
pub record IsUsed (f : ℕ) (es es' : List (ℕ × Bool)) : Type 0 where
  pub is_pinned : Bool
  pub was : lookup (nat_eq f) es ≡ Some is_pinned
  pub first : es' ≡ (f, is_pinned) ∷ remove_entry (nat_eq f) es
