-- Lists of what has a number, as records of a log have: the parts below a number and from it on.
use Rattle.std.specs.Prelude.{◌<◌, ◌≤◌, ℕ, suc, nat_lt, if◌then◌else◌, List, [], ◌∷◌}

-- those below a number, and those from it on
abbrev pub below : {X : Type 0} → (X → ℕ) → ℕ → List X → List X
below key c [] = []
below key c (x ∷ xs) = if nat_lt (key x) c then x ∷ below key c xs else below key c xs

abbrev pub onward : {X : Type 0} → (X → ℕ) → ℕ → List X → List X
onward key c [] = []
onward key c (x ∷ xs) = if nat_lt (key x) c then onward key c xs else x ∷ onward key c xs

-- each has a number from there on, and above those before it
abbrev pub Rises : {X : Type 0} → (X → ℕ) → ℕ → List X → Type 0
Rises key low [] = Unit {0}
Rises key low (x ∷ xs) = (low ≤ key x) × Rises key (suc (key x)) xs

-- each has a number from there on
abbrev pub AllFrom : {X : Type 0} → (X → ℕ) → ℕ → List X → Type 0
AllFrom key d [] = Unit {0}
AllFrom key d (x ∷ xs) = (d ≤ key x) × AllFrom key d xs

-- each has a number below there
abbrev pub AllUnder : {X : Type 0} → (X → ℕ) → ℕ → List X → Type 0
AllUnder key d [] = Unit {0}
AllUnder key d (x ∷ xs) = (key x < d) × AllUnder key d xs

-- each that is below the cut is below d
abbrev pub IsDurable : {X : Type 0} → (X → ℕ) → ℕ → ℕ → List X → Type 0
IsDurable key d cut [] = Unit {0}
IsDurable key d cut (x ∷ xs) = (key x < cut → key x < d) × IsDurable key d cut xs
