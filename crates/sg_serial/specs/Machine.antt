-- Steps that touch cells, entries of transactions, and what it means that steps keep to their touches.
use Rattle.std.specs.Prelude.{◌≡◌, ℕ, Bool, true, false, ◌||◌, List, [], ◌∷◌, ◌⊎◌}
use Rattle.std.specs.List.{filter}

-- x is one of the elements
abbrev pub Among : {A : Type 0} → A → List A → Type 0
Among a [] = ⊥
Among a (x ∷ xs) = (a ≡ x) ⊎ Among a xs

-- one of the touches does this to the cell
abbrev pub any_touch : {Touch Cell : Type 0} → (Touch → Cell → Bool) → List Touch → Cell → Bool
any_touch f [] c = false
any_touch f (t ∷ ts) c = f t c || any_touch f ts c

-- an operation of a transaction with what came out, and the time when it was done
pub record Entry (Op Out : Type 0) : Type 0 where
  pub transaction : ℕ
  pub op : Op
  pub out : Out
  pub time : ℕ

-- the entries, one after another
module _ {S Op Out : Type 0} (step : S → Op → Out × S) where
  -- the state after these entries
  abbrev pub run : S → List (Entry Op Out) → S
  run s [] = s
  run s (e ∷ es) = run (step s e.op).1 es

  -- each entry gives from here what is kept with it
  abbrev pub Replays : S → List (Entry Op Out) → Type 0
  Replays s [] = Unit {0}
  Replays s (e ∷ es) = ((step s e.op).0 ≡ e.out) × Replays (step s e.op).1 es

-- the touches of the one write no cell that those of the other cover
abbrev pub IsClearOf : {Touch Cell : Type 0} → (reads writes : Touch → Cell → Bool) → List Touch → List Touch → Type 0
IsClearOf {Touch} {Cell} reads writes xs ys = (c : Cell) → any_touch writes xs c ≡ true → any_touch reads ys c ≡ false

-- the cells that the one covers the other covers too, and likewise the cells that it writes
pub record IsHeldBy {Touch Cell : Type 0} (reads writes : Touch → Cell → Bool) (xs ys : List Touch) : Type 0 where
  pub reads_more : (c : Cell) → any_touch reads xs c ≡ true → any_touch reads ys c ≡ true
  pub writes_more : (c : Cell) → any_touch writes xs c ≡ true → any_touch writes ys c ≡ true

module _ {S Op Out Cell Touch : Type 0} (Value : Cell → Type 0) (step : S → Op → Out × S) (cell : S → (c : Cell) → Value c) (touches : S → Op → List Touch) (reads writes : Touch → Cell → Bool) where
  -- the states have the same in each cell that these touches cover
  abbrev pub Agree : List Touch → S → S → Type 0
  Agree ts s t = (c : Cell) → any_touch reads ts c ≡ true → cell s c ≡ cell t c

  -- a step changes only cells that it writes, and what it gives, changes and touches follows from the cells that it touches
  pub record HasFootprint : Type 0 where
    pub exact : (s t : S) → ((c : Cell) → cell s c ≡ cell t c) → s ≡ t
    pub read : (a : Touch) (c : Cell) → writes a c ≡ true → reads a c ≡ true
    pub frame : (s : S) (op : Op) (c : Cell) → any_touch writes (touches s op) c ≡ false → cell (step s op).1 c ≡ cell s c
    pub touched : (s t : S) (op : Op) → Agree (touches s op) s t → touches t op ≡ touches s op
    pub given : (s t : S) (op : Op) → Agree (touches s op) s t → (step t op).0 ≡ (step s op).0
    pub changed : (s t : S) (op : Op) → Agree (touches s op) s t → (c : Cell) → any_touch writes (touches s op) c ≡ true → cell (step t op).1 c ≡ cell (step s op).1 c

module _ {S Op Out Cell Touch : Type 0} (step : S → Op → Out × S) (touches : S → Op → List Touch) (reads writes : Touch → Cell → Bool) where
  -- each entry gives from here what is kept with it, and its transaction holds what it touches
  abbrev pub Held : (ℕ → List Touch) → S → List (Entry Op Out) → Type 0
  Held held s [] = Unit {0}
  Held held s (e ∷ es) = ((step s e.op).0 ≡ e.out) × IsHeldBy reads writes (touches s e.op) (held e.transaction) × Held held (step s e.op).1 es

-- different transactions hold nothing in conflict
abbrev pub AreCompatible : {Touch Cell : Type 0} → (reads writes : Touch → Cell → Bool) → (ℕ → List Touch) → Type 0
AreCompatible reads writes held = (t u : ℕ) → (t ≡ u → ⊥) → IsClearOf reads writes (held t) (held u)

-- these entries are of other transactions than t
abbrev pub AreOthers : {Op Out : Type 0} → ℕ → List (Entry Op Out) → Type 0
AreOthers t [] = Unit {0}
AreOthers t (e ∷ es) = (t ≡ e.transaction → ⊥) × AreOthers t es

-- what stays behind an entry that is left out is of other transactions: of each transaction an end is left out
abbrev pub LeavesEnds : {Op Out : Type 0} → (Entry Op Out → Bool) → List (Entry Op Out) → Type 0
LeavesEnds keep [] = Unit {0}
LeavesEnds keep (e ∷ es) = (keep e ≡ false → AreOthers e.transaction (filter keep es)) × LeavesEnds keep es
