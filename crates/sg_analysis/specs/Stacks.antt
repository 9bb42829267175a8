-- Numbers that are kept of each transaction, as stacks.
use Rattle.std.specs.Prelude.{◌≡◌, ℕ, ◌==◌, nat_eq, if◌then◌else◌, List, [], option_map, unwrap_or}
use Rattle.std.specs.HashMap.{get}
use Rattle.sg_analysis.specs.Analysis.{oldest_first}
use Rattle.sg_analysis.specs.declared.stacks.Stacks.{Stacks}

-- what is kept of a transaction, the oldest first
abbrev pub numbers_of : Stacks → ℕ → List ℕ
numbers_of s transaction = unwrap_or (option_map (λ v. v.items) (get nat_eq s.numbers transaction)) []

-- these are kept of it, of which the newest stands first
abbrev pub Keeps : Stacks → ℕ → List ℕ → Type 0
Keeps s transaction numbers = numbers_of s transaction ≡ oldest_first numbers

-- what is kept of this transaction becomes this, and what is kept of others stays
abbrev pub Becomes : (old new : Stacks) → ℕ → (List ℕ → List ℕ) → Type 0
Becomes old new transaction change = (t : ℕ) (numbers : List ℕ) → Keeps old t numbers → Keeps new t (if transaction == t then change numbers else numbers)
