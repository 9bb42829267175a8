-- What is left of a workload, and a call that writes the first line of that.
use Rattle.std.specs.Prelude.{◌≡◌, ℕ, List, ◌∷◌, ◌++◌, drop, codes, Option}
use Rattle.sg_base.specs.Ends.{Takes, TakesFront}
use Rattle.sg_workload.specs.declared.workload.Gen.{Gen}
use Rattle.sg_workload.specs.Lines.{opening, drawn_lines}

-- the lines that are left
abbrev pub lines_left : Gen → List (List ℕ)
lines_left gen = drop gen.begun opening ++ drawn_lines gen.left gen.live gen.random

-- the first of the lines was written, and the others are left
abbrev pub WritesFirst : List (List ℕ) → List (List ℕ) → Option (List ℕ) → Option (List ℕ) → Type 0
WritesFirst lines rest before after = (line : List ℕ) × (lines ≡ line ∷ rest) × Takes before (line ++ codes "\n") after

-- a front of the first of the lines was written, and the others are left
abbrev pub CutsFirst : List (List ℕ) → List (List ℕ) → Option (List ℕ) → Option (List ℕ) → Type 0
CutsFirst lines rest before after = (line : List ℕ) × (lines ≡ line ∷ rest) × TakesFront before (line ++ codes "\n") after
