-- Lists of bytes.
use Rattle.std.specs.Prelude.{ℕ, ◌<◌, List, All}

-- each element is a byte
abbrev pub IsBytes : List ℕ → Type 0
IsBytes xs = All (λ x. x < 256) xs
