-- How much is kept of a line.
use Rattle.std.specs.Prelude.{ℕ}

-- the most bytes that are kept of a line: one more than a line may have
abbrev pub MOST_KEPT : ℕ
MOST_KEPT = 32769
