-- Objects under names.
use Rattle.std.specs.Prelude.{ℕ, List}
use Rattle.std.specs.Ordering.{nat_cmp}
use Rattle.std.specs.Cmp.Lexicographic.{slice_cmp}
use Rattle.std.specs.FinMap.{FinMap}

-- items of one size, an array's contents
pub record Row : Type 0 where
  pub size : ℕ
  pub items : List (List ℕ)

-- values under keys, a table's contents
abbrev pub Entries : Type 0
Entries = FinMap (slice_cmp nat_cmp) (List ℕ)

pub data Object : Type 0 where
  Array : (row : Row) → Object
  Table : (entries : Entries) → Object
  Blob : (bytes : List ℕ) → Object

-- objects under names
abbrev pub Objects : Type 0
Objects = FinMap (slice_cmp nat_cmp) Object
