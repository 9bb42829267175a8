-- Cells that name pages or bands.
use Rattle.std.specs.Prelude.{ℕ, List, Option, Some, None}
use Rattle.byteorder.specs.Endian.{little_bytes}

-- the cell that names one, where there is one
abbrev pub link_cell : Option ℕ → Option (List ℕ)
link_cell None = None
link_cell (Some n) = Some (little_bytes 4 n)
