-- What the fields of an array stand for.
use Rattle.std.specs.Prelude.{◌≡◌, ◌≤◌, ◌*◌, length}
use Rattle.std.specs.Simd.{first_chunks}
use Rattle.sg_plain.specs.declared.array.Array.TheInside.{Inside}
use Rattle.sg_model.specs.Objects.{Row}

-- its items stand one behind another
abbrev pub row_of : Inside → Row
row_of a = record { size = a.size; items = first_chunks a.size a.count a.bytes.items }

-- the bytes are those of so many items of the item size, which is at most 256
pub record IsRow (a : Inside) : Type 0 where
  pub small : a.size ≤ 256
  pub whole : length a.bytes.items ≡ a.count * a.size
