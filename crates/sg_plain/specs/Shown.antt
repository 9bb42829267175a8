-- The code's objects without where they lie in memory.
use Rattle.std.specs.Prelude.{ℕ, List, map}
use Rattle.sg_model.specs.Objects.{Object, Objects}
use Rattle.sg_model.specs.Objects.Object.{Array, Table, Blob}
use Rattle.std.specs.FinMap.{from_entries}
use Rattle.sg_plain.specs.declared.object.Object as code
use Rattle.sg_plain.specs.declared.object.Object.TheVariants as objects

abbrev pub shown : code.Object → Object
shown (objects.Array row) = Array row
shown (objects.Table entries) = Table entries
shown (objects.Blob bytes) = Blob bytes

abbrev pub objects_of : List (List ℕ × code.Object) → Objects
objects_of entries = from_entries (map (λ e. (e.0, shown e.1)) entries)
