-- How far a table has grown after an undoing: where an entry was taken out again or put back no bucket is split, and none is joined to another.
use Rattle.std.specs.Prelude.{◌≡◌, ℕ, List}
use Rattle.sg_catalog.specs.declared.row.ObjectKind.TheVariants as kinds
use Rattle.sg_hash.specs.Table.{HashTable, IsHashTable}
use Rattle.sg_reading.specs.Back.{Undoing}
use Rattle.sg_reading.specs.Back.Undoing.{WasPut, WasOver}
use Rattle.sg_space.specs.View.{View, Space}
use Rattle.sg_contents.specs.Standing.{Contents, IsContents}
use Rattle.sg_contents.specs.Standing.Body.{ATable}
use Rattle.sg_objects.specs.Found.{IsAt}

-- the table of the name is at its root, with as many buckets as it had
abbrev pub StaysGrown : (name : List ℕ) → Contents → (new : Space) → Type 0
StaysGrown name s new = (root : ℕ) (a : HashTable) → IsAt kinds.Table s name root → s.body root ≡ ATable a → (a' : HashTable) × IsHashTable new.pages.at root a' × (a'.shape ≡ a.shape)

-- the table of the name, after the undoing of a put or of a removal
abbrev pub ShapesBack : Undoing → (name : List ℕ) → Contents → (new : Space) → Type 0
ShapesBack (WasPut key) name s new = StaysGrown name s new
ShapesBack (WasOver key value) name s new = StaysGrown name s new
ShapesBack u name s new = Unit {0}

-- of all contents that there were
pub record Reshapes (v w : View) (u : Undoing) (name : List ℕ) : Type 0 where
  pub shaped : v.Told → (s : Contents) → IsContents v.space s → ShapesBack u name s w.space
