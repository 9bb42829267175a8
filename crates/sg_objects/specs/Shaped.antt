-- How far a table has grown after a verb: a put of a new key splits a bucket where that is due, and a removal none.
use Rattle.std.specs.Prelude.{◌≡◌, ℕ, Bool, true, List, Ok}
use Rattle.sg_catalog.specs.declared.row.ObjectKind.TheVariants as kinds
use Rattle.sg_hash.specs.Calls.{IsPut}
use Rattle.sg_hash.specs.Table.{HashTable, IsHashTable}
use Rattle.sg_model.specs.Verb.{Verb, Outcome}
use Rattle.sg_model.specs.Verb.Verb.{Put, Del}
use Rattle.sg_space.specs.View.{View, Space}
use Rattle.sg_contents.specs.Standing.{Contents, IsContents}
use Rattle.sg_contents.specs.Standing.Body.{ATable}
use Rattle.sg_objects.specs.Found.{IsAt}

-- the table of the name, after the verb
abbrev pub ShapesTable : Verb → Outcome → (name : List ℕ) → Contents → (new : Space) → Type 0
ShapesTable (Put key value) (Ok reply) name s new = (root : ℕ) (a : HashTable) → IsAt kinds.Table s name root → s.body root ≡ ATable a → (fresh : Bool) × (a' : HashTable) × IsHashTable new.pages.at root a' × IsPut key value true fresh a a'
ShapesTable (Del key) (Ok reply) name s new = (root : ℕ) (a : HashTable) → IsAt kinds.Table s name root → s.body root ≡ ATable a → (a' : HashTable) × IsHashTable new.pages.at root a' × (a'.shape ≡ a.shape)
ShapesTable verb outcome name s new = Unit {0}

-- of all contents that there were, and of which it could be asked
pub record Shapes (v w : View) (Can : Contents → Type 0) (name : List ℕ) (verb : Verb) (outcome : Outcome) : Type 0 where
  pub shaped : v.Told → (s : Contents) → IsContents v.space s → Can s → ShapesTable verb outcome name s w.space
