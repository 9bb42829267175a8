-- What a verb, the undoing of one, and the freeing of a tombstone leave of a reading.
use Rattle.std.specs.Prelude.{◌≡◌, ◌≢◌, ℕ, ◌==◌, cond, Bool, true, false, ◌&&◌, List, [], ◌∷◌, Option, Some, None}
use Rattle.std.specs.FinMap.{get}
use Rattle.sg_serial.specs.Locks.{Touch}
use Rattle.sg_serial.specs.Machine.{any_touch}
use Rattle.sg_ops.specs.Table.{Table as Operations}
use Rattle.sg_model.specs.Touches.{Part, Resource, Reach, covers_part, reach_of, touches}
use Rattle.sg_model.specs.Touches.Part.{Body, Buried}
use Rattle.sg_model.specs.Touches.Region.{Just}
use Rattle.sg_model.specs.Touches.Resource.{Of}
use Rattle.sg_model.specs.Verb.{Verb}
use Rattle.sg_model.specs.Verb.Op.{On}
use Rattle.sg_reading.specs.Reading.{Around, Thing, Tomb, Reading, around_of, objects, plain, slot}
use Rattle.sg_reading.specs.Back.{Undoing}
use Rattle.sg_reading.specs.Back.Undoing.{WasMake, WasDrop}
use Rattle.sg_reading.specs.Did.{Did, slot_after}

-- This stands under a name, and these tombstones of it, and all that stands under other names is as before
pub record Leaves (name : List ℕ) (th : Option Thing) (buried : ℕ → Option Tomb) (old new : Reading) : Type 0 where
  pub thing : get new.things name ≡ th
  pub things : (other : List ℕ) → other ≢ name → get new.things other ≡ get old.things other
  pub tomb : (root : ℕ) → get new.tombs (root ∷ name) ≡ buried root
  pub tombs : (root : ℕ) (other : List ℕ) → other ≢ name → get new.tombs (root ∷ other) ≡ get old.tombs (root ∷ other)

-- a verb as it was done: by this transaction, with this root page for an object that it made, and these bands taken
abbrev pub done_by : Reading → (by : ℕ) → (name : List ℕ) → Verb → (root : ℕ) → (bands : List ℕ) → Did
done_by r by name verb root bands = record { op = On name verb; touches = touches (objects r) (On name verb); by = by; root = root; bands = bands }

-- the part is in a region that is written
abbrev pub writes_it : Reach → Part → Bool
writes_it r p = r.write && covers_part r.region p

-- it took bands only where it writes a body
abbrev pub TakesForBody : Verb → Option Thing → List ℕ → Type 0
TakesForBody verb thing bands = any_touch writes_it (reach_of verb (plain thing)) Body ≡ false → bands ≡ []

-- What an accepted verb leaves: the model's slot, with the bands that it took
pub record IsLeft (t : Operations) (by : ℕ) (name : List ℕ) (verb : Verb) (old new : Reading) : Type 0 where
  pub root : ℕ
  pub bands : List ℕ
  pub none : TakesForBody verb (slot old name).thing bands
  pub leaves : Leaves name (slot_after t (done_by old by name verb root bands) verb (slot old name)).thing (slot_after t (done_by old by name verb root bands) verb (slot old name)).buried old new

-- the tombstones of a name without the one that was raised
abbrev pub left_buried : Option ℕ → (ℕ → Option Tomb) → ℕ → Option Tomb
left_buried None buried r = buried r
left_buried (Some root) buried r = cond (root == r) None (buried r)

-- the cell of one tombstone of a name
abbrev pub tomb_cell : (name : List ℕ) → (root : ℕ) → List (Touch Resource)
tomb_cell name root = record { what = Of name (Just (Buried root)); write = true } ∷ []

-- what stands around the object of a name
abbrev pub around : Option Thing → Option Around
around None = None
around (Some th) = Some (around_of th)

-- the note changes an object, which neither comes nor goes
abbrev pub IsOfObject : Undoing → Type 0
IsOfObject WasMake = ⊥
IsOfObject (WasDrop root) = ⊥
IsOfObject u = Unit {0}
