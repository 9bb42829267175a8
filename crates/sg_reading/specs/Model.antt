-- A log whose pages are read as readings.
use Rattle.std.specs.Prelude.{ℕ, Bool, true, false, not, List, Option, Some}
use Rattle.sg_serial.specs.Machine.{any_touch}
use Rattle.sg_serial.specs.Locks.{Touch, reads, writes}
use Rattle.sg_ops.specs.Table.{Table as Operations}
use Rattle.sg_model.specs.Objects.{Objects}
use Rattle.sg_model.specs.Step.{step}
use Rattle.sg_model.specs.Touches.{Part, Cell, Resource, covers}
use Rattle.sg_model.specs.Touches.Part.{Buried}
use Rattle.sg_recovery.specs.Cells.{Cells}
use Rattle.sg_reading.specs.Reading.{Reading, objects, Shown, at, Le}
use Rattle.sg_reading.specs.Back.{Undoing, UndoNote, Before, unstep, note_touches, inside}
use Rattle.sg_reading.specs.Back.Undoing.{WasOver}
use Rattle.sg_reading.specs.Did.{Did, IsAt, result}

-- What readings are taken of: states of pages and bands, changes of them with what takes each off, the before bytes that
-- changes hold, and how many pages are free with a reading
pub record Ground : Type 1 where
  pub X : Type 0
  pub C : Type 0
  pub apply : X → C → X
  pub fits : X → C → Bool
  pub inverse : C → C
  pub reading : X → Option Reading
  -- of segment records on bands that aren't the map's
  pub befores : List C → List Before
  pub free : Reading → ℕ

-- pages that are the readings themselves
abbrev pub bare_ground : Ground
bare_ground = record { X = Reading; C = Before; apply = λ x c. x; fits = λ x c. true; inverse = λ c. c; reading = λ x. Some x; befores = λ cs. cs; free = λ o. 0 }

abbrev pub is_tomb : Part → Bool
is_tomb (Buried r) = true
is_tomb other = false

-- an entry that is put back may want a page of its bucket; no other note wants one
abbrev pub wants_page : Undoing → Bool
wants_page (WasOver key value) = true
wants_page other = false

-- THE CELLS of readings
abbrev pub model_cells : Operations → Ground → Cells
model_cells t g = record {
  X = g.X;
  C = g.C;
  O = Reading;
  S = Objects;
  N = UndoNote;
  V = Did;
  K = Cell;
  A = λ c. Shown c.part;
  W = List (Touch Resource);
  apply = g.apply;
  fits = g.fits;
  inverse = g.inverse;
  reading = g.reading;
  unstep = λ o n cs. unstep t o n (g.befores cs);
  free = g.free;
  wants = λ n. wants_page n.undoes;
  objects = objects;
  step = λ s d. (step t s d.op).1;
  at = at;
  seen = λ c. not (is_tomb c.part);
  Le = λ c. Le c.part;
  has = λ w c. any_touch (writes covers) w c;
  inside = inside;
  touched = λ o n cs. note_touches o n;
  reads = λ d c. any_touch (reads covers) d.touches c;
  writes = λ d c. any_touch (writes covers) d.touches c;
  IsAt = IsAt;
  result = result t;
}
