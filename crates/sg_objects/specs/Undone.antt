-- What undoes a verb in all that stands in pages and bands.
use Rattle.std.specs.Prelude.{◌≡◌, ℕ, List, [], Option, Some}
use Rattle.sg_ops.specs.Table.{Table as Operations}
use Rattle.sg_space.specs.View.{View, Space}
use Rattle.sg_reading.specs.Reading.{Thing, slot}
use Rattle.sg_reading.specs.Back.{Undoing, back, raises}
use Rattle.sg_contents.specs.Standing.{Contents, IsContents}
use Rattle.sg_contents.specs.Meaning.{reading, IsCounted}
use Rattle.sg_objects.specs.Done.{Leaves}
use Rattle.sg_objects.specs.Needs.{needed_back, HasTaken}
pub use Rattle.sg_reading.specs.Left.{left_buried}

-- the note can be undone, where no before bytes go with it
pub record CanUndo (t : Operations) (u : Undoing) (name : List ℕ) (s : Contents) : Type 0 where
  pub th : Option Thing
  pub possible : back t u [] (slot (reading s) name) ≡ Some th

-- THE NOTE IS UNDONE: what stands under the name is what the model says, and all else is as before
pub record IsUndone (u : Undoing) (name : List ℕ) (old new : Space) (s : Contents) (th : Option Thing) (s' : Contents) : Type 0 where
  pub contents : IsContents new s'
  pub leaves : Leaves name th (left_buried (raises u) (slot (reading s) name).buried) (reading s) (reading s')
  pub peak : (reading s').peak ≡ (reading s).peak
  pub counted : IsCounted old s → IsCounted new s'
  pub taken : HasTaken (needed_back u) old new

pub record Undoes (v w : View) (t : Operations) (u : Undoing) (name : List ℕ) : Type 0 where
  pub told : v.Told → w.Told
  pub done : v.Told → (s : Contents) → IsContents v.space s → (th : Option Thing) → back t u [] (slot (reading s) name) ≡ Some th → (s' : Contents) × IsUndone u name v.space w.space s th s'
