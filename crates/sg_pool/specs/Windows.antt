-- What windows hold.
use Rattle.std.specs.Prelude.{◌≡◌, ◌<◌, ◌≤◌, ℕ, Bool, false, Option, Some, None, List, [], length, get_or}
use Rattle.sg_pool.specs.declared.slot.Slot.{Slot}
use Rattle.sg_pool.specs.declared.windows.Marks.{Marks}
use Rattle.sg_pool.specs.Held.{page_in, since_of, AreApart, IsIndex}

-- what stands for the marks of a window that isn't there
abbrev pub no_marks : Marks
no_marks = record { last = 0; dirty = [] }

-- of the band in a window: the number of its last change, and whether a change that isn't on the disk wrote byte i
abbrev pub last_in : List Marks → Option ℕ → ℕ
last_in marks None = 0
last_in marks (Some w) = (get_or marks w no_marks).last

abbrev pub marked_in : List Marks → Option ℕ → ℕ → Bool
marked_in marks None i = false
marked_in marks (Some w) i = get_or (get_or marks w no_marks).dirty i false

-- THE WINDOWS AND WHAT THEY HOLD AGREE: no band is in two of them, each band is one of the store's, a window without a band has no change,
-- each has its marks, and the list by band number knows each band
pub record IsWindows (slots : List Slot) (index : List (Option ℕ)) (marks : List Marks) (next : ℕ) : Type 0 where
  pub apart : AreApart slots
  pub within : (w b : ℕ) → w < length slots → page_in slots w ≡ Some b → b < length index
  pub owned : (w : ℕ) → page_in slots w ≡ None → since_of slots (Some w) ≡ None
  pub found : IsIndex slots index
  pub marked : length marks ≡ length slots
  pub few : length slots ≤ 256
  pub next_there : next < length slots
