-- Bands in windows go home.
use Rattle.std.specs.Prelude.{◌≡◌, ◌⊎◌, ◌<◌, ◌≤◌, ℕ, true, false, Some, None, List, [], length, get_or}
use Rattle.sg_base.specs.declared.area.Area.TheVariants.{Home}
use Rattle.sg_base.specs.declared.page.TheConstants.{BAND_SIZE}
use Rattle.sg_disk.specs.Disk.{Part, State}
use Rattle.sg_gate.specs.Batch.{IsReady}
use Rattle.sg_window.specs.Runs.{IsSameBut}
use Rattle.sg_pool.specs.declared.windows.Windows.{Windows}
use Rattle.sg_pool.specs.Held.{page_in, since_of}
use Rattle.sg_pool.specs.Windows.{no_marks, marked_in}
use Rattle.sg_pool.specs.Units.{Geometry, band_byte}

-- this byte of the home area is one of a band in one of the windows from `from` on and below `to`, and a change that isn't on the disk wrote it
pub record IsDirty (g : Geometry) (wins : Windows) (from to at : ℕ) : Type 0 where
  pub window : ℕ
  pub band : ℕ
  pub byte : ℕ
  pub low : from ≤ window
  pub high : window < to
  pub there : window < length wins.slots.items
  pub holds : page_in wins.slots.items window ≡ Some band
  pub inside : byte < BAND_SIZE
  pub marked : marked_in wins.marks.items (Some window) byte ≡ true
  pub is : at ≡ band_byte g band byte

-- those bytes have been written, and no other byte
pub record AreBandsWritten (g : Geometry) (wins : Windows) (windows : List (List ℕ)) (from to : ℕ) (s t : State) : Type 0 where
  pub there : (w b k : ℕ) → from ≤ w → w < to → page_in wins.slots.items w ≡ Some b → k < BAND_SIZE → marked_in wins.marks.items (Some w) k ≡ true → (t Home).seen (band_byte g b k) ≡ get_or (get_or windows w []) k 0
  pub rest : IsSameBut s t (IsDirty g wins from to)

-- and they are on the disk, which is ready for a batch
pub record AreBandsHome (g : Geometry) (wins : Windows) (windows : List (List ℕ)) (from to : ℕ) (p q : Part) : Type 0 where
  pub there : (w b k : ℕ) → from ≤ w → w < to → page_in wins.slots.items w ≡ Some b → k < BAND_SIZE → marked_in wins.marks.items (Some w) k ≡ true → q.seen (band_byte g b k) ≡ get_or (get_or windows w []) k 0
  pub rest : (i : ℕ) → (IsDirty g wins from to i → ⊥) → q.seen i ≡ p.seen i
  pub ready : IsReady q

-- no byte of a band in these windows has a change that isn't on the disk; the windows hold the same bands, and the others are as they were
pub record AreCleared (old new : Windows) (from to : ℕ) : Type 0 where
  pub count : length new.slots.items ≡ length old.slots.items
  pub numbers : (w : ℕ) → page_in new.slots.items w ≡ page_in old.slots.items w
  pub cleared : (w : ℕ) → from ≤ w → w < to → since_of new.slots.items (Some w) ≡ None
  pub unmarked : (w k : ℕ) → from ≤ w → w < to → marked_in new.marks.items (Some w) k ≡ false
  pub others : (w : ℕ) → (w < from) ⊎ (to ≤ w) → since_of new.slots.items (Some w) ≡ since_of old.slots.items (Some w)
  pub other_marks : (w : ℕ) → (w < from) ⊎ (to ≤ w) → get_or new.marks.items w no_marks ≡ get_or old.marks.items w no_marks
