-- Areas that were synced, and images that are read.
use Rattle.std.specs.Prelude.{◌≡◌, ◌≤◌, ◌+◌, ◌==◌, if◌then◌else◌, ℕ, max, List, []}
use Rattle.sg_base.specs.Ends.{HasRisen}
use Rattle.sg_base.specs.declared.area.Area.TheVariants.{Log0, Log1}
use Rattle.sg_gate.specs.declared.superblock.Super.{Super}
use Rattle.sg_base.specs.declared.area.Area.{Area}
use Rattle.sg_disk.specs.Disk.{Bytes, Image, State, View, Leaves, LeavesOnly}
use Rattle.sg_log.specs.Frames.{Numbered, HasRecords}
use Rattle.sg_analysis.specs.Sights.{last_checkpoint}
use Rattle.sg_analysis.specs.Analysis.{estimate_or}

-- each area reads as before, and nothing of it is pending
pub record AreSynced (s t : State) : Type 0 where
  pub seen : (a : Area) → (t a).seen ≡ (s a).seen
  pub settled : (a : Area) → (t a).pending ≡ []

-- NOT ALL AREAS HAD BEEN SYNCED: three calls were made at most, the last of which failed, and a crash leaves what it could have left before
pub record IsUnsynced (v w : View) : Type 0 where
  pub calls : w.calls ≤ v.calls + 3
  pub failed : HasRisen v.faults w.faults
  pub moments : LeavesOnly v w (Leaves v.now)

-- THERE IS A MOMENT AT WHICH ALL AREAS HAD BEEN SYNCED, and nothing else was done. Until then a crash leaves what it could have left before, and of
-- what comes behind it this holds
pub record SplitsAtSync (v : View) (Behind : View → Type 0) : Type 0 where
  pub mid : View
  pub synced : AreSynced v.now mid.now
  pub before : LeavesOnly v mid (Leaves v.now)
  pub behind : Behind mid

-- THE IMAGE THAT READS GIVE
abbrev pub reads : View → Image
reads v a = (v.now a).seen

-- THE REDO POINT of a log whose first byte has the number base: the later of that and of what the last checkpoint estimates
abbrev pub redo_point : (base : ℕ) → List Numbered → ℕ
redo_point base ns = max base (estimate_or base (last_checkpoint ns))

-- where the log stands, by the superblock
abbrev pub log_area : Super → Area
log_area s = if s.log == 0 then Log0 else Log1

-- the area holds a log: frames of records up to a closed gate
pub record HasLog (f : Bytes) (base : ℕ) : Type 0 where
  pub gate : ℕ
  pub records : List Numbered
  pub has : HasRecords f base gate records
