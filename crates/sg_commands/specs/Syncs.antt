-- The moments before and behind the syncs of all areas.
use Rattle.std.specs.Prelude.{◌≡◌, ◌⊎◌, ◌+◌, ◌≤◌, []}
use Rattle.sg_base.specs.Ends.{HasRisen}
use Rattle.sg_base.specs.declared.area.Area.{Area}
use Rattle.sg_disk.specs.Disk as disk

-- At this later moment all areas have been synced, and nothing else was done: reads give what they gave, and nothing is pending. At each
-- moment until then each image is one of those at the beginning
pub record AreSynced (v synced : disk.View) : Type 0 where
  pub seen : (a : Area) → (synced.now a).seen ≡ (v.now a).seen
  pub settled : (a : Area) → (synced.now a).pending ≡ []
  pub before : disk.LeavesOnly v synced (disk.Leaves v.now)

-- The moments from v to w split where all areas have been synced: from then on each image has P
pub record SplitsAt (synced v w : disk.View) (P : disk.Image → Type 0) : Type 0 where
  pub until : AreSynced v synced
  pub behind : disk.LeavesOnly synced w P

-- not all of them had been synced: no call was made, or three at most, the last of which failed
pub record IsUnsynced (v w : disk.View) : Type 0 where
  pub calls : w.calls ≤ v.calls + 3
  pub failed : (w.calls ≡ v.calls) ⊎ HasRisen v.faults w.faults
  pub moments : disk.LeavesOnly v w (disk.Leaves v.now)
