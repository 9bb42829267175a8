-- How far a log was read, and what was kept of it.
use Rattle.std.specs.Prelude.{◌≡◌, ◌+◌, ◌*◌, ◌≤◌, ℕ, min, Bool, true, IsTrue, List, length}
use Rattle.sg_base.specs.declared.area.Area.{Area}
use Rattle.sg_disk.specs.Disk.{Bytes, View, FULL}
use Rattle.sg_record.specs.Records.{Record}
use Rattle.sg_log.specs.Formed.{AreFormed}
use Rattle.sg_log.specs.Frames.{LOG_END, Frames, Numbered, gate_after, numbered_in}
use Rattle.sg_log.specs.Reads.{OnlyReads}
use Rattle.sg_recovery.specs.Chains.{next_lsn}
use Rattle.sg_analysis.specs.Sights.{steps_of}
use Rattle.sg_analysis.specs.Placed.{AreInFrames}
use Rattle.sg_analysis.specs.Standing.{all_stand}
use Rattle.sg_analysis.specs.Rows.{Knows}
use Rattle.sg_analysis.specs.declared.scan.Scan.{Scan}

-- formed frames whose records may follow lead to an offset, and so many calls read them
pub record LeadTo (f : Bytes) (base at : ℕ) (s : Scan) (before now : ℕ) : Type 0 where
  pub frames : List (List Record)
  pub formed : AreFormed f 0 frames
  pub there : at ≡ gate_after 0 frames
  pub stand : all_stand base (numbered_in base frames) ≡ true
  pub knows : Knows s base (numbered_in base frames)
  pub low : next_lsn (steps_of (numbered_in base frames)) ≤ base + at + 5
  pub placed : AreInFrames base frames s.unended.actions.items
  pub calls : min (now + 1) FULL ≡ min (before + 1 + 2 * length frames) FULL

-- a walk over the frames of an area, so far
pub record IsWalked (told : Bool) (area : Area) (base at : ℕ) (old new : View) (s : Scan) : Type 0 where
  pub within : base + at ≤ LOG_END
  pub reads : OnlyReads told old new
  pub quiet : new.faults ≡ old.faults
  pub kept : (ns : List Numbered) × Knows s base ns × (next_lsn (steps_of ns) ≤ base + at + 5)
  pub lead : IsTrue told → LeadTo (old.now area).seen base at s old.calls new.calls

-- the whole log was read
pub record HasFound (f : Bytes) (base : ℕ) (s : Scan) (before now : ℕ) : Type 0 where
  pub frames : List (List Record)
  pub has : Frames f 0 frames
  pub within : base + gate_after 0 frames ≤ LOG_END
  pub stand : all_stand base (numbered_in base frames) ≡ true
  pub knows : Knows s base (numbered_in base frames)
  pub placed : AreInFrames base frames s.unended.actions.items
  pub calls : now ≡ min (before + 1 + 2 * length frames) FULL

pub record IsFound (told : Bool) (area : Area) (base : ℕ) (old new : View) (s : Scan) : Type 0 where
  pub quiet : new.faults ≡ old.faults
  pub kept : (ns : List Numbered) × Knows s base ns
  pub found : IsTrue told → HasFound (old.now area).seen base s old.calls new.calls
