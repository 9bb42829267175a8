-- Where a log of page records can't be read on.
use Rattle.std.specs.Prelude.{◌≡◌, ◌⊎◌, ◌+◌, ◌≤◌, ℕ, Bool, List, [], ◌∷◌, ◌++◌, IsTrue, Result, Ok, Err}
use Rattle.sg_base.specs.Ends.{HasRisen}
use Rattle.sg_base.specs.declared.area.Area.{Area}
use Rattle.sg_disk.specs.Disk.{Bytes, View}
use Rattle.sg_record.specs.Records.{Record}
use Rattle.sg_log.specs.Formed.{IsFormed, AreFormed}
use Rattle.sg_log.specs.Frames.{LOG_END, gate_after, numbered_in}
use Rattle.sg_analysis.specs.Placed.{IsStray}
use Rattle.sg_analysis.specs.Standing.{AreInOrder}
use Rattle.sg_analysis.specs.declared.fault.AnalysisFault.{AnalysisFault}
use Rattle.sg_analysis.specs.declared.fault.AnalysisFault.TheVariants.{Disk, Damaged, Memory}

-- Behind these frames the gate is open, but no frame stands there whose records follow as in a formed log, or it ends too late.
pub record IsTorn (f : Bytes) (base at : ℕ) (frames : List (List Record)) : Type 0 where
  pub there : at ≡ gate_after 0 frames
  pub gate : f at ≡ 1
  pub none : (rs : List Record) → IsFormed f at rs → base + gate_after at (rs ∷ []) ≤ LOG_END → AreInOrder base (numbered_in base (frames ++ rs ∷ [])) → ⊥

-- These frames are the whole log, and an action began in the one with this gate that may not be without an end: one of a
-- transaction that doesn't go on, or the second one of the log.
pub record IsAmbiguous (f : Bytes) (base at : ℕ) (frames : List (List Record)) : Type 0 where
  pub closed : f (gate_after 0 frames) ≡ 1 → ⊥
  pub stray : IsStray base at frames

-- The log is damaged in the frame whose gate is at this offset: formed frames lead there, whose records follow one another as in a
-- formed log.
pub record IsDamagedAt (f : Bytes) (base at : ℕ) : Type 0 where
  pub frames : List (List Record)
  pub formed : AreFormed f 0 frames
  pub within : base + gate_after 0 frames ≤ LOG_END
  pub order : AreInOrder base (numbered_in base frames)
  pub cause : IsTorn f base at frames ⊎ IsAmbiguous f base at frames

-- an analysis fails only where the disk does, where the log is damaged, or for want of memory
abbrev pub AnalysisFails : Bool → Area → ℕ → View → View → AnalysisFault → Type 0
AnalysisFails told area base old new Disk = HasRisen old.faults new.faults
AnalysisFails told area base old new (Damaged at) = IsTrue told → IsDamagedAt (old.now area).seen base at
AnalysisFails told area base old new Memory = Unit {0}

-- no fault of the disk is passed over: except where `Disk` is answered, its count of faults is as it was
abbrev pub HeedsFaults : {T : Type 0} → Result T AnalysisFault → View → View → Type 0
HeedsFaults (Ok answer) old new = new.faults ≡ old.faults
HeedsFaults (Err Disk) old new = Unit {0}
HeedsFaults (Err (Damaged at)) old new = new.faults ≡ old.faults
HeedsFaults (Err Memory) old new = new.faults ≡ old.faults
