-- The log of a store, read from the bytes of its disk, and where it is damaged.
use Rattle.std.specs.Prelude.{◌≡◌, ◌⊎◌, ◌≤◌, ◌+◌, ◌==◌, if◌then◌else◌, ℕ, List, Ok, Err, Some, None}
use Rattle.sg_base.specs.declared.area.Area.{Area}
use Rattle.sg_base.specs.declared.area.Area.TheVariants.{Home, Log0, Log1}
use Rattle.sg_disk.specs.Disk.{Bytes, State}
use Rattle.sg_gate.specs.Superblock.{superblock}
use Rattle.sg_gate.specs.declared.superblock.Super.{Super}
use Rattle.sg_gate.specs.declared.fault.GateFault.TheVariants as gates
use Rattle.sg_record.specs.Records.{Record}
use Rattle.sg_log.specs.Frames.{LOG_END, Frames, Numbered, HasRecords, gate_after}
use Rattle.sg_analysis.specs.Standing.{IsPageLog}
use Rattle.sg_analysis.specs.Damage as analysis
use Rattle.sg_places.specs.Asked.{first_outside}

-- where the log stands, by the superblock
abbrev pub area_of : Super → Area
area_of s = if s.log == 0 then Log0 else Log1

-- these frames are a whole log, whose first byte has the number base
pub record HasFrames (f : Bytes) (base : ℕ) (frames : List (List Record)) : Type 0 where
  pub stand : Frames f 0 frames
  pub within : base + gate_after 0 frames ≤ LOG_END

-- THE LOG that a superblock says was read: its area has these records, up to a closed gate with this number; they are a formed log of
-- page records; and each changes a page or a band of the store, if any
pub record IsLogRead (s : State) (super : Super) (gate : ℕ) : Type 0 where
  pub records : List Numbered
  pub says : superblock (s Home).seen ≡ Ok super
  pub has : HasRecords (s (area_of super)).seen super.base gate records
  pub formed : IsPageLog super.base records
  pub inside : first_outside super.pages super.bands 0 has.frames ≡ None

-- THE LOG OF A STORE, as its superblock and its area have it
pub record HasLog (s : State) : Type 0 where
  pub super : Super
  pub gate : ℕ
  pub log : IsLogRead s super gate

-- a record of the frame whose gate is at this offset is of a page or a band that the store doesn't have, and of no frame before
pub record IsOutsideAt (f : Bytes) (s : Super) (at : ℕ) : Type 0 where
  pub frames : List (List Record)
  pub has : HasFrames f s.base frames
  pub outside : first_outside s.pages s.bands 0 frames ≡ Some at

-- the log in these bytes is damaged in the frame whose gate is at this offset
abbrev pub LogIsDamaged : Bytes → Super → ℕ → Type 0
LogIsDamaged f s at = analysis.IsDamagedAt f s.base at ⊎ IsOutsideAt f s at

-- the log that the superblock says is damaged there
pub record IsLogDamagedAt (s : State) (area : Area) (at : ℕ) : Type 0 where
  pub super : Super
  pub says : superblock (s Home).seen ≡ Ok super
  pub there : area ≡ area_of super
  pub cause : LogIsDamaged (s area).seen super at

-- THE STORE IS DAMAGED at this offset of an area: a field of the superblock is out of its range, or the log is damaged
abbrev pub IsDamagedAt : State → Area → ℕ → Type 0
IsDamagedAt s area at = ((area ≡ Home) × (superblock (s Home).seen ≡ Err (gates.Damaged at))) ⊎ IsLogDamagedAt s area at
