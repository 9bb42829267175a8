-- When a call that only reads refuses a store.
use Rattle.std.specs.Prelude.{◌≡◌, ◌≢◌, ◌⊎◌, ℕ, Bool, IsTrue, Some, None, Err, List}
use Rattle.sg_base.specs.Ends.{HasRisen}
use Rattle.sg_base.specs.declared.area.Area.{Area}
use Rattle.sg_base.specs.declared.area.Area.TheVariants.{Home}
use Rattle.sg_disk.specs.Disk.{View}
use Rattle.sg_ops.specs.Table.{Table}
use Rattle.sg_record.specs.Records.{Record}
use Rattle.sg_log.specs.Frames.{Frames, numbered_in}
use Rattle.sg_log.specs.Formed as log
use Rattle.sg_analysis.specs.Damage as analysis
use Rattle.sg_places.specs.Asked.{Undone, first_outside, first_unknown}
use Rattle.sg_gate.specs.declared.fault.GateFault.{GateFault}
use Rattle.sg_gate.specs.declared.fault.GateFault.TheVariants as gates
use Rattle.sg_log.specs.declared.fault.LogFault.{LogFault}
use Rattle.sg_log.specs.declared.fault.LogFault.TheVariants as faults
use Rattle.sg_analysis.specs.declared.fault.AnalysisFault.{AnalysisFault}
use Rattle.sg_analysis.specs.declared.fault.AnalysisFault.TheVariants as causes
use Rattle.sg_find.specs.declared.fault.OpenFault.{OpenFault}
use Rattle.sg_find.specs.declared.fault.OpenFault.TheVariants.{Disk, Memory, NotAStore, Damaged, UnknownOperation}

-- the log can't be read only where the disk fails, for want of memory, or where it is damaged
abbrev pub LogRefused : (told : Bool) → Area → (base : ℕ) → (old new : View) → OpenFault → Type 0
LogRefused told area base old new Disk = HasRisen old.faults new.faults
LogRefused told area base old new Memory = Unit {0}
LogRefused told area base old new NotAStore = ⊥
LogRefused told area base old new (Damaged there at) = (there ≡ area) × (IsTrue told → log.IsDamagedAt (old.now area).seen base at ⊎ analysis.IsDamagedAt (old.now area).seen base at)
LogRefused told area base old new (UnknownOperation code) = ⊥

-- its stretches are refused only where the disk fails, or where a record is of a page or a band that the store doesn't have, with the first
-- such frame
abbrev pub StretchesRefused : Area → (pages bands : ℕ) → List (List Record) → (old new : View) → OpenFault → Type 0
StretchesRefused area pages bands frames old new Disk = HasRisen old.faults new.faults
StretchesRefused area pages bands frames old new Memory = ⊥
StretchesRefused area pages bands frames old new NotAStore = ⊥
StretchesRefused area pages bands frames old new (Damaged there at) = (there ≡ area) × (first_outside pages bands 0 frames ≡ Some at)
StretchesRefused area pages bands frames old new (UnknownOperation code) = ⊥

-- the refusal of a log and of an analysis
abbrev pub of_log : Area → LogFault → OpenFault
of_log area faults.Disk = Disk
of_log area faults.LogEnd = Disk
of_log area (faults.Damaged at) = Damaged area at
of_log area faults.Memory = Memory

abbrev pub of_analysis : Area → AnalysisFault → OpenFault
of_analysis area causes.Disk = Disk
of_analysis area (causes.Damaged at) = Damaged area at
of_analysis area causes.Memory = Memory

-- and of a gate
abbrev pub of_gate : GateFault → OpenFault
of_gate gates.Disk = Disk
of_gate gates.NotAStore = NotAStore
of_gate (gates.Damaged at) = Damaged Home at

-- the text of a log is refused only so, or else where a code isn't registered, with the first such
abbrev pub TextRefused : Table → Area → (pages bands base point : ℕ) (undone : Undone) → List (List Record) → (old new : View) → OpenFault → Type 0
TextRefused t area pages bands base point undone frames old new Disk = HasRisen old.faults new.faults
TextRefused t area pages bands base point undone frames old new Memory = ⊥
TextRefused t area pages bands base point undone frames old new NotAStore = ⊥
TextRefused t area pages bands base point undone frames old new (Damaged there at) = (there ≡ area) × (first_outside pages bands 0 frames ≡ Some at)
TextRefused t area pages bands base point undone frames old new (UnknownOperation code) = (first_outside pages bands 0 frames ≡ None) × (first_unknown t point undone (numbered_in base frames) ≡ Some code)
