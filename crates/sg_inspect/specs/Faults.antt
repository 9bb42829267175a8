-- When a log isn't listed, and what stays of it.
use Rattle.std.specs.Prelude.{◌≡◌, ◌≢◌, ◌⊎◌, ℕ, Bool, IsTrue, List, Option, Some, Result, Ok, Err}
use Rattle.sg_base.specs.Ends.{HasRisen, TakesFront}
use Rattle.sg_base.specs.declared.area.Area.{Area}
use Rattle.sg_base.specs.declared.area.Area.TheVariants.{Home}
use Rattle.sg_disk.specs.Disk.{State, View}
use Rattle.sg_record.specs.Records.{Record}
use Rattle.sg_gate.specs.declared.superblock.Super.{Super}
use Rattle.sg_gate.specs.declared.fault.GateFault.{GateFault}
use Rattle.sg_gate.specs.declared.fault.GateFault.TheVariants as gates
use Rattle.sg_log.specs.declared.fault.LogFault.{LogFault}
use Rattle.sg_log.specs.declared.fault.LogFault.TheVariants as logs
use Rattle.sg_analysis.specs.declared.fault.AnalysisFault.{AnalysisFault}
use Rattle.sg_analysis.specs.declared.fault.AnalysisFault.TheVariants as causes
use Rattle.sg_places.specs.Asked.{first_outside}
use Rattle.sg_inspect.specs.Listing.{listing}
use Rattle.sg_inspect.specs.Logs.{HasFrames, HasLog, LogIsDamaged, IsDamagedAt, area_of}
use Rattle.sg_log.specs.Formed.{IsWhole}
use Rattle.sg_inspect.specs.declared.fault.InspectFault.{InspectFault}
use Rattle.sg_inspect.specs.declared.fault.InspectFault.TheVariants.{Disk, Sink, NotAStore, Damaged, Memory}

-- the fault of a superblock that can't be read
abbrev pub of_gate : GateFault → InspectFault
of_gate gates.Disk = Disk
of_gate gates.NotAStore = NotAStore
of_gate (gates.Damaged at) = Damaged Home at

-- that of a frame
abbrev pub of_log : Area → LogFault → InspectFault
of_log area logs.Disk = Disk
of_log area logs.LogEnd = Disk
of_log area (logs.Damaged at) = Damaged area at
of_log area logs.Memory = Memory

-- and that of a log
abbrev pub of_analysis : Area → AnalysisFault → InspectFault
of_analysis area causes.Disk = Disk
of_analysis area (causes.Damaged at) = Damaged area at
of_analysis area causes.Memory = Memory

-- Why a log isn't listed. The disk failed, which on a disk that doesn't tell may also say that it read otherwise than before; the sink
-- failed; the gates of both slots are closed; the store is damaged there; or there was no memory.
abbrev pub InspectFails : (told : Bool) → (old new : View) → (before now : ℕ) → InspectFault → Type 0
InspectFails told old new before now Disk = IsTrue told → HasRisen old.faults new.faults
InspectFails told old new before now Sink = HasRisen before now
InspectFails told old new before now NotAStore = IsTrue told → ((old.now Home).seen 0 ≢ 1) × ((old.now Home).seen 4096 ≢ 1)
InspectFails told old new before now (Damaged area at) = IsTrue told → IsDamagedAt old.now area at
InspectFails told old new before now Memory = Unit {0}

-- the fault says nothing of the store: the disk or the sink failed, or there was no memory
abbrev pub IsNotOfStore : InspectFault → Type 0
IsNotOfStore Disk = Unit {0}
IsNotOfStore Sink = Unit {0}
IsNotOfStore NotAStore = ⊥
IsNotOfStore (Damaged area at) = ⊥
IsNotOfStore Memory = Unit {0}

-- where the fault was found before anything was written, this holds
abbrev pub BeforeWriting : InspectFault → Type 0 → Type 0
BeforeWriting Disk P = Unit {0}
BeforeWriting Sink P = Unit {0}
BeforeWriting NotAStore P = P
BeforeWriting (Damaged area at) P = P
BeforeWriting Memory P = P

-- nothing was written, or a front of the listing of the store's log
abbrev pub CutsListing : State → Option (List ℕ) → Option (List ℕ) → Type 0
CutsListing s had has = (has ≡ had) ⊎ ((log : HasLog s) × TakesFront had (listing log.super log.gate log.log.records) has)

-- no fault is passed over: but for the one that is answered, the counts of faults of the disk and of the sink are as they were
abbrev pub HeedsFaults : {T : Type 0} → Result T InspectFault → (old new : View) → (before now : ℕ) → Type 0
HeedsFaults (Ok answer) old new before now = (new.faults ≡ old.faults) × (now ≡ before)
HeedsFaults (Err Disk) old new before now = now ≡ before
HeedsFaults (Err Sink) old new before now = new.faults ≡ old.faults
HeedsFaults (Err NotAStore) old new before now = (new.faults ≡ old.faults) × (now ≡ before)
HeedsFaults (Err (Damaged area at)) old new before now = (new.faults ≡ old.faults) × (now ≡ before)
HeedsFaults (Err Memory) old new before now = (new.faults ≡ old.faults) × (now ≡ before)

-- The search for the end of a log fails only where the disk does, or where a record is of no page or band of the store.
abbrev pub EndFails : (told : Bool) → Super → Area → (old new : View) → InspectFault → Type 0
EndFails told s area old new Disk = HasRisen old.faults new.faults
EndFails told s area old new Sink = ⊥
EndFails told s area old new NotAStore = ⊥
EndFails told s area old new (Damaged there at) = (there ≡ area) × (IsTrue told → (frames : List (List Record)) → HasFrames (old.now area).seen s.base frames → first_outside s.pages s.bands 0 frames ≡ Some at)
EndFails told s area old new Memory = ⊥

-- The lines of a log aren't written only where the sink fails, or the disk; or where a disk that doesn't tell reads otherwise than before.
abbrev pub LinesFail : (told : Bool) → Super → Area → (old new : View) → (before now : ℕ) → InspectFault → Type 0
LinesFail told s area old new before now Disk = IsTrue told → (frames : List (List Record)) → HasFrames (old.now area).seen s.base frames → HasRisen old.faults new.faults
LinesFail told s area old new before now Sink = HasRisen before now
LinesFail told s area old new before now NotAStore = ⊥
LinesFail told s area old new before now (Damaged there at) = ⊥
LinesFail told s area old new before now Memory = ⊥

-- A log isn't read only where the disk fails, for want of memory, or where it is damaged.
abbrev pub LogFails : (told : Bool) → Super → (old new : View) → InspectFault → Type 0
LogFails told s old new Disk = HasRisen old.faults new.faults
LogFails told s old new Sink = ⊥
LogFails told s old new NotAStore = ⊥
LogFails told s old new (Damaged area at) = (area ≡ area_of s) × (IsTrue told → LogIsDamaged (old.now area).seen s at)
LogFails told s old new Memory = Unit {0}

-- The records of a body aren't listed only where the sink fails, or they are no whole records.
abbrev pub BodyFails : List ℕ → (before now : ℕ) → InspectFault → Type 0
BodyFails body before now Disk = (now ≡ before) × (IsWhole body → ⊥)
BodyFails body before now Sink = HasRisen before now
BodyFails body before now NotAStore = ⊥
BodyFails body before now (Damaged area at) = ⊥
BodyFails body before now Memory = ⊥
