-- Why a store isn't opened whose image can be opened.
use Rattle.std.specs.Prelude.{◌≡◌, ◌⊎◌, ◌<◌, ◌+◌, ℕ, Bool, IsTrue, Ok, Err, Option, Some, None, List}
use Rattle.sg_base.specs.Ends.{HasRisen}
use Rattle.sg_disk.specs.Disk.{Bytes, Image, View}
use Rattle.sg_record.specs.Records.{Record}
use Rattle.sg_ops.specs.Table.{Table}
use Rattle.sg_log.specs.Frames.{Numbered, Frames}
use Rattle.sg_log.specs.Formed as log
use Rattle.sg_analysis.specs.Damage as analysis
use Rattle.sg_analysis.specs.Analysis.{analysis_of}
use Rattle.sg_places.specs.Asked.{undone_of, first_outside, first_unknown}
use Rattle.sg_engine.specs.Engine.{Origin, geometry, log_area}
use Rattle.sg_find.specs.Synced.{HasLog, redo_point}
use Rattle.sg_base.specs.declared.area.Area.TheVariants.{Home}
use Rattle.sg_gate.specs.Layout.{HEADER, home_at}
use Rattle.sg_gate.specs.Batch.{IsWrongAt}
use Rattle.sg_gate.specs.Superblock.{superblock}
use Rattle.sg_gate.specs.declared.superblock.Super.{Super}
use Rattle.sg_gate.specs.declared.fault.GateFault.TheVariants as gates
use Rattle.sg_pool.specs.Units.{Geometry}
use Rattle.sg_pool.specs.declared.fault.PoolFault.{PoolFault}
use Rattle.sg_pool.specs.declared.fault.PoolFault.TheVariants as faults
use Rattle.sg_find.specs.declared.fault.OpenFault.{OpenFault}
use Rattle.sg_find.specs.declared.fault.OpenFault.TheVariants.{Disk, Memory, NotAStore, Damaged, UnknownOperation}

-- the first code that isn't registered, of a record from the redo point on, or of a loser's
abbrev pub is_missing : Table → Origin → List Numbered → ℕ → Type 0
is_missing t o ds code = first_unknown t (redo_point o.super.base ds) (undone_of (analysis_of o.super.base ds)) ds ≡ Some code

-- AN IMAGE THAT CAN BE OPENED is refused only where the disk fails, for want of memory, where a code isn't registered, or where its log isn't
-- formed in full
abbrev pub StoreRefused : (told : Bool) → Table → Origin → List Numbered → (old new : View) → OpenFault → Type 0
StoreRefused told t o ds old new Disk = HasRisen old.faults new.faults
StoreRefused told t o ds old new Memory = Unit {0}
StoreRefused told t o ds old new NotAStore = ⊥
StoreRefused told t o ds old new (Damaged there at) = (there ≡ log_area o.super) × (log.IsDamagedAt (old.now (log_area o.super)).seen o.super.base at ⊎ analysis.IsDamagedAt (old.now (log_area o.super)).seen o.super.base at)
StoreRefused told t o ds old new (UnknownOperation code) = is_missing t o ds code

-- the refusal of a pool
abbrev pub of_pool : PoolFault → OpenFault
of_pool faults.Disk = Disk
of_pool faults.Memory = Memory
of_pool (faults.Damaged page) = Damaged Home (home_at page.0)

-- so many bytes from the first one of the home area on a page of the store begins
abbrev pub IsPageAt : Geometry → ℕ → Type 0
IsPageAt g at = (n : ℕ) × (n < g.pages) × (at ≡ home_at n)

-- the header of the double-write area is open, and this is its first field that is out of its range
abbrev pub IsBadHeader : (pages : ℕ) → Bytes → ℕ → Type 0
IsBadHeader pages f at = (f HEADER ≡ 1) × IsWrongAt pages f (HEADER + 1) at

-- repeating is refused by the disk, or for a page
abbrev pub IsPageFault : Geometry → OpenFault → Type 0
IsPageFault g Disk = Unit {0}
IsPageFault g Memory = ⊥
IsPageFault g NotAStore = ⊥
IsPageFault g (Damaged there at) = (there ≡ Home) × IsPageAt g at
IsPageFault g (UnknownOperation code) = ⊥

-- a refusal behind the first write: by the disk, for the header of an open batch, or for a page
abbrev pub IsLate : (told : Bool) → (pages : ℕ) → Geometry → View → OpenFault → Type 0
IsLate told pages g v Disk = Unit {0}
IsLate told pages g v Memory = ⊥
IsLate told pages g v NotAStore = ⊥
IsLate told pages g v (Damaged there at) = (there ≡ Home) × (IsTrue told → IsBadHeader pages (v.now Home).seen at ⊎ IsPageAt g at)
IsLate told pages g v (UnknownOperation code) = ⊥

-- THE LOG ISN'T ONE that this store has: the frame whose gate is at this offset isn't formed, or its records may not follow; or all frames are,
-- and this is the first one with a record of a page or a band that the store doesn't have
abbrev pub IsBadLog : Super → Bytes → ℕ → Type 0
IsBadLog s f at = (log.IsDamagedAt f s.base at ⊎ analysis.IsDamagedAt f s.base at) ⊎ ((frames : List (List Record)) × Frames f 0 frames × (first_outside s.pages s.bands 0 frames ≡ Some at))

-- the superblock that counts, and the records of its log
pub record IsRead (c : Image) : Type 0 where
  pub super : Super
  pub counts : superblock (c Home) ≡ Ok super
  pub log : HasLog (c (log_area super)) super.base

-- the first code that isn't registered, of the operations that are needed of these records
abbrev pub missing : Table → (c : Image) → IsRead c → Option ℕ
missing t c r = first_unknown t (redo_point r.super.base r.log.records) (undone_of (analysis_of r.super.base r.log.records)) r.log.records

-- WHY AN IMAGE IS REFUSED before the first write: its superblock says that it is no store, or has this field as the first that is out of its
-- range; or its log is damaged there; or this is the first code that isn't registered. For other causes nothing of the image is asked
abbrev pub IsCause : Table → Image → OpenFault → Type 0
IsCause t c Disk = Unit {0}
IsCause t c Memory = Unit {0}
IsCause t c NotAStore = superblock (c Home) ≡ Err gates.NotAStore
IsCause t c (Damaged there at) = ((there ≡ Home) × (superblock (c Home) ≡ Err (gates.Damaged at))) ⊎ ((s : Super) × (superblock (c Home) ≡ Ok s) × (there ≡ log_area s) × IsBadLog s (c (log_area s)) at)
IsCause t c (UnknownOperation code) = (r : IsRead c) × (missing t c r ≡ Some code)

-- and behind it: for the header of an open batch, or for a page of the store
abbrev pub IsLateCause : Image → OpenFault → Type 0
IsLateCause c Disk = Unit {0}
IsLateCause c Memory = ⊥
IsLateCause c NotAStore = ⊥
IsLateCause c (Damaged there at) = (there ≡ Home) × ((s : Super) × (superblock (c Home) ≡ Ok s) × (IsBadHeader s.pages (c Home) at ⊎ IsPageAt (geometry s) at))
IsLateCause c (UnknownOperation code) = ⊥

-- AN IMAGE IS ACCEPTED: its superblock is in range, it has a log, and all operations are registered that are needed
abbrev pub IsAccepted : Table → Image → Super → Type 0
IsAccepted t c s = (r : IsRead c) × (r.super ≡ s) × (missing t c r ≡ None)

-- nothing was handed over to be written, where the refusal is for want of memory or for an operation, or where this isn't a store, or its log
-- is damaged
abbrev pub IsUnwrittenAt : OpenFault → (old new : View) → Type 0
IsUnwrittenAt Disk old new = Unit {0}
IsUnwrittenAt Memory old new = new.handed ≡ old.handed
IsUnwrittenAt NotAStore old new = new.handed ≡ old.handed
IsUnwrittenAt (Damaged there at) old new = (there ≡ Home) ⊎ (new.handed ≡ old.handed)
IsUnwrittenAt (UnknownOperation code) old new = new.handed ≡ old.handed
