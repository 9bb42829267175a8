-- How the log of a disk's store is listed.
use Rattle.std.specs.Prelude.{◌≡◌, ◌≢◌, ◌⊎◌, ℕ, Bool, IsTrue, List, Option}
use Rattle.sg_base.specs.Ends.{HasRisen, Takes}
use Rattle.sg_base.specs.declared.area.Area.TheVariants.{Home}
use Rattle.sg_disk.specs.Disk as disk
use Rattle.sg_log.specs.Reads.{OnlyReads}
use Rattle.sg_inspect.specs.Faults.{CutsListing}
use Rattle.sg_inspect.specs.Listing.{listing}
use Rattle.sg_inspect.specs.Logs.{HasLog, IsDamagedAt}
use Rattle.sg_inspect.specs.declared.fault.InspectFault.{InspectFault}
use Rattle.sg_inspect.specs.declared.fault.InspectFault.TheVariants as faults
use Rattle.sg_commands.specs.Drawing.{Sunk}
use Rattle.sg_commands.specs.declared.status.Status as code_status
use Rattle.sg_commands.specs.declared.status.Status.TheVariants as statuses

-- the status of a log that wasn't listed
abbrev pub status_of_inspection : InspectFault → code_status.Status
status_of_inspection faults.Disk = statuses.Disk
status_of_inspection faults.Sink = statuses.Write
status_of_inspection faults.NotAStore = statuses.NotAStore
status_of_inspection (faults.Damaged area at) = statuses.Damaged area at
status_of_inspection faults.Memory = statuses.Memory

-- the gates of both slots of the superblock are closed
abbrev pub IsShut : disk.View → Type 0
IsShut v = ((v.now Home).seen 0 ≢ 1) × ((v.now Home).seen 4096 ≢ 1)

-- the sink took the whole listing of the log that the disk's bytes have
pub record IsListed (s : disk.State) (had has : Option (List ℕ)) : Type 0 where
  pub log : HasLog s
  pub took : Takes had (listing log.super log.gate log.log.records) has

-- the sink took nothing, and neither it nor the disk has failed
pub record IsUnlisted (v w : disk.View) (old new : Sunk) : Type 0 where
  pub unwritten : new.taken ≡ old.taken
  pub disk : w.faults ≡ v.faults
  pub sink : new.faults ≡ old.faults

-- WHAT EACH STATUS TELLS of the listing of a log, where the disk tells what it holds. Done: the sink took the whole listing, and nothing failed. Disk
-- or Write: that one failed and the other didn't, and the sink took a front of the listing. NotAStore, Damaged or Memory: the sink took nothing; the
-- gates of both slots of the superblock are closed, or the store is damaged there, by its superblock or its log. It has no other
abbrev pub TellsLogged : code_status.Status → Bool → (v w : disk.View) → Sunk → Sunk → Type 0
TellsLogged statuses.Done told v w old new = (IsTrue told → IsListed v.now old.taken new.taken) × (w.faults ≡ v.faults) × (new.faults ≡ old.faults)
TellsLogged statuses.Disk told v w old new =
    (IsTrue told → HasRisen v.faults w.faults) × (IsTrue told → CutsListing v.now old.taken new.taken) × (new.faults ≡ old.faults)
TellsLogged statuses.Write told v w old new =
    HasRisen old.faults new.faults × (IsTrue told → CutsListing v.now old.taken new.taken) × (w.faults ≡ v.faults)
TellsLogged statuses.NotAStore told v w old new = (IsTrue told → IsShut v) × IsUnlisted v w old new
TellsLogged (statuses.Damaged area at) told v w old new = (IsTrue told → IsDamagedAt v.now area at) × IsUnlisted v w old new
TellsLogged statuses.Memory told v w old new = IsUnlisted v w old new
TellsLogged other told v w old new = ⊥

-- where there is no store, only a fault of the disk or want of memory is answered in place of that
abbrev pub IsForNone : code_status.Status → Type 0
IsForNone statuses.NotAStore = Unit {0}
IsForNone statuses.Disk = Unit {0}
IsForNone statuses.Memory = Unit {0}
IsForNone other = ⊥

-- nothing hinders a listing: the disk tells, its bytes have the log of a store, as those of each image that stands for objects do, and no count of
-- faults can have risen
pub record IsLogUnhindered (told : Bool) (v w : disk.View) (old new : Sunk) : Type 0 where
  pub is_told : IsTrue told
  pub has : ∥ HasLog v.now ∥₁
  pub disk : HasRisen v.faults w.faults → ⊥
  pub sink : HasRisen old.faults new.faults → ⊥

-- THE LOG IS LISTED, or not: what the status tells; that it is NotAStore where there is none; that the log of a store is listed where nothing
-- hinders that but want of memory; and that nothing is written to the disk, so that at each moment a crash leaves what it could have left before
pub record ListsLog (status : code_status.Status) (told : Bool) (v w : disk.View) (old new : Sunk) : Type 0 where
  pub tells : TellsLogged status told v w old new
  pub none : IsTrue told → IsShut v → IsForNone status
  pub completes : IsLogUnhindered told v w old new → (status ≡ statuses.Done) ⊎ (status ≡ statuses.Memory)
  pub reads : OnlyReads told v w
