-- OPENING A STORE OF OBJECTS: what is asked of an image, what is promised, and why a disk is refused.
use Rattle.std.specs.Prelude.{◌≡◌, ◌≢◌, ◌⊎◌, ◌+◌, ◌<◌, ◌≤◌, ℕ, Bool, IsTrue, List, [], Some, None, Ok}
use Rattle.sg_base.specs.declared.area.Area.{Area}
use Rattle.sg_base.specs.declared.area.Area.TheVariants.{Home}
use Rattle.sg_disk.specs.Accounts.{IsShownEnd}
use Rattle.sg_disk.specs.Disk as disk
use Rattle.sg_base.specs.Ends.{HasRisen}
use Rattle.sg_disk.specs.Disk.{Image, LeavesOnly}
use Rattle.sg_ops.specs.Table.{Table}
use Rattle.sg_gate.specs.Layout.{home_at}
use Rattle.sg_gate.specs.declared.superblock.Super.{Super}
use Rattle.sg_base.specs.declared.numbers.TxnId.{TxnId}
use Rattle.sg_find.specs.declared.fault.OpenFault.{OpenFault}
use Rattle.sg_find.specs.declared.fault.OpenFault.TheVariants as opens
use Rattle.sg_space.specs.declared.space.SpaceFault.TheVariants as spaces
use Rattle.sg_find.specs.Synced.{IsUnsynced, SplitsAtSync, reads}
use Rattle.sg_run.specs.Run.{start}
use Rattle.sg_starting.specs.Starting.{AreBuried, BeginsStock, IsOpenedWith, IsRead}
use Rattle.sg_starting.specs.declared.opening.StartFault.{StartFault}
use Rattle.sg_starting.specs.declared.opening.StartFault.TheVariants as starts
use Rattle.sg_attach.specs.Ended.{end_in}
use Rattle.sg_shown.specs.Shown.{RecoversSized, basis, opened}
use Rattle.sg_gate.specs.Superblock.{superblock}
use Rattle.sg_open.specs.Refusals.{IsCause, IsBadHeader}
use Rattle.sg_action.specs.States.{State}
use Rattle.sg_actions.specs.Steps.{Steps}
use Rattle.sg_actions.specs.declared.engine.Engine.{Ghosts as Engines}
use Rattle.sg_paged.specs.declared.paged.Paged.{Paged}
use Rattle.sg_model.specs.Objects.{Objects}
use Rattle.sg_reading.specs.Reading.{Reading}
use Rattle.sg_recovery.specs.Log.{tally}
use Rattle.sg_recovery.specs.Stands.{StandsFor as LogStands, all_off, settled}
use Rattle.sg_phys_laws.specs.Recovers.{super_in, RecoversBy}
use Rattle.sg_store.specs.declared.engine.Engine.{Ghosts}
use Rattle.sg_store.specs.declared.store.Store as code_store
use Rattle.sg_store.specs.Engine.{AskedBy, LOG_END, Sizes, Shown, led}
use Rattle.sg_store.specs.Ground.{setting}
use Rattle.sg_store.specs.Rests.{HasObjects}
use Rattle.sg_store.specs.Stands.{StandsFor}
use Rattle.sg_store.specs.Store.{Core, Shows}
use Rattle.sg_mount.specs.Making.{ground_of_sizes, sizes_of}
use Rattle.sg_mount.specs.declared.fault.MountFault.{MountFault}
use Rattle.sg_mount.specs.declared.fault.MountFault.TheVariants.{Disk, Memory, LogEnd, NotAStore, Damaged, UnknownOperation}

-- how many pages and bands an image has, by its superblock
abbrev pub sizes_in : Image → Sizes
sizes_in c = sizes_of (super_in c)

-- AN IMAGE STANDS FOR OBJECTS, by these operations
abbrev pub ImageStandsFor : Table → Image → Objects → Type 0
ImageStandsFor t c m = StandsFor t (ground_of_sizes (sizes_in c)) c m

-- WHAT IS PRESUMED OF AN IMAGE from which a store is opened: it stands for some objects
pub record CanBeOpened (t : Table) (c : Image) : Type 0 where
  pub objects : Objects
  pub stands : ImageStandsFor t c objects

-- WHAT IS ASKED OF A CALLER that opens a store: where the disk tells and what is presumed of it holds, that is so of the image that reads give.
-- Of any other disk nothing is asked
abbrev pub StandsAsPresumed : Table → (told : Bool) → (presumed : Type 0) → Image → Type 0
StandsAsPresumed t told presumed c = IsTrue told → presumed → CanBeOpened t c

-- AN IMAGE IS ONE OF A STORE of so many pages and bands by these operations, whether or not its pages read as objects: its superblock says so many,
-- its log holds some steps, and with history repeated it comes to what they make of some first pages; what an action did that has no end can be taken off; and where its
-- pages read as objects then, it stands for some
pub record IsStoreOf (t : Table) (z : Sizes) (c : Image) : Type 0 where
  pub log : Steps
  pub pages : State
  pub recovers : RecoversSized RecoversBy z t c log pages
  pub off : (x : State) × (all_off (setting t (ground_of_sizes z)) (tally log).opened pages ≡ Some x)
  pub stood : (o : Reading) → settled (setting t (ground_of_sizes z)) (tally log).opened pages ≡ Some o → (m : Objects) × StandsFor t (ground_of_sizes z) c m

-- FROM A MOMENT OF AN OPENING ON each image of each moment stands for what the image stood for that was read, where what is presumed of the disk
-- holds
abbrev pub KeepsStanding : Table → (presumed : Type 0) → (old new mid : disk.View) → Type 0
KeepsStanding t presumed old new mid = presumed → (m : Objects) → ImageStandsFor t (reads old) m → LeavesOnly mid new (λ c. ImageStandsFor t c m)

-- WHAT AN IMAGE READS AS, with its log: history is repeated, and what an action did that has no end is taken off
pub record ImageReads (t : Table) (c : Image) (log : Steps) (o : Reading) : Type 0 where
  pub pages : State
  pub recovers : RecoversSized RecoversBy (sizes_in c) t c log pages
  pub reads : settled (setting t (ground_of_sizes (sizes_in c))) (tally log).opened pages ≡ Some o

-- THE STORE OF AN IMAGE WAS FOUND that stands for these objects: its engine has the sizes of that, may be started with these losers, and its log
-- stands for them
pub record HasFound (t : Table) (c : Image) (m : Objects) (losers : List TxnId) (e : Shown (basis RecoversBy)) : Type 0 where
  pub from : State
  pub means : e.means t (sizes_in c) from
  pub opened : IsOpenedWith losers t (ground_of_sizes (sizes_in c)) (led t (sizes_in c) from e)
  pub stands : LogStands (setting t (ground_of_sizes (sizes_in c))) from (e.records (sizes_in c)).log m
  pub reads : (log : Steps) (o : Reading) → ImageReads t c log o → ((e.records (sizes_in c)).log ≡ log) × IsRead t (ground_of_sizes (sizes_in c)) (led t (sizes_in c) from e) o

-- A STORE WAS FOUND on a disk. On any disk it may be started. Where the disk tells and what is presumed of it holds, its engine tells, and it is the
-- store of the image that was read; each image of each moment, once all areas had been synced, stands for what that stood for
pub record IsFoundOn (t : Table) (told : Bool) (presumed : Type 0) (v : disk.View) (losers : List TxnId) (e : Shown (basis RecoversBy)) : Type 0 where
  pub asks : AskedBy t e (IsOpenedWith losers t)
  pub tells : IsTrue told → presumed → e.Told
  pub silent : e.Told → IsTrue told × presumed
  pub has : IsTrue told → presumed → (m : Objects) → ImageStandsFor t (reads v) m → HasFound t (reads v) m losers e
  pub moments : IsTrue told → SplitsAtSync v (KeepsStanding t presumed v e.disk)
  pub heeded : e.disk.faults ≡ v.faults
  pub handed : v.handed ≤ e.disk.handed
  pub shown : IsTrue told → IsShownEnd v e.disk (end_in (reads v)) e.gate

-- A STORE HAS STARTED with these objects, of an image: it shows a run that begins with them, no transaction is live, and nothing is buried; and its
-- stock is that of the image, with what the transactions did undone that went on
pub record HasStarted (t : Table) (c : Image) (m : Objects) (k : Core) (e : Shown (basis RecoversBy)) : Type 0 where
  pub from : State
  pub means : e.means t (sizes_in c) from
  pub has : HasObjects [] m m k t (ground_of_sizes (sizes_in c)) (led t (sizes_in c) from e)
  pub shows : Shows t (ground_of_sizes (sizes_in c)) (led t (sizes_in c) from e) k (start m)
  pub buried : AreBuried t (ground_of_sizes (sizes_in c)) (led t (sizes_in c) from e) 0
  pub stock : (log : Steps) (o : Reading) → ImageReads t c log o → BeginsStock t (ground_of_sizes (sizes_in c)) o (tally log).notes (led t (sizes_in c) from e)

-- A STORE HAS OPENED on a disk. Where the disk tells and what is presumed of it holds, its engine tells, and it has the objects for which the image
-- stands that was read. Once all areas had been synced each image of each moment stands for them
pub record HasOpenedOn (t : Table) (told : Bool) (presumed : Type 0) (v : disk.View) (k : Core) (e : Shown (basis RecoversBy)) : Type 0 where
  pub core : k ≡ record { live = []; held = []; stopped = None }
  pub tells : IsTrue told → presumed → e.Told
  pub has : IsTrue told → presumed → (m : Objects) → ImageStandsFor t (reads v) m → HasStarted t (reads v) m k e
  pub moments : IsTrue told → SplitsAtSync v (KeepsStanding t presumed v e.disk)
  pub heeded : e.disk.faults ≡ v.faults
  pub shown : IsTrue told → IsShownEnd v e.disk (end_in (reads v)) e.gate

-- what a store shows of its engine
abbrev pub shown_by : {E : Type 0} {ghosts : Ghosts E} → code_store.Store E ghosts → Shown ghosts.basis
shown_by {ghosts = ghosts} s = ghosts.view s.engine

-- and what an engine over pages shows while it is being opened
abbrev pub opened_by : {E : Type 0} {ghosts : Engines E} → Paged E ghosts → Shown (basis ghosts.recovers)
opened_by e = opened e.acts e.room

-- in the home area the header of a batch of pages has this as the first field that is out of its range, or a page's home begins there
abbrev pub IsInHome : Image → Area → ℕ → Type 0
IsInHome c area at = (area ≡ Home) × (((s : Super) × (superblock (c Home) ≡ Ok s) × IsBadHeader s.pages (c Home) at) ⊎ ((page : ℕ) × (at ≡ home_at page)))

-- WHY A DISK IS REFUSED, by the image that was read. NotAStore: neither slot of the superblock is open. Damaged: the superblock has a field out of its
-- range, or the log isn't formed, there; or a page, or the header of a batch of pages, is wrong there in the home area. UnknownOperation: the first code
-- that isn't registered, of those that are needed. Of each of these, what is presumed of the disk doesn't hold. For other causes nothing is asked of the
-- image
abbrev pub IsMountCause : Table → (presumed : Type 0) → Image → MountFault → Type 0
IsMountCause t presumed c Disk = Unit {0}
IsMountCause t presumed c Memory = Unit {0}
IsMountCause t presumed c LogEnd = Unit {0}
IsMountCause t presumed c NotAStore = IsCause t c opens.NotAStore × (presumed → ⊥)
IsMountCause t presumed c (Damaged area at) = (IsCause t c (opens.Damaged area at) ⊎ IsInHome c area at) × (presumed → ⊥)
IsMountCause t presumed c (UnknownOperation code) = IsCause t c (opens.UnknownOperation code) × (presumed → ⊥)

-- how a fault of the page engine's opening is answered, and one of the steps behind it
abbrev pub of_opening : OpenFault → MountFault
of_opening opens.Disk = Disk
of_opening opens.Memory = Memory
of_opening opens.NotAStore = NotAStore
of_opening (opens.Damaged area at) = Damaged area at
of_opening (opens.UnknownOperation code) = UnknownOperation code

abbrev pub of_start : StartFault → MountFault
of_start (starts.Space spaces.Disk) = Disk
of_start (starts.Space spaces.LogEnd) = LogEnd
of_start (starts.Broken page) = Damaged Home (home_at page.0)
of_start starts.Memory = Memory

-- nothing was handed over to be written, where no memory is left for what opening needs first, where a needed operation isn't registered, and where
-- this isn't a store or its log is damaged
abbrev pub IsUnwritten : MountFault → (old new : disk.View) → Type 0
IsUnwritten Disk old new = Unit {0}
IsUnwritten Memory old new = Unit {0}
IsUnwritten LogEnd old new = Unit {0}
IsUnwritten NotAStore old new = new.handed ≡ old.handed
IsUnwritten (Damaged area at) old new = (area ≡ Home) ⊎ (new.handed ≡ old.handed)
IsUnwritten (UnknownOperation code) old new = new.handed ≡ old.handed

-- neither slot of the superblock is open
abbrev pub AreShut : disk.View → Type 0
AreShut v = ((v.now Home).seen 0 ≢ 1) × ((v.now Home).seen 4096 ≢ 1)

-- So many bytes were handed to the disk since v that a log that ended there then may be full: what waits to be a frame takes 65,541 bytes at most, and
-- a record of the greatest size 131,072 more
abbrev pub IsNearEndBy : (log_end : ℕ) → (v w : disk.View) → Type 0
IsNearEndBy log_end v w = (disk.FULL ≤ w.handed) ⊎ (LOG_END + v.handed < log_end + w.handed + 196613)

-- A DISK IS HANDED BACK, whose store wasn't opened for this reason. A fault of the disk is answered where the disk's own count rose, or what is
-- presumed of the disk doesn't hold; for another reason the count is as it was. The disk is left alone: either not all areas had been synced,
-- or from then on each image of each moment stands for what the image stands for that was read. The log's end is answered only where that is near,
-- by the bytes that were handed to the disk
pub record IsHandedBack (t : Table) (told : Bool) (presumed : Type 0) (v w : disk.View) (fault : MountFault) : Type 0 where
  pub cause : IsTrue told → IsMountCause t presumed (reads v) fault
  pub shut : IsTrue told → fault ≡ NotAStore → AreShut v
  pub moments : IsTrue told → IsUnsynced v w ⊎ SplitsAtSync v (KeepsStanding t presumed v w)
  pub unwritten : IsUnwritten fault v w
  pub heeded : (fault ≡ Disk → ⊥) → w.faults ≡ v.faults
  pub failed : fault ≡ Disk → IsTrue told → presumed → HasRisen v.faults w.faults
  pub log_end : fault ≡ LogEnd → IsTrue told → IsNearEndBy (end_in (reads v)) v w
