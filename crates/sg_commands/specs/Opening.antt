-- How a store opens.
use Rattle.std.specs.Prelude.{◌≡◌, ◌≢◌, ◌⊎◌, ◌+◌, ◌≤◌, ◌<◌, Bool, IsTrue, [], None}
use Rattle.sg_ops.specs.Table.{Table as Operations}
use Rattle.sg_base.specs.Ends.{HasRisen}
use Rattle.sg_base.specs.declared.area.Area.TheVariants.{Home}
use Rattle.sg_disk.specs.Accounts.{IsShownEnd}
use Rattle.sg_disk.specs.Disk as disk
use Rattle.sg_model.specs.Objects.{Objects}
use Rattle.sg_run.specs.Run.{start}
use Rattle.sg_store.specs.Ground.{Ground, IsLawful}
use Rattle.sg_store.specs.Engine.{Sizes, Shown, led}
use Rattle.sg_store.specs.Store as stores
use Rattle.sg_commands.specs.declared.opens.OpenRefused as code_refused
use Rattle.sg_commands.specs.declared.opens.OpenRefused.TheVariants as refusals
use Rattle.sg_commands.specs.Syncs.{AreSynced, IsUnsynced}
use Rattle.sg_commands.specs.Images.{Says, reads_of, StandsFor}
use Rattle.sg_commands.specs.Full.{LOG_END}

module _ (basis : Sizes → Ground) (says : Says) where
  -- From the return of an opening's syncs on each image of each moment stands for what the image stands for that reads gave at the beginning,
  -- where what is presumed of the disk holds
  pub record KeepsAll (t : Operations) (presumed : Type 0) (synced v w : disk.View) : Type 0 where
    pub until : AreSynced v synced
    pub behind : presumed → (s : Objects) → StandsFor basis says t (reads_of v) s → disk.LeavesOnly synced w (λ c. StandsFor basis says t c s)

  -- An opening that was refused leaves a disk alone: each image of each moment is one of those at the beginning, or once its syncs had
  -- returned each stands for what the image that was read stands for
  abbrev pub IsLeftAlone : Operations → (presumed : Type 0) → (v w : disk.View) → Type 0
  IsLeftAlone t presumed v w = IsUnsynced v w ⊎ ((synced : disk.View) × KeepsAll t presumed synced v w)

  -- a store shows a run that begins with these objects, as one of so many pages and bands
  pub record Starts (t : Operations) (z : Sizes) (e : Shown basis) (k : stores.Core) (first : Objects) : Type 0 where
    pub from : (basis z).X
    pub means : e.means t z from
    pub lawful : IsLawful t (basis z)
    pub shows : stores.Shows t (basis z) (led t z from e) k (start first)

  -- A STORE HAS OPENED: no fault was counted, and the log's end is shown by bytes. Where the disk tells and what is presumed of it holds, so does
  -- the engine, and the store shows a run that begins with the objects that the image read stands for. From the return of its syncs on each
  -- image stands for these
  pub record IsOpened (t : Operations) (told : Bool) (presumed : Type 0) (v : disk.View) (e : Shown basis) (k : stores.Core) : Type 0 where
    pub core : k ≡ record { live = []; held = []; stopped = None }
    pub heeded : e.disk.faults ≡ v.faults
    pub shown : IsTrue told → IsShownEnd v e.disk (says.log_end (reads_of v)) e.gate
    pub tells : IsTrue told → presumed → e.Told
    pub starts : IsTrue told → presumed → (s : Objects) → StandsFor basis says t (reads_of v) s → Starts t (says.sizes (reads_of v)) e k s
    pub moments : IsTrue told → (synced : disk.View) × KeepsAll t presumed synced v e.disk

  -- WHY A STORE DOESN'T OPEN. Where there is no store, for damage, and for an operation that is needed and isn't registered, what is presumed of the
  -- disk doesn't hold: the image stands for no objects
  abbrev pub IsRefusedFor : Operations → code_refused.OpenRefused → (told : Bool) → (presumed : Type 0) → (v w : disk.View) → Type 0
  IsRefusedFor t refusals.DiskFault told presumed v w = IsTrue told → presumed → HasRisen v.faults w.faults
  IsRefusedFor t refusals.Memory told presumed v w = Unit {0}
  IsRefusedFor t (refusals.Damaged area at) told presumed v w = IsTrue told → says.damaged t (reads_of v) area at × (presumed → ⊥)
  IsRefusedFor t refusals.NotAStore told presumed v w = IsTrue told → ((v.now Home).seen 0 ≢ 1) × ((v.now Home).seen 4096 ≢ 1) × (presumed → ⊥)
  IsRefusedFor t (refusals.UnknownOperation code) told presumed v w = IsTrue told → says.unknown t (reads_of v) code × (presumed → ⊥)
  IsRefusedFor t refusals.LogEnd told presumed v w = IsTrue told → (disk.FULL ≤ w.handed) ⊎ (LOG_END + v.handed < says.log_end (reads_of v) + w.handed + 196613)

  -- a fault of the disk is why, or its count of faults is as it was
  abbrev pub IsQuietFor : code_refused.OpenRefused → (v w : disk.View) → Type 0
  IsQuietFor refusals.DiskFault v w = Unit {0}
  IsQuietFor other v w = w.faults ≡ v.faults

  -- A STORE HASN'T OPENED
  pub record StaysShut (t : Operations) (told : Bool) (presumed : Type 0) (v w : disk.View) (why : code_refused.OpenRefused) : Type 0 where
    pub reason : IsRefusedFor t why told presumed v w
    pub alone : IsTrue told → IsLeftAlone t presumed v w
    pub quiet : IsQuietFor why v w
