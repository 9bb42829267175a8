-- How the objects of a disk's store are written, or what they come to.
use Rattle.std.specs.Prelude.{◌≡◌, ◌⊎◌, ℕ, Bool, IsTrue, List, [], Option, Some, None}
use Rattle.sg_base.specs.Ends.{HasRisen, Takes, TakesFront}
use Rattle.sg_disk.specs.Disk as disk
use Rattle.sg_lines.specs.Summed.{summary_line, summary_of}
use Rattle.sg_lines.specs.Text.{text_of}
use Rattle.sg_model.specs.declared.stop.Stop.{Stop}
use Rattle.sg_model.specs.declared.stop.Stop.TheVariants as stops
use Rattle.sg_model.specs.Objects.{Objects}
use Rattle.sg_ops.specs.Table.{Table as Operations}
use Rattle.sg_run.specs.Run.{Run, live_objects}
use Rattle.sg_store.specs.Calls.{Goes}
use Rattle.sg_store.specs.Engine.{Sizes, Shown, Keeps, AsMeant}
use Rattle.sg_store.specs.Ground.{Ground, IsLawful}
use Rattle.sg_store.specs.Heeds.{Heeds}
use Rattle.sg_store.specs.Store.{Core, Shows}
use Rattle.sg_commands.specs.declared.objects.Listing.{Listing}
use Rattle.sg_commands.specs.declared.objects.Listing.TheVariants as listings
use Rattle.sg_commands.specs.declared.opens.OpenRefused.TheVariants as refusals
use Rattle.sg_commands.specs.declared.status.Status as code_status
use Rattle.sg_commands.specs.declared.status.Status.TheVariants as statuses
use Rattle.sg_commands.specs.Drawing.{Sunk}
use Rattle.sg_commands.specs.Images.{Says, reads_of, StandsFor, CountRose}
use Rattle.sg_commands.specs.Opening.{IsLeftAlone, IsRefusedFor}

-- what is written of objects: each of them and how many they are, or the line of what they come to
abbrev pub text_for : Listing → Objects → List ℕ
text_for listings.Text objects = text_of objects
text_for listings.Summary objects = summary_line (summary_of objects)

-- the sink took this text where it was written, and a front of it where the sink failed
abbrev pub HasTaken : code_status.Status → List ℕ → (had has : Option (List ℕ)) → Type 0
HasTaken statuses.Done text had has = Takes had text has
HasTaken statuses.Write text had has = TakesFront had text has
HasTaken other text had has = Unit {0}

-- its count of faults rose where it failed, and nowhere else, but where the disk failed, of which nothing is said
abbrev pub CountsSink : code_status.Status → (before now : ℕ) → Type 0
CountsSink statuses.Done before now = now ≡ before
CountsSink statuses.Memory before now = now ≡ before
CountsSink statuses.Write before now = HasRisen before now
CountsSink statuses.Disk before now = Unit {0}
CountsSink other before now = ⊥

-- a store that had not stopped has where the disk failed, and nowhere else
abbrev pub HasStopped : code_status.Status → Option Stop → Type 0
HasStopped statuses.Disk stop = stop ≡ Some stops.Disk
HasStopped other stop = stop ≡ None

-- a store that was opened, beside its engine
abbrev pub AT_FIRST : Core
AT_FIRST = record { live = []; held = []; stopped = None }

-- A STORE IS ASKED for its objects, or for what they come to: the sink took that by the status, and nothing of the store has changed, but that it has
-- stopped where the disk failed
pub record Writes {basis : Sizes → Ground} (listing : Listing) (status : code_status.Status) (e f : Shown basis) (k m : Core) (old new : Sunk) : Type 0 where
  pub means : Keeps e f
  pub heeds : Heeds k.stopped m.stopped e f
  pub stops : HasStopped status m.stopped
  pub counts : CountsSink status old.faults new.faults
  pub goes : AsMeant e f (λ t g v w. (x : Run) → IsLawful t g → Shows t g v k x
      → Goes t g v x (λ y. (y.so_far ≡ x.so_far) × HasTaken status (text_for listing (live_objects t x)) old.taken new.taken) w m)

-- nothing was written, and the sink hasn't failed
abbrev pub IsUnwritten : Sunk → Sunk → Type 0
IsUnwritten old new = (new.taken ≡ old.taken) × (new.faults ≡ old.faults)

-- nothing hinders it: the disk tells, the image that reads give stands for objects, as is presumed, and no count of faults can have risen
pub record IsReadable (told : Bool) (presumed : Type 0) (v w : disk.View) (old new : Sunk) : Type 0 where
  pub is_told : IsTrue told
  pub is_presumed : presumed
  pub disk : HasRisen v.faults w.faults → ⊥
  pub sink : HasRisen old.faults new.faults → ⊥

module _ (basis : Sizes → Ground) (says : Says) (text : Objects → List ℕ) (t : Operations) (told : Bool) (presumed : Type 0) (v w : disk.View) (old new : Sunk) where
  -- what the sink took, where what the disk holds is known: that of the objects for which the image stands that reads gave
  abbrev pub HasTakenOf : code_status.Status → Type 0
  HasTakenOf status = IsTrue told → presumed → (m : Objects) → StandsFor basis says t (reads_of v) m → HasTaken status (text m) old.taken new.taken

  -- WHAT EACH STATUS TELLS. Done: the sink took the whole text, and didn't fail. Write: it failed, and took a front of the text. Disk: a fault was
  -- counted. Where the store didn't open nothing was written, and the cause is as that of a run. It has no other
  abbrev pub TellsObjects : code_status.Status → Type 0
  TellsObjects statuses.Done = HasTakenOf statuses.Done × (new.faults ≡ old.faults)
  TellsObjects statuses.NotAStore = IsRefusedFor basis says t refusals.NotAStore told presumed v w × IsUnwritten old new
  TellsObjects statuses.Usage = ⊥
  TellsObjects statuses.Memory = new.faults ≡ old.faults
  TellsObjects statuses.Disk = CountRose told presumed v w
  TellsObjects statuses.Read = ⊥
  TellsObjects statuses.Write = HasTakenOf statuses.Write × HasRisen old.faults new.faults
  TellsObjects statuses.TooLong = ⊥
  TellsObjects (statuses.UnknownOperation code) = IsRefusedFor basis says t (refusals.UnknownOperation code) told presumed v w × IsUnwritten old new
  TellsObjects (statuses.Damaged area at) = IsRefusedFor basis says t (refusals.Damaged area at) told presumed v w × IsUnwritten old new
  TellsObjects statuses.Exists = ⊥
  TellsObjects statuses.BadGeometry = ⊥
  TellsObjects statuses.LogEnd = IsRefusedFor basis says t refusals.LogEnd told presumed v w × IsUnwritten old new

  -- THE OBJECTS ARE WRITTEN, or not: what the status tells; that nothing but want of memory or the log's end in opening keeps them from it where
  -- nothing hinders it; and that from the return of opening's syncs on each image of each moment stands for the same objects
  pub record WritesObjects (status : code_status.Status) : Type 0 where
    pub tells : TellsObjects status
    pub completes : IsReadable told presumed v w old new → (status ≡ statuses.Done) ⊎ ((status ≡ statuses.Memory) ⊎ (status ≡ statuses.LogEnd))
    pub alone : IsTrue told → IsLeftAlone basis says t presumed v w
