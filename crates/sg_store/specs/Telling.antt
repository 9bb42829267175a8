-- How an engine tells a listener of its objects.
use Rattle.std.specs.Prelude.{◌≡◌, ◌≤◌, ℕ, length, Result, Ok, Err}
use Rattle.std.specs.FinMap.{entries}
use Rattle.sg_base.specs.Ends.{HasRisen}
use Rattle.sg_lines.specs.Heard.{Ears, HasHeard, WasCut}
use Rattle.sg_lines.specs.Parts.{parts_of}
use Rattle.sg_ops.specs.Table.{Table as Operations}
use Rattle.sg_store.specs.declared.fault.TellFault.{TellFault}
use Rattle.sg_store.specs.declared.fault.TellFault.TheVariants.{Disk, Memory, Listener}
use Rattle.sg_store.specs.Ground.{Ground}
use Rattle.sg_store.specs.Engine.{View, Sizes, Shown, Rested}

-- the fault is one of the disk
abbrev pub IsTellDisk : TellFault → Type 0
IsTellDisk Disk = Unit {0}
IsTellDisk Memory = ⊥
IsTellDisk Listener = ⊥

-- what isn't one of the disk is no fault of the engine: where it told it tells still, and its count is as it was
abbrev pub IsUntoldQuietly : {basis : Sizes → Ground} → (old new : Shown basis) → TellFault → Type 0
IsUntoldQuietly old new Disk = Unit {0}
IsUntoldQuietly old new Memory = (old.Told → new.Told) × (new.faults ≡ old.faults)
IsUntoldQuietly old new Listener = (old.Told → new.Told) × (new.faults ≡ old.faults)

-- A listener's count of faults, by the answer: it rises where the listener failed, and nowhere else, but where the disk failed, of which nothing is said
abbrev pub CountsBy : {S T : Type 0} → Ears S → (old new : S) → Result T TellFault → Type 0
CountsBy ears old new (Ok x) = ears.faults new ≡ ears.faults old
CountsBy ears old new (Err Disk) = Unit {0}
CountsBy ears old new (Err Memory) = ears.faults new ≡ ears.faults old
CountsBy ears old new (Err Listener) = HasRisen (ears.faults old) (ears.faults new)

-- THE LISTENER is the same one still, and its count doesn't fall
pub record CountsListener {S T : Type 0} (ears : Ears S) (old new : S) (result : Result T TellFault) : Type 0 where
  pub later : ears.faults old ≤ ears.faults new
  pub counted : CountsBy ears old new result
  pub same : ears.who new ≡ ears.who old

-- It heard all parts of the objects that the pages read as, where it was told them to the end, and failed in one of them where it failed. Where something
-- else failed, nothing is said of what it heard. Nothing has changed, unless the disk failed
abbrev pub HasTold : {S : Type 0} → Ears S → (from to : S) → (t : Operations) (g : Ground) → (old new : View g) → g.O → Result ℕ TellFault → Type 0
HasTold ears from to t g old new o (Ok n) = Rested t g old new × HasHeard ears from (parts_of (g.objects o)) to × (n ≡ length (entries (g.objects o)))
HasTold ears from to t g old new o (Err Disk) = Unit {0}
HasTold ears from to t g old new o (Err Memory) = Rested t g old new
HasTold ears from to t g old new o (Err Listener) = Rested t g old new × WasCut ears from (parts_of (g.objects o)) to
