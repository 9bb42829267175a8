-- How a store tells of its objects and is checked.
use Rattle.std.specs.Prelude.{◌≡◌, ◌≤◌, ℕ, List, Option, None, IsSome, length, Result, Ok, Err}
use Rattle.std.specs.FinMap.{entries}
use Rattle.sg_base.specs.Ends.{HasRisen, Takes, TakesFront}
use Rattle.sg_lines.specs.Heard.{Ears, HasHeard, WasCut}
use Rattle.sg_lines.specs.Parts.{lines_of, parts_of}
use Rattle.sg_lines.specs.Summed.{summary_of}
use Rattle.sg_lines.specs.Text.{text_of}
use Rattle.sg_lines.specs.declared.summary.Summary.{Summary}
use Rattle.sg_model.specs.Objects.{Objects}
use Rattle.sg_ops.specs.Table.{Table as Operations}
use Rattle.sg_run.specs.Numbers.{IsBroken}
use Rattle.sg_run.specs.Run.{Run, live_objects}
use Rattle.sg_store.specs.declared.fault.CheckRefused.{CheckRefused}
use Rattle.sg_store.specs.declared.fault.CheckRefused.TheVariants as checks
use Rattle.sg_store.specs.declared.fault.Untold.{Untold}
use Rattle.sg_store.specs.declared.fault.Untold.TheVariants as untold
use Rattle.sg_store.specs.Ground.{Ground}
use Rattle.sg_store.specs.Engine.{View, Sizes, Shown}
use Rattle.sg_store.specs.Rests.{HasObjects}
use Rattle.sg_store.specs.Store.{Core}
use Rattle.sg_store.specs.Causes.{BreaksFor}

-- The count of faults of who is told, by the answer: it rises where that failed, and nowhere else, but where the disk failed, of which nothing is said
abbrev pub FailsBy : {T : Type 0} → (before now : ℕ) → Result T Untold → Type 0
FailsBy before now (Ok n) = now ≡ before
FailsBy before now (Err untold.DiskFault) = Unit {0}
FailsBy before now (Err untold.Stopped) = now ≡ before
FailsBy before now (Err untold.Memory) = now ≡ before
FailsBy before now (Err untold.Listener) = HasRisen before now

-- the listener is the same one still, and its count doesn't fall
pub record HearsOn {S T : Type 0} (ears : Ears S) (old new : S) (result : Result T Untold) : Type 0 where
  pub later : ears.faults old ≤ ears.faults new
  pub counted : FailsBy (ears.faults old) (ears.faults new) result
  pub same : ears.who new ≡ ears.who old

-- A STORE THAT SHOWS x TELLS OF ITS OBJECTS, whose parts the listener heard to the end, or in one of which it failed; and the run behind it, which is the
-- same one unless the disk failed
abbrev pub Tells : {S : Type 0} → Ears S → (from to : S) → (t : Operations) → (before now : ℕ) → Run → Result ℕ Untold → Run → Type 0
Tells ears from to t before now x (Ok n) y = (x.stopped ≡ None) × (y ≡ x) × HasHeard ears from (parts_of (live_objects t x)) to × (n ≡ length (entries (live_objects t x)))
Tells ears from to t before now x (Err untold.DiskFault) y = (x.stopped ≡ None) × IsBroken before now x y
Tells ears from to t before now x (Err untold.Stopped) y = IsSome x.stopped × (y ≡ x)
Tells ears from to t before now x (Err untold.Memory) y = (x.stopped ≡ None) × (y ≡ x)
Tells ears from to t before now x (Err untold.Listener) y = (x.stopped ≡ None) × (y ≡ x) × WasCut ears from (parts_of (live_objects t x)) to

-- THE TEXT OF ITS OBJECTS IS WRITTEN to a sink, to the end, or a front of it where the sink failed; and the run behind it
abbrev pub Writes : (had has : Option (List ℕ)) → (t : Operations) → (before now : ℕ) → Run → Result (Unit {0}) Untold → Run → Type 0
Writes had has t before now x (Ok done) y = (x.stopped ≡ None) × (y ≡ x) × Takes had (text_of (live_objects t x)) has
Writes had has t before now x (Err untold.DiskFault) y = (x.stopped ≡ None) × IsBroken before now x y
Writes had has t before now x (Err untold.Stopped) y = IsSome x.stopped × (y ≡ x)
Writes had has t before now x (Err untold.Memory) y = (x.stopped ≡ None) × (y ≡ x)
Writes had has t before now x (Err untold.Listener) y = (x.stopped ≡ None) × (y ≡ x) × TakesFront had (text_of (live_objects t x)) has

-- the lines of its objects are, without the last line, and how many objects there are is given
abbrev pub WritesLines : (had has : Option (List ℕ)) → (t : Operations) → (before now : ℕ) → Run → Result ℕ Untold → Run → Type 0
WritesLines had has t before now x (Ok n) y = (x.stopped ≡ None) × (y ≡ x) × Takes had (lines_of (parts_of (live_objects t x))) has
    × (n ≡ length (entries (live_objects t x)))
WritesLines had has t before now x (Err untold.DiskFault) y = (x.stopped ≡ None) × IsBroken before now x y
WritesLines had has t before now x (Err untold.Stopped) y = IsSome x.stopped × (y ≡ x)
WritesLines had has t before now x (Err untold.Memory) y = (x.stopped ≡ None) × (y ≡ x)
WritesLines had has t before now x (Err untold.Listener) y = (x.stopped ≡ None) × (y ≡ x) × TakesFront had (lines_of (parts_of (live_objects t x))) has

-- it is checked: this is the summary of its objects
abbrev pub Checks : (t : Operations) → (before now : ℕ) → Run → Result Summary CheckRefused → Run → Type 0
Checks t before now x (Ok s) y = (x.stopped ≡ None) × (y ≡ x) × (s ≡ summary_of (live_objects t x))
Checks t before now x (Err checks.DiskFault) y = (x.stopped ≡ None) × IsBroken before now x y
Checks t before now x (Err checks.Stopped) y = IsSome x.stopped × (y ≡ x)
Checks t before now x (Err checks.Memory) y = (x.stopped ≡ None) × (y ≡ x)

-- why it was answered so, on any engine
abbrev pub TellsFor : {T : Type 0} {basis : Sizes → Ground} → (old new : Shown basis) → (k m : Core) → Result T Untold → Type 0
TellsFor old new k m (Ok n) = (k.stopped ≡ None) × (m ≡ k)
TellsFor old new k m (Err untold.DiskFault) = (k.stopped ≡ None) × BreaksFor old new k m
TellsFor old new k m (Err untold.Stopped) = IsSome k.stopped × (m ≡ k)
TellsFor old new k m (Err untold.Memory) = (k.stopped ≡ None) × (m ≡ k)
TellsFor old new k m (Err untold.Listener) = (k.stopped ≡ None) × (m ≡ k)

abbrev pub ChecksFor : {T : Type 0} {basis : Sizes → Ground} → (old new : Shown basis) → (k m : Core) → Result T CheckRefused → Type 0
ChecksFor old new k m (Ok s) = (k.stopped ≡ None) × (m ≡ k)
ChecksFor old new k m (Err checks.DiskFault) = (k.stopped ≡ None) × BreaksFor old new k m
ChecksFor old new k m (Err checks.Stopped) = IsSome k.stopped × (m ≡ k)
ChecksFor old new k m (Err checks.Memory) = (k.stopped ≡ None) × (m ≡ k)

-- WHAT AN APPLICATION MAY REST ON: the listener has heard the parts of the store's objects, of which there are so many, and the store has these still
pub record HasToldAll {S : Type 0} (ears : Ears S) (from to : S) (n : ℕ) (live : List ℕ) (objects durable : Objects) (k : Core) (t : Operations) (g : Ground) (v : View g) : Type 0 where
  pub heard : HasHeard ears from (parts_of objects) to
  pub count : n ≡ length (entries objects)
  pub has : HasObjects live objects durable k t g v

-- the sink has taken their text
pub record HasWritten (had now : Option (List ℕ)) (live : List ℕ) (objects durable : Objects) (k : Core) (t : Operations) (g : Ground) (v : View g) : Type 0 where
  pub took : Takes had (text_of objects) now
  pub has : HasObjects live objects durable k t g v

-- or this is their summary
pub record HasChecked (s : Summary) (live : List ℕ) (objects durable : Objects) (k : Core) (t : Operations) (g : Ground) (v : View g) : Type 0 where
  pub sum : s ≡ summary_of objects
  pub has : HasObjects live objects durable k t g v
