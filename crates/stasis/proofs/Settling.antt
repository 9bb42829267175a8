-- What a close leaves.
use Rattle.std.proofs.Common.{◌≡◌, ℕ, ◌<◌, ◌≤◌, List, length, take, None, refl, sym, ap, ◌∙◌, subst, arith}
use Rattle.std.specs.Prelude.{Result, Ok, Err, OnOk}
use Rattle.std.proofs.Math.Seq.{take-length}
use Rattle.sg_base.specs.declared.area.Area.{Area}
use Rattle.sg_disk.specs.Disk as disk
use Rattle.sg_disk.specs.Disk.{Image, Leaves, LeavesOnly}
use Rattle.sg_disk.proofs.Moments.{weaker}
use Rattle.sg_ops.specs.Table.{Table as Operations}
use Rattle.sg_serial.specs.Machine.{run}
use Rattle.sg_serial.specs.Runs.{in_order}
use Rattle.sg_model.specs.Objects.{Objects}
use Rattle.sg_model.specs.Step.{step}
use Rattle.sg_run.specs.Run.{Run, Event, Past, committed_objects, objects_after}
use Rattle.sg_run.specs.Numbers.{Refusal, Checkpoints}
use Rattle.sg_run.specs.Numbers.Refusal.{Stopped, NoTransaction, TooManyLive, Busy, LocksFull, Because, NoSpace, NoBands, LogEnd, Memory, Disk}
use Rattle.sg_store.specs.declared.fault.Refused.{Refused}
use Rattle.sg_store.specs.Calls as calls
use Rattle.sg_store.specs.Calls.{Goes}
use Rattle.sg_store.specs.Causes.{ClosesFor}
use Rattle.sg_store.specs.Engine.{AsMeant, AskedBy, Shown, Sizes, View, led}
use Rattle.sg_store.specs.Ground.{Ground, IsLawful}
use Rattle.sg_store.specs.Heeds.{Heeds}
use Rattle.sg_store.specs.Refusals.{said_done}
use Rattle.sg_store.specs.Rests.{HasObjects}
use Rattle.sg_store.specs.Stands.{StandsFor, StandsForFirst}
use Rattle.sg_store.specs.Stops.{stop_behind}
use Rattle.sg_store.specs.Store.{Core, Shows}

-- behind a checkpoint, whatever it was answered, transactions have done what they had
past_stays : (tail before now : ℕ) (x y : Run) (r : Result (Unit {0}) Refusal) → Checkpoints tail before now x r y → y.so_far ≡ x.so_far
past_stays tail before now x y (Ok done) h = ap (λ (z : Run). z.so_far) h.1
past_stays tail before now x y (Err Stopped) h = ap (λ (z : Run). z.so_far) h.1
past_stays tail before now x y (Err NoTransaction) h = absurd h
past_stays tail before now x y (Err TooManyLive) h = absurd h
past_stays tail before now x y (Err (Busy holder)) h = absurd h
past_stays tail before now x y (Err LocksFull) h = absurd h
past_stays tail before now x y (Err (Because reason)) h = absurd h
past_stays tail before now x y (Err (NoSpace free reserved need)) h = absurd h
past_stays tail before now x y (Err (NoBands free need)) h = absurd h
past_stays tail before now x y (Err LogEnd) h = ap (λ (z : Run). z.so_far) h.1
past_stays tail before now x y (Err Memory) h = absurd h
past_stays tail before now x y (Err Disk) h = ap (λ (z : Run). z.so_far) h.1.after

-- the objects after all commits of a run that has done the same
after_all : (t : Operations) (x y : Run) → y.so_far ≡ x.so_far → objects_after t (length x.so_far.commits) y ≡ committed_objects t x
after_all t x y same =
    ap (λ (p : Past). run (step t) p.first (in_order (take (length x.so_far.commits) p.commits))) same
    ∙ ap (λ (es : List (List Event)). run (step t) x.so_far.first (in_order es)) (take-length x.so_far.commits)

module _ (t : Operations) (g : Ground) (v w : View g) (k m : Core) (live : List ℕ) (objects durable : Objects) (h : HasObjects live objects durable k t g v) where
  -- an image of a checkpoint of a store that goes on
  image_keeps : (y : Run) → y.so_far ≡ h.run.so_far → (c : Image) → StandsForFirst t g h.run.so_far.answered y c → StandsFor t g c durable
  image_keeps y same c s =
      let all : h.run.so_far.answered ≡ length h.run.so_far.commits = (h.shows.runs h.running).is_kept.answered in
      let most : s.commits ≤ length h.run.so_far.commits = subst (λ (p : Past). s.commits ≤ length p.commits) same s.most in
      let count : s.commits ≡ length h.run.so_far.commits = omega (arith, s.enough, all, most) in
      subst (StandsFor t g c) (ap (λ (n : ℕ). objects_after t n y) count ∙ (after_all t h.run y same ∙ h.durable_are)) s.stands

  pub moments_keep : (tail before now : ℕ) (r : Result (Unit {0}) Refused) → Goes t g v h.run (calls.Checkpoints tail before now h.run r) w m
      → LeavesOnly v.disk w.disk (λ c. StandsFor t g c durable)
  moments_keep tail before now r go = weaker go.moments (image_keeps go.after (past_stays tail before now h.run go.after (said_done r) go.goes))

-- of an engine that told
pub close_keeps : {basis : Sizes → Ground} (t : Operations) (old new : Shown basis) (k : Core) (r : Result (Unit {0}) Refused)
    → AsMeant old new (λ t g v w. (x : Run) → IsLawful t g → Shows t g v k x → (m : Core) × Goes t g v x (calls.Checkpoints w.tail v.faults w.faults x r) w m)
    → (live : List ℕ) (objects durable : Objects) (told : old.Told) (a : AskedBy t old (HasObjects live objects durable k t))
    → LeavesOnly old.disk new.disk (λ c. StandsFor t (basis a.sizes) c durable)
close_keeps {basis} t old new k r closes live objects durable told a =
    let from = a.from told in
    let v = led t a.sizes from old in
    let w = led t a.sizes from new in
    let has : HasObjects live objects durable k t (basis a.sizes) v = a.can told in
    let p = closes t a.sizes from (a.means told) told has.run has.lawful has.shows in
    moments_keep t (basis a.sizes) v w k p.0 live objects durable has w.tail v.faults w.faults r p.1

-- where it is done no call of the disk failed
pub close_heeds : {basis : Sizes → Ground} (old new : Shown basis) (k m : Core) (r : Result (Unit {0}) Refused) → ClosesFor old new k m r → Heeds k.stopped (stop_behind k.stopped r) old new
    → OnOk r (new.disk.faults ≡ old.disk.faults)
close_heeds old new k m (Ok done) c h = h.heeded (λ e. let none : k.stopped ≡ None = c.0 in absurd (cc))
close_heeds old new k m (Err why) c h = tt

-- what reads give of a disk is one of the images that a crash leaves
pub reads_leave : (s : disk.State) → ((a : Area) (i : ℕ) → (s a).seen i < 256) → Leaves s (λ a. (s a).seen)
reads_leave s bytes a = record { byte = bytes a; rest = λ i h. refl }
