-- Flush, checkpoint, truncation: the run stays, and so does all that a store keeps of it.
use Rattle.std.proofs.Common.{subst, ◌||◌, ◌≡◌, ℕ, ◌≤◌, Bool, true, false, List, [], ◌∷◌, map, Some, None, refl, sym, ap, ◌∙◌, arith}
use Rattle.std.specs.Prelude.{◌==◌, Result, Ok, Err, is_some, slice_get, take, length}
use Rattle.std.specs.Option.{option_map}
use Rattle.sg_base.specs.Ends.{HasRisen}
use Rattle.sg_disk.specs.Disk.{Image, LeavesOnly}
use Rattle.sg_disk.proofs.Moments.{joined, weaker}
use Rattle.sg_ops.specs.Table.{Table as Operations}
use Rattle.sg_serial.specs.Machine.{run}
use Rattle.sg_serial.specs.Runs.{Live, is_live, in_order, AreRising}
use Rattle.sg_model.specs.Step.{step}
use Rattle.sg_model.specs.declared.stop.Stop.TheVariants as stops
use Rattle.sg_core.specs.Live.{Txn, number_of}
use Rattle.sg_run.specs.Run.{Run, Past}
use Rattle.sg_recovery.specs.Log.{tally, is_in}
use Rattle.sg_space.specs.declared.space.SpaceFault.{SpaceFault}
use Rattle.sg_space.specs.declared.space.SpaceFault.TheVariants as spaces
use Rattle.sg_store.specs.declared.fault.Refused.{Refused}
use Rattle.sg_store.specs.declared.fault.Refused.TheVariants as refusals
use Rattle.sg_store.specs.Ground.{Ground, IsLawful}
use Rattle.sg_store.specs.Engine.{View, Rests, Rested, IsNearEnd, IsDiskFault, IsOldest}
use Rattle.sg_store.specs.Stands.{StandsFor, StandsForFirst}
use Rattle.sg_store.specs.Store.{Core, Shows, Runs}
use Rattle.sg_store.specs.Calls.{Goes, Flushes, Checkpoints}
use Rattle.sg_store.specs.Stops.{stop_at, refused_at}
use Rattle.sg_store.proofs.Calls.{goes_same, goes_on, goes_down, call_stands, some_stop, no_stop}
use Rattle.sg_recovery.proofs.Basic.{number_is}
use Rattle.sg_serial.specs.Runs.{AreAbove}
use Rattle.sg_store.proofs.Holding.{rested_kept}
use Rattle.sg_store.proofs.Heeding.{risen_on}

module _ (t : Operations) (g : Ground) (lawful : IsLawful t g) (v : View g) (k : Core) (x : Run) (now : ℕ) (s : Shows t g v k x) where
  pub keeps_stopped : is_some k.stopped ≡ true → Goes t g v x (Flushes v.faults now x (Err refusals.Stopped)) v k
  keeps_stopped e = goes_same t g v k x (Flushes v.faults now x (Err refusals.Stopped)) s (some_stop t g k x e s.stopped, refl)

  pub marks_stopped : is_some k.stopped ≡ true → Goes t g v x (Checkpoints v.tail v.faults now x (Err refusals.Stopped)) v k
  marks_stopped e = goes_same t g v k x (Checkpoints v.tail v.faults now x (Err refusals.Stopped)) s (some_stop t g k x e s.stopped, refl)

  module _ (e : is_some k.stopped ≡ false) where
    none : x.stopped ≡ None
    none = sym s.stopped ∙ no_stop t g k.stopped e

    pub runs : Runs t g v k x
    runs = s.runs none

    pub stays : (Line : Run → Type 0) (w : View g) → Line x → Rests t g v w → Rested t g v w → Goes t g v x Line w k
    stays Line w line r did = goes_on t g v w k k x x Line s none (no_stop t g k.stopped e) (no_stop t g k.stopped e) none refl refl
        (record { is_kept = rested_kept t g lawful v x k.live runs.is_kept w did; held = runs.held }) line (call_stands t g v w v.log x runs.is_kept.logs r.moments)

    pub keeps_done : (w : View g) → Rests t g v w → Rested t g v w → Goes t g v x (Flushes v.faults now x (Ok tt)) w k
    keeps_done w r did = stays (Flushes v.faults now x (Ok tt)) w (none, refl) r did

    pub marks_done : (w : View g) → Rests t g v w → Rested t g v w → Goes t g v x (Checkpoints v.tail v.faults now x (Ok tt)) w k
    marks_done w r did = stays (Checkpoints v.tail v.faults now x (Ok tt)) w (none, refl) r did

    pub keeps_fails : (w : View g) (m : Core) (f : SpaceFault) → m ≡ record k { stopped = Some (stop_at f) } → Rests t g v w → IsDiskFault f → (IsDiskFault f → HasRisen v.faults now) → Goes t g v x (Flushes v.faults now x (Err (refused_at f))) w m
    keeps_fails w m spaces.Disk same r is risen = goes_down t g v w k m x (Flushes v.faults now x (Err refusals.DiskFault)) stops.Disk s (ap (λ (c : Core). c.stopped) same)
        (none, record { after = refl; risen = risen tt }) (call_stands t g v w v.log x runs.is_kept.logs r.moments)
    keeps_fails w m spaces.LogEnd same r is risen = absurd is

    pub marks_fails : (w : View g) (m : Core) (f : SpaceFault) → m ≡ record k { stopped = Some (stop_at f) } → Rests t g v w → (IsDiskFault f → HasRisen v.faults now) → IsNearEnd v.tail f → Goes t g v x (Checkpoints v.tail v.faults now x (Err (refused_at f))) w m
    marks_fails w m spaces.Disk same r risen near = goes_down t g v w k m x (Checkpoints v.tail v.faults now x (Err refusals.DiskFault)) stops.Disk s (ap (λ (c : Core). c.stopped) same)
        (none, record { after = refl; risen = risen tt }) (call_stands t g v w v.log x runs.is_kept.logs r.moments)
    marks_fails w m spaces.LogEnd same r risen near = goes_down t g v w k m x (Checkpoints v.tail v.faults now x (Err refusals.LogEnd)) stops.LogEnd s (ap (λ (c : Core). c.stopped) same)
        (none, refl, near) (call_stands t g v w v.log x runs.is_kept.logs r.moments)

-- A flush behind a checkpoint: both together

-- what was done stays, whatever the flush is answered
pub flush_past : (before now : ℕ) (x y : Run) (r : Result (Unit {0}) Refused) → Flushes before now x r y → y.so_far ≡ x.so_far
flush_past before now x y (Ok done) h = ap (λ (z : Run). z.so_far) h.1
flush_past before now x y (Err refusals.NoTxn) h = absurd h
flush_past before now x y (Err refusals.TooManyLive) h = absurd h
flush_past before now x y (Err (refusals.Busy holder)) h = absurd h
flush_past before now x y (Err refusals.LocksFull) h = absurd h
flush_past before now x y (Err (refusals.Model reason)) h = absurd h
flush_past before now x y (Err (refusals.NoSpace free reserved need)) h = absurd h
flush_past before now x y (Err (refusals.NoBands free need)) h = absurd h
flush_past before now x y (Err refusals.LogEnd) h = absurd h
flush_past before now x y (Err refusals.Memory) h = absurd h
flush_past before now x y (Err refusals.DiskFault) h = ap (λ (z : Run). z.so_far) h.1.after
flush_past before now x y (Err refusals.Stopped) h = ap (λ (z : Run). z.so_far) h.1

-- so it is where the count of faults began before it
flushes_later : (tail before mid now : ℕ) (x y : Run) (r : Result (Unit {0}) Refused) → before ≤ mid → mid ≤ now → Flushes mid now x r y → Checkpoints tail before now x r y
flushes_later tail before mid now x y (Ok done) first then_ h = h
flushes_later tail before mid now x y (Err refusals.NoTxn) first then_ h = absurd h
flushes_later tail before mid now x y (Err refusals.TooManyLive) first then_ h = absurd h
flushes_later tail before mid now x y (Err (refusals.Busy holder)) first then_ h = absurd h
flushes_later tail before mid now x y (Err refusals.LocksFull) first then_ h = absurd h
flushes_later tail before mid now x y (Err (refusals.Model reason)) first then_ h = absurd h
flushes_later tail before mid now x y (Err (refusals.NoSpace free reserved need)) first then_ h = absurd h
flushes_later tail before mid now x y (Err (refusals.NoBands free need)) first then_ h = absurd h
flushes_later tail before mid now x y (Err refusals.LogEnd) first then_ h = absurd h
flushes_later tail before mid now x y (Err refusals.Memory) first then_ h = absurd h
flushes_later tail before mid now x y (Err refusals.DiskFault) first then_ h =
    (h.0, record { after = h.1.after; risen = risen_on before mid now now first then_ (omega arith) h.1.risen })
flushes_later tail before mid now x y (Err refusals.Stopped) first then_ h = h

-- a checkpoint that failed, by where the log ends behind it
failed_by : (tail end before now : ℕ) (x y : Run) (why : Refused) → tail ≤ end → Checkpoints tail before now x (Err why) y → Checkpoints end before now x (Err why) y
failed_by tail end before now x y refusals.NoTxn further h = absurd h
failed_by tail end before now x y refusals.TooManyLive further h = absurd h
failed_by tail end before now x y (refusals.Busy holder) further h = absurd h
failed_by tail end before now x y refusals.LocksFull further h = absurd h
failed_by tail end before now x y (refusals.Model reason) further h = absurd h
failed_by tail end before now x y (refusals.NoSpace free reserved need) further h = absurd h
failed_by tail end before now x y (refusals.NoBands free need) further h = absurd h
failed_by tail end before now x y refusals.LogEnd further h = (let at = h.2 in (h.0, h.1, omega (arith, further, at)))
failed_by tail end before now x y refusals.Memory further h = absurd h
failed_by tail end before now x y refusals.DiskFault further h = h
failed_by tail end before now x y refusals.Stopped further h = h

module _ (t : Operations) (g : Ground) where
  same_past : (x y : Run) → y.so_far ≡ x.so_far → (least : ℕ) (c : Image) → StandsForFirst t g least x c → StandsForFirst t g least y c
  same_past x y e least c s = record {
    commits = s.commits;
    enough = s.enough;
    most = subst (λ (p : Past). s.commits ≤ length p.commits) (sym e) s.most;
    stands = subst (λ (p : Past). StandsFor t g c (run (step t) p.first (in_order (take s.commits p.commits)))) (sym e) s.stands;
  }

  pub settled : (v u w : View g) (l m : Core) (x : Run) (r : Result (Unit {0}) Refused) (h : Goes t g v x (Checkpoints v.tail v.faults u.faults x (Ok tt)) u l)
      → v.faults ≤ u.faults → u.faults ≤ w.faults → Goes t g u h.after (Flushes u.faults w.faults h.after r) w m
      → Goes t g v x (Checkpoints w.tail v.faults w.faults x r) w m
  settled v u w l m x r h first then_ n =
      let same = h.goes.1 in
      record {
        after = n.after;
        goes = flushes_later w.tail v.faults u.faults w.faults x n.after r first then_ (subst (λ (y : Run). Flushes u.faults w.faults y r n.after) same n.goes);
        shows = n.shows;
        moments = joined (weaker h.moments (same_past h.after n.after (flush_past u.faults w.faults h.after n.after r n.goes) x.so_far.answered))
            (subst (λ (y : Run). LeavesOnly u.disk w.disk (StandsForFirst t g y.so_far.answered n.after)) same n.moments);
      }

  pub unsettled : (v u : View g) (l : Core) (x : Run) (why : Refused) → v.tail ≤ u.tail → Goes t g v x (Checkpoints v.tail v.faults u.faults x (Err why)) u l → Goes t g v x (Checkpoints u.tail v.faults u.faults x (Err why)) u l
  unsettled v u l x why further h = record { after = h.after; goes = failed_by v.tail u.tail v.faults u.faults x h.after why further h.goes; shows = h.shows; moments = h.moments }

-- the live transaction that began first, as a store has it, is the oldest of the log's
above_all : (n u : ℕ) (ls : List Live) → AreAbove n ls → is_live ls u ≡ true → n ≤ u
above_all n u [] above e = absurd (cc)
above_all n u (l ∷ ls) above e = by_test (l.transaction == u) refl (λ z. above_all n u ls above.1 z)
  where
    by_test : (b : Bool) → (l.transaction == u) ≡ b → (is_live ls u ≡ true → n ≤ u) → n ≤ u
    by_test true z f = let same : l.transaction ≡ u = number_is l.transaction u z in let lt = above.0 in omega (arith, same, lt)
    by_test false z f = f (ap (λ b. b || is_live ls u) (sym z) ∙ e)

first_least : (txns : List Txn) (ls : List Live) → map (λ (l : Txn). l.transaction) txns ≡ map (λ (l : Live). l.transaction) ls → AreRising ls → (live : List ℕ) → ((u : ℕ) → is_in u live ≡ is_live ls u) → IsOldest (option_map number_of (slice_get txns 0)) live
first_least [] [] e rising live same = λ u z. never (sym (same u) ∙ z)
  where
    never : false ≡ true → ⊥
    never z = absurd (cc)
first_least [] (l ∷ ls) e rising live same = absurd (cc)
first_least (k ∷ ks) [] e rising live same = absurd (cc)
first_least (k ∷ ks) (l ∷ ls) e rising live same = λ u z. by_test u (l.transaction == u) refl (sym (same u) ∙ z)
  where
    first : k.transaction ≡ l.transaction
    first = cc

    by_test : (u : ℕ) (b : Bool) → (l.transaction == u) ≡ b → (l.transaction == u || is_live ls u) ≡ true → k.transaction ≤ u
    by_test u true z h = let same : l.transaction ≡ u = number_is l.transaction u z in let f : k.transaction ≡ l.transaction = first in omega (arith, same, f)
    by_test u false z h = let le : l.transaction ≤ u = above_all l.transaction u ls rising.0 (ap (λ b. b || is_live ls u) (sym z) ∙ h) in let f : k.transaction ≡ l.transaction = first in omega (arith, le, f)

pub oldest_is : (t : Operations) (g : Ground) (v : View g) (k : Core) (x : Run) → Runs t g v k x → IsOldest (option_map number_of (slice_get k.live 0)) (tally v.log).live
oldest_is t g v k x r = first_least k.live x.so_far.live r.is_kept.live r.is_kept.logs.sound.serial.rising (tally v.log).live r.is_kept.logs.same.lives
