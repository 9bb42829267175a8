-- The live transactions abort at the end, one after another, and then a checkpoint is made and all is written home.
use Rattle.std.proofs.Common.{◌≡◌, inl, inr, ℕ, suc, ◌<◌, ◌≤◌, Bool, true, false, cond, not, List, [], ◌∷◌, length, Option, Some, None, refl, sym, ap, ◌∙◌, subst, arith}
use Rattle.std.specs.Prelude.{◌==◌, ◌||◌, Result, Ok, Err, take, IsSome, is_some}
use Rattle.std.specs.Option.{option_map}
use Rattle.std.proofs.lemmas.Bool.{eq-eqb}
use Rattle.sg_disk.specs.Disk.{Image, LeavesOnly}
use Rattle.sg_disk.proofs.Moments.{started, weaker, joined}
use Rattle.sg_ops.specs.Table.{Table as Operations}
use Rattle.sg_serial.specs.Machine.{run}
use Rattle.sg_serial.specs.Runs.{Live, is_live, in_order, without}
use Rattle.sg_model.specs.declared.stop.Stop.{Stop}
use Rattle.sg_model.specs.declared.stop.Stop.TheVariants as stops
use Rattle.sg_model.specs.Objects.{Objects}
use Rattle.sg_model.specs.Step.{step}
use Rattle.sg_run.specs.Run.{Run, Event, objects_after}
use Rattle.sg_run.specs.Numbers.{Refusal, Aborts as AbortsSo}
use Rattle.sg_run.specs.Numbers.Refusal.{Stopped, NoTransaction, TooManyLive, Busy, LocksFull, Because, NoSpace, NoBands, LogEnd, Memory, Disk}
use Rattle.sg_store.specs.declared.fault.Refused.{Refused}
use Rattle.sg_store.specs.declared.fault.Refused.TheVariants as refusals
use Rattle.sg_store.specs.Refusals.{said_done, said_refusal}
use Rattle.sg_store.specs.Stops.{stop_behind}
use Rattle.sg_store.specs.Ground.{Ground, IsLawful}
use Rattle.sg_store.proofs.Maintaining.{marks_stopped}
use Rattle.sg_store.specs.Engine.{View}
use Rattle.sg_store.specs.Stands.{StandsFor, StandsForFirst}
use Rattle.sg_store.specs.Calls.{Goes, Aborts, Checkpoints}
use Rattle.sg_store.specs.Store as stores
use Rattle.sg_session.specs.Names.{unmarked, all_unmarked, first_live}
use Rattle.sg_session.specs.Shows.{Core, Shows}
use Rattle.sg_session.specs.Ending.{AbortsAll, AddsNone, HasAborted, AreAborting, IsClosed, IsEnded}
use Rattle.sg_session.specs.Ending.AbortInOrder.{none, and_first}
use Rattle.sg_session.proofs.Commits.{abort_keeps, checkpoint_keeps, after_all, same_objects}
use Rattle.sg_session.proofs.Named.{aborted_live, abort_live}
use Rattle.sg_session.proofs.Unmarked.{first_unmarked, found, none_found}

-- fewer are live without the first
shorter_step : (b : Bool) (l : Live) (rest : List Live) (n : ℕ) → length rest ≤ n → length (cond b (l ∷ rest) rest) ≤ suc n
shorter_step true l rest n le = omega arith
shorter_step false l rest n le = omega arith

shorter : (u : ℕ) (ls : List Live) → length (without u ls) ≤ length ls
shorter u [] = omega arith
shorter u (l ∷ ls) = (shorter_step (not (l.transaction == u)) l (without u ls) (length ls) (shorter u ls))

gone_step : (b : Bool) (l : Live) (rest : List Live) (n : ℕ) → b ≡ false → length rest ≤ n → length (cond b (l ∷ rest) rest) < suc n
gone_step true l rest n e le = absurd (cc)
gone_step false l rest n e le = omega arith

pub fewer : (ls : List Live) (l : Live) → first_live ls ≡ Some l → length (without l.transaction ls) < length ls
fewer [] l e = absurd (cc)
fewer (m ∷ ls) l e =
    let p : m ≡ l = cc in
    (gone_step (not (m.transaction == l.transaction)) m (without l.transaction ls) (length ls) (ap not (eq-eqb m.transaction l.transaction (ap (λ (k : Live). k.transaction) p))) (shorter l.transaction ls))

pub none_first : (ls : List Live) → first_live ls ≡ None → ls ≡ []
none_first [] e = refl
none_first (l ∷ ls) e = absurd (cc)

first_is_live : (ls : List Live) (l : Live) → first_live ls ≡ Some l → is_live ls l.transaction ≡ true
first_is_live [] l e = absurd (cc)
first_is_live (m ∷ ls) l e = let p : m ≡ l = cc in ap (λ (b : Bool). b || is_live ls l.transaction) (eq-eqb m.transaction l.transaction (ap (λ (k : Live). k.transaction) p))

adds_self : (x : Run) → AddsNone x x
adds_self x = record { first = refl; commits = refl; answered = refl }

adds_then : (x y z : Run) → AddsNone x y → AddsNone y z → AddsNone x z
adds_then x y z h k = record { first = k.first ∙ h.first; commits = k.commits ∙ h.commits; answered = k.answered ∙ h.answered }

-- a run that hasn't stopped behind an abort had not before it
still_going : (tail before now u : ℕ) (x y : Run) (r : Result (Unit {0}) Refusal) → AbortsSo tail before now u x r y → y.stopped ≡ None → x.stopped ≡ None
still_going tail before now u x y (Ok done) h e = h.0
still_going tail before now u x y (Err Stopped) h e = ap (λ (z : Run). z.stopped) (sym h.1) ∙ e
still_going tail before now u x y (Err NoTransaction) h e = h.0
still_going tail before now u x y (Err TooManyLive) h e = absurd h
still_going tail before now u x y (Err (Busy holder)) h e = absurd h
still_going tail before now u x y (Err LocksFull) h e = absurd h
still_going tail before now u x y (Err (Because reason)) h e = absurd h
still_going tail before now u x y (Err (NoSpace free reserved need)) h e = absurd h
still_going tail before now u x y (Err (NoBands free need)) h e = absurd h
still_going tail before now u x y (Err LogEnd) h e = h.0
still_going tail before now u x y (Err Memory) h e = absurd h
still_going tail before now u x y (Err Disk) h e = h.0

module _ (t : Operations) (g : Ground) where
  -- what a session shows behind an abort
  pub aborted_shows : (v w : View g) (k : Core) (m : stores.Core) (left : List Live) (u : ℕ) (x : Run) → Shows t g v k x → left ≡ without u k.names → Goes t g v x (Aborts w.tail v.faults w.faults u x (Ok tt)) w m → (y : Run) × Shows t g w (record { store = m; names = left }) y
  aborted_shows v w k m left u x shows same goes = (
    goes.after,
    record {
      store = goes.shows;
      names = λ e. same ∙ (ap (λ (ls : List Live). without u ls) (shows.names (still_going w.tail v.faults w.faults u x goes.after (Ok tt) goes.goes e)) ∙ sym (aborted_live w.tail v.faults w.faults u x goes.after goes.goes));
    },
  )

  pub failed_shows : (v w : View g) (k : Core) (m : stores.Core) (u : ℕ) (x : Run) (why : Refused) → Shows t g v k x → Goes t g v x (Aborts w.tail v.faults w.faults u x (Err why)) w m → (y : Run) × Shows t g w (record { store = m; names = k.names }) y
  failed_shows v w k m u x why shows goes = (
    goes.after,
    record {
      store = goes.shows;
      names = λ e. shows.names (still_going w.tail v.faults w.faults u x goes.after (Err (said_refusal why)) goes.goes e) ∙ sym (abort_live w.tail v.faults w.faults u x goes.after why goes.goes);
    },
  )

  stands_before : (x y : Run) (least : ℕ) → AddsNone x y → (c : Image) → StandsForFirst t g least y c → StandsForFirst t g least x c
  stands_before x y least a c s = record {
    commits = s.commits;
    enough = s.enough;
    most = subst (λ (cs : List (List Event)). s.commits ≤ length cs) a.commits s.most;
    stands = subst (StandsFor t g c) (ap (λ (cs : List (List Event)). run (step t) y.so_far.first (in_order (take s.commits cs))) a.commits ∙ ap (λ (o : Objects). run (step t) o (in_order (take s.commits x.so_far.commits))) a.first) s.stands;
  }

  -- nothing has aborted yet
  pub none_aborted : (v : View g) (x : Run) (k : Core) → k.store.stopped ≡ None → Shows t g v k x → AreAborting t g v x v k
  none_aborted v x k running shows = record {
    mid = x;
    done = none;
    going = sym shows.store.stopped ∙ running;
    adds_none = adds_self x;
    shows = shows;
    moments = started v.disk (StandsForFirst t g x.so_far.answered x) shows.store.images;
  }

  module _ (v : View g) (x : Run) (w : View g) (m : Core) (h : AreAborting t g v x w m) where
    names : m.names ≡ all_unmarked h.mid.so_far.live
    names = h.shows.names h.going

    -- the first one that is live, by the names
    first_of : (o : Option Live) → o ≡ first_live m.names → o ≡ option_map unmarked (first_live h.mid.so_far.live)
    first_of o is = is ∙ (ap first_live names ∙ first_unmarked h.mid.so_far.live)

    -- the moments of one call more
    along : (u : View g) (y : Run) → AddsNone h.mid y → LeavesOnly w.disk u.disk (StandsForFirst t g h.mid.so_far.answered y) → LeavesOnly v.disk u.disk (StandsForFirst t g x.so_far.answered x)
    along u y a l = joined h.moments (weaker l (λ c s. stands_before x y x.so_far.answered (adds_then x h.mid y h.adds_none a) c (subst (λ (n : ℕ). StandsForFirst t g n y c) h.adds_none.answered s)))

    pub one_aborted : (u : View g) (n : stores.Core) (left : List Live) (l : Live) → Some l ≡ first_live m.names → left ≡ without l.transaction m.names
        → Goes t g w h.mid (Aborts u.tail w.faults u.faults l.transaction h.mid (Ok tt)) u n → AreAborting t g v x u (record { store = n; names = left })
    one_aborted u n left l is without_it goes =
        let a = abort_keeps u.tail w.faults u.faults l.transaction h.mid goes.after (Ok tt) goes.goes in
        let p = found (first_live h.mid.so_far.live) l (first_of (Some l) is) in
        record {
          mid = goes.after;
          done = and_first h.mid goes.after p.0 u.tail w.faults u.faults h.done p.1 (subst (λ (i : ℕ). AbortsSo u.tail w.faults u.faults i h.mid (Ok tt) goes.after) (sym p.2) goes.goes);
          going = ap (λ (r : Run). r.stopped) goes.goes.2 ∙ h.going;
          adds_none = adds_then x h.mid goes.after h.adds_none a;
          shows = record {
            store = goes.shows;
            names = λ e. without_it ∙ (ap (λ (ls : List Live). without l.transaction ls) names ∙ sym (aborted_live u.tail w.faults u.faults l.transaction h.mid goes.after goes.goes));
          };
          moments = along u goes.after a goes.moments;
        }

    stopped_or_same : (tail before now : ℕ) (l : Live) (y : Run) (why : Refusal) → first_live h.mid.so_far.live ≡ Some l → AbortsSo tail before now l.transaction h.mid (Err why) y → y.stopped ≡ None → ⊥
    stopped_or_same tail before now l y Stopped is a e = never h.mid.stopped a.0 h.going
      where
        never : (s : Option Stop) → IsSome s → s ≡ None → ⊥
        never None some none_ = cc
        never (Some why) some none_ = cc
    stopped_or_same tail before now l y NoTransaction is a e = never (sym (first_is_live h.mid.so_far.live l is) ∙ a.1)
      where
        never : true ≡ false → ⊥
        never q = cc
    stopped_or_same tail before now l y TooManyLive is a e = a
    stopped_or_same tail before now l y (Busy holder) is a e = a
    stopped_or_same tail before now l y LocksFull is a e = a
    stopped_or_same tail before now l y (Because reason) is a e = a
    stopped_or_same tail before now l y (NoSpace free reserved need) is a e = a
    stopped_or_same tail before now l y (NoBands free need) is a e = a
    stopped_or_same tail before now l y LogEnd is a e = never (sym (ap (λ (r : Run). r.stopped) a.2) ∙ e)
      where
        never : Some stops.LogEnd ≡ None → ⊥
        never q = cc
    stopped_or_same tail before now l y Memory is a e = a
    stopped_or_same tail before now l y Disk is a e = never (sym (ap (λ (r : Run). r.stopped) a.2.after) ∙ e)
      where
        never : Some stops.Disk ≡ None → ⊥
        never q = cc

    pub abort_failed : (u : View g) (n : stores.Core) (l : Live) (why : Refused) → Some l ≡ first_live m.names
        → Goes t g w h.mid (Aborts u.tail w.faults u.faults l.transaction h.mid (Err why)) u n → HasAborted t g v x u (record { store = n; names = m.names })
    abort_failed u n l why is goes =
        let a = abort_keeps u.tail w.faults u.faults l.transaction h.mid goes.after (Err (said_refusal why)) goes.goes in
        let p = found (first_live h.mid.so_far.live) l (first_of (Some l) is) in
        let fails : AbortsSo u.tail w.faults u.faults p.0.transaction h.mid (Err (said_refusal why)) goes.after = subst (λ (i : ℕ). AbortsSo u.tail w.faults u.faults i h.mid (Err (said_refusal why)) goes.after) (sym p.2) goes.goes in
        record {
          after = goes.after;
          aborts = record { mid = h.mid; done = h.done; over = inr (record { first = p.0; is_first = p.1; why = said_refusal why; tail = u.tail; before = w.faults; now = u.faults; fails = fails }) };
          none_live = λ e. absurd (stopped_or_same u.tail w.faults u.faults p.0 goes.after (said_refusal why) p.1 fails e);
          adds_none = adds_then x h.mid goes.after h.adds_none a;
          shows = record { store = goes.shows; names = λ e. absurd (stopped_or_same u.tail w.faults u.faults p.0 goes.after (said_refusal why) p.1 fails e) };
          moments = along u goes.after a goes.moments;
        }

    pub all_aborted : None ≡ first_live m.names → HasAborted t g v x w m
    all_aborted is = record {
      after = h.mid;
      aborts = record { mid = h.mid; done = h.done; over = inl (none_first h.mid.so_far.live (none_found (first_live h.mid.so_far.live) (first_of None is)), refl) };
      none_live = λ e. none_first h.mid.so_far.live (none_found (first_live h.mid.so_far.live) (first_of None is));
      adds_none = h.adds_none;
      shows = h.shows;
      moments = h.moments;
    }

  -- a session that has stopped aborts nothing
  down : (s : Option Stop) → IsSome s → s ≡ None → ⊥
  down None some e = cc
  down (Some why) some e = cc

  -- how the last checkpoint leaves why a store has stopped
  stop_then : (tail before now : ℕ) (s : Option Stop) (x y : Run) (r : Result (Unit {0}) Refused) → s ≡ x.stopped → Checkpoints tail before now x r y → stop_behind s r ≡ y.stopped
  stop_then tail before now s x y (Ok done) is h = is ∙ sym (ap (λ (z : Run). z.stopped) h.1)
  stop_then tail before now s x y (Err refusals.NoTxn) is h = absurd h
  stop_then tail before now s x y (Err refusals.TooManyLive) is h = absurd h
  stop_then tail before now s x y (Err (refusals.Busy holder)) is h = absurd h
  stop_then tail before now s x y (Err refusals.LocksFull) is h = absurd h
  stop_then tail before now s x y (Err (refusals.Model reason)) is h = absurd h
  stop_then tail before now s x y (Err (refusals.NoSpace free reserved need)) is h = absurd h
  stop_then tail before now s x y (Err (refusals.NoBands free need)) is h = absurd h
  stop_then tail before now s x y (Err refusals.LogEnd) is h = sym (ap (λ (z : Run). z.stopped) h.1)
  stop_then tail before now s x y (Err refusals.Memory) is h = absurd h
  stop_then tail before now s x y (Err refusals.DiskFault) is h = sym (ap (λ (z : Run). z.stopped) h.1.after)
  stop_then tail before now s x y (Err refusals.Stopped) is h = is ∙ sym (ap (λ (z : Run). z.stopped) h.1)

  -- a run that hasn't stopped behind a checkpoint is as it was
  settled_same : (tail before now : ℕ) (x y : Run) (r : Result (Unit {0}) Refused) → Checkpoints tail before now x r y → y.stopped ≡ None → y ≡ x
  settled_same tail before now x y (Ok done) h e = h.1
  settled_same tail before now x y (Err refusals.NoTxn) h e = absurd h
  settled_same tail before now x y (Err refusals.TooManyLive) h e = absurd h
  settled_same tail before now x y (Err (refusals.Busy holder)) h e = absurd h
  settled_same tail before now x y (Err refusals.LocksFull) h e = absurd h
  settled_same tail before now x y (Err (refusals.Model reason)) h e = absurd h
  settled_same tail before now x y (Err (refusals.NoSpace free reserved need)) h e = absurd h
  settled_same tail before now x y (Err (refusals.NoBands free need)) h e = absurd h
  settled_same tail before now x y (Err refusals.LogEnd) h e = absurd (never (sym (ap (λ (z : Run). z.stopped) h.1) ∙ e))
    where
      never : Some stops.LogEnd ≡ None → ⊥
      never q = cc
  settled_same tail before now x y (Err refusals.Memory) h e = absurd h
  settled_same tail before now x y (Err refusals.DiskFault) h e = absurd (never (sym (ap (λ (z : Run). z.stopped) h.1.after) ∙ e))
    where
      never : Some stops.Disk ≡ None → ⊥
      never q = cc
  settled_same tail before now x y (Err refusals.Stopped) h e = h.1

  module _ (v w u : View g) (x : Run) (k : stores.Core) (y : Run) (shows : stores.Shows t g w k y) (adds : AddsNone x y) (none_live : y.stopped ≡ None → y.so_far.live ≡ [])
      (moments : LeavesOnly v.disk w.disk (StandsForFirst t g x.so_far.answered x)) (aborts : x.stopped ≡ None → AbortsAll x y) (left : IsSome x.stopped → y ≡ x)
      (r : Result (Unit {0}) Refused) (n : stores.Core) (goes : Goes t g w y (Checkpoints u.tail w.faults u.faults y r) u n) where
    pub ended : IsEnded t g v x (stop_behind k.stopped r) u
    ended =
        let a = checkpoint_keeps u.tail w.faults u.faults y goes.after (said_done r) goes.goes in
        let stop = stop_then u.tail w.faults u.faults k.stopped y goes.after r shows.stopped goes.goes in
        record {
          aborted = y;
          aborts = aborts;
          left = left;
          after = goes.after;
          outcome = said_done r;
          tail = u.tail;
          before = w.faults;
          now = u.faults;
          written = goes.goes;
          adds_none = adds_then x y goes.after adds a;
          stopped_is = stop;
          none_live = λ e. (let same = settled_same u.tail w.faults u.faults y goes.after r goes.goes (sym stop ∙ e) in ap (λ (z : Run). z.so_far.live) same ∙ none_live (ap (λ (z : Run). z.stopped) (sym same) ∙ (sym stop ∙ e)));
          moments = joined moments (weaker goes.moments (λ c s. stands_before x goes.after x.so_far.answered (adds_then x y goes.after adds a) c (subst (λ (i : ℕ). StandsForFirst t g i goes.after c) adds.answered s)));
          kept = λ e c leaves.
              (let going = sym stop ∙ e in
              let s = goes.shows.images c leaves in
              let all : goes.after.so_far.answered ≡ length goes.after.so_far.commits = (goes.shows.runs going).is_kept.answered in
              let here : s.commits ≡ length goes.after.so_far.commits = omega (arith, s.enough, s.most, all) in
              subst (StandsFor t g c) (ap (λ (i : ℕ). objects_after t i goes.after) here ∙ (after_all t goes.after ∙ same_objects t x goes.after (adds_then x y goes.after adds a).first (adds_then x y goes.after adds a).commits)) s.stands);
        }

  module _ (v w : View g) (x : Run) (k : Core) where
    -- the end of a session that had stopped
    pub ended_stopped : is_some k.store.stopped ≡ true → Shows t g v k x → (stopped : Option Stop) → IsClosed t g v k x stopped w → IsEnded t g v x stopped w
    ended_stopped is shows stopped h =
        let some = some_of k.store.stopped is in
        subst (λ (s : Option Stop). IsEnded t g v x s w) (sym h.is_behind)
        (ended v v w x k.store x shows.store (adds_self x) (λ e. absurd (down k.store.stopped some (shows.store.stopped ∙ e))) (started v.disk (StandsForFirst t g x.so_far.answered x) shows.store.images)
        (λ e. absurd (down k.store.stopped some (shows.store.stopped ∙ e))) (λ s. refl) h.outcome h.store h.goes)
      where
        some_of : (s : Option Stop) → is_some s ≡ true → IsSome s
        some_of None e = absurd (cc)
        some_of (Some why) e = refl

    -- and of one that hadn't
    pub ended_going : (u : View g) (m : Core) → x.stopped ≡ None → (h : HasAborted t g v x u m) → (stopped : Option Stop) → IsClosed t g u m h.after stopped w → IsEnded t g v x stopped w
    ended_going u m going h stopped c =
        subst (λ (s : Option Stop). IsEnded t g v x s w) (sym c.is_behind)
        (ended v u w x m.store h.after h.shows.store h.adds_none h.none_live h.moments (λ e. h.aborts) (λ s. absurd (down x.stopped s going)) c.outcome c.store c.goes)

    -- the end behind the aborts: a session that has stopped in them makes no call
    pub ended_either : (lawful : IsLawful t g) (u : View g) (m : Core) → x.stopped ≡ None → (h : HasAborted t g v x u m) → (stopped s : Option Stop) → m.store.stopped ≡ s
        → (m.store.stopped ≡ None → IsClosed t g u m h.after stopped w) → (IsSome m.store.stopped → (w ≡ u) × (stopped ≡ m.store.stopped)) → IsEnded t g v x stopped w
    ended_either lawful u m going h stopped None is closed still = ended_going u m going h stopped (closed is)
    ended_either lawful u m going h stopped (Some why) is closed still =
        let p = still (subst IsSome (sym is) refl) in
        ended_going u m going h stopped (subst (λ (z : View g). IsClosed t g u m h.after stopped z) (sym p.0) (record {
          outcome = Err refusals.Stopped;
          store = m.store;
          is_behind = p.1;
          goes = marks_stopped t g lawful u m.store h.after u.faults h.shows.store (ap is_some is);
        }))
