-- How calls go.
use Rattle.std.proofs.Common.{◌≡◌, ℕ, ◌+◌, ◌<◌, ◌≤◌, true, false, List, [], ◌∷◌, ◌++◌, length, Option, Some, None, refl, sym, ap, ◌∙◌, subst, arith}
use Rattle.std.proofs.Common.{inl}
use Rattle.std.specs.Prelude.{◌^◌, take, Ok, Err, is_some, IsSome}
use Rattle.std.proofs.lemmas.List.{map-append, length-map}
use Rattle.sg_base.specs.declared.numbers.TxnId.{TxnId}
use Rattle.sg_base.specs.Ends.{HasRisen}
use Rattle.sg_disk.specs.Disk.{Image, LeavesOnly}
use Rattle.sg_disk.proofs.Moments.{started, weaker}
use Rattle.sg_ops.specs.Table.{Table as Operations}
use Rattle.sg_serial.specs.Runs.{Live, in_order}
use Rattle.sg_serial.specs.Machine.{run}
use Rattle.sg_model.specs.declared.stop.Stop.{Stop}
use Rattle.sg_model.specs.declared.stop.Stop.TheVariants as stops
use Rattle.sg_model.specs.Step.{step}
use Rattle.sg_core.specs.Live.{Txn, begun}
use Rattle.sg_run.specs.Run.{Run, Event, MOST_LIVE, began, did, stop, committed_objects}
use Rattle.sg_recovery.specs.Log.{Numbered, tally}
use Rattle.sg_recovery.specs.Log.Record.{Begin}
use Rattle.sg_recovery.specs.Stands.{made}
use Rattle.sg_recovery.specs.Chains.{next_lsn}
use Rattle.sg_recovery.specs.Claims.{Log}
use Rattle.sg_join.specs.Join.{Grows}
use Rattle.sg_join.proofs.Keeping.{forced}
use Rattle.sg_space.specs.declared.space.SpaceFault.{SpaceFault}
use Rattle.sg_space.specs.declared.space.SpaceFault.TheVariants as spaces
use Rattle.sg_store.specs.declared.fault.Refused.TheVariants as refusals
use Rattle.sg_store.specs.Ground.{Ground, IsLawful, setting}
use Rattle.sg_store.specs.Engine.{View, IsImageOf, Appends, Appended, IsNearEnd, IsDiskFault}
use Rattle.sg_store.specs.Stands.{StandsFor, StandsForFirst}
use Rattle.sg_store.specs.Store.{Core, Shows, Runs, IsKept, Logs, AreReserved}
use Rattle.sg_run.specs.Numbers.{NEW_WORK_END}
use Rattle.sg_store.specs.Calls.{Goes, Begins}
use Rattle.sg_recovery.specs.Shows.{IsNote}
use Rattle.sg_recovery.proofs.Basic.{each_more}
use Rattle.sg_store.proofs.Live.{reserved_begun, each_bare}
use Rattle.sg_store.proofs.Images.{image_stands}
use Rattle.sg_store.proofs.Lines.{begin_logs}
use Rattle.sg_store.proofs.Marking.{marks_begun}
use Rattle.sg_store.proofs.Points.{same_marks_begun}
use Rattle.sg_store.proofs.Owning.{owned_begun, next_after}

take_all : {A : Type 0} (xs : List A) → take (length xs) xs ≡ xs
take_all [] = refl
take_all (x ∷ xs) = ap (λ l. x ∷ l) (take_all xs)

module _ (t : Operations) (g : Ground) where
  -- what stands for the committed objects stands for all commits
  pub stands_all : (x : Run) (least : ℕ) (c : Image) → least ≤ length x.so_far.commits → StandsFor t g c (committed_objects t x) → StandsForFirst t g least x c
  stands_all x least c enough h = record {
    commits = length x.so_far.commits;
    enough = enough;
    most = omega arith;
    stands = subst (λ m. StandsFor t g c m) (sym (ap (λ (ess : List (List Event)). run (step t) x.so_far.first (in_order ess)) (take_all x.so_far.commits))) h;
  }

  -- a log that keeps a run does so where more of it is durable
  pub moved : (pages other : g.X) (durable more log new : Log (setting t g)) (x : Run) → pages ≡ other → log ≡ new → Grows durable more → Logs t g pages durable log x → Logs t g other more new x
  moved pages other durable more log new x e f grows k =
      subst (λ l. Logs t g other more l x) f (subst (λ p. Logs t g p more log x) e (record {
        sound = k.sound;
        next = k.next;
        history = k.history;
        same = k.same;
        points = k.points;
        keeps = forced (setting t g) x.so_far.first pages (committed_objects t x) (Rattle.sg_serial.specs.Locks.held_of x.so_far.held) durable more log k.history grows k.keeps;
      }))

  -- in a call each image stands for the committed objects of a run that its log keeps
  pub call_stands : (v w : View g) (log : Log (setting t g)) (x : Run) → Logs t g v.first v.durable log x → LeavesOnly v.disk w.disk (IsImageOf t g v log) → LeavesOnly v.disk w.disk (λ c. StandsFor t g c (committed_objects t x))
  call_stands v w log x k l = weaker l (λ c i. image_stands t g v (committed_objects t x) log k.keeps.fronts c i)

  -- nothing was done
  pub goes_same : (v : View g) (k : Core) (x : Run) (Line : Run → Type 0) → Shows t g v k x → Line x → Goes t g v x Line v k
  goes_same v k x Line s l = record { after = x; goes = l; shows = s; moments = started v.disk (StandsForFirst t g x.so_far.answered x) s.images }

  -- A run goes on, with no commit more
  pub goes_on : (v w : View g) (k m : Core) (x y : Run) (Line : Run → Type 0) → Shows t g v k x → x.stopped ≡ None → k.stopped ≡ None → m.stopped ≡ None → y.stopped ≡ None → y.so_far.answered ≡ x.so_far.answered → y.so_far.commits ≡ x.so_far.commits
      → Runs t g w m y → Line y → LeavesOnly v.disk w.disk (λ c. StandsFor t g c (committed_objects t y)) → Goes t g v x Line w m
  goes_on v w k m x y Line s running ks ms ys answered commits runs line moments =
      let least : x.so_far.answered ≤ length y.so_far.commits = subst (λ cs. x.so_far.answered ≤ length cs) (sym commits) s.answered in
      let enough : y.so_far.answered ≤ length y.so_far.commits = subst (λ n. n ≤ length y.so_far.commits) (sym answered) least in
      let one : length x.so_far.commits ≤ x.so_far.answered + 1 = s.one_more in
      record {
        after = y;
        goes = line;
        shows = record {
          stopped = ms ∙ sym ys;
          runs = λ e. runs;
          answered = enough;
          one_more = subst (λ n. length y.so_far.commits ≤ n + 1) (sym answered) (subst (λ cs. length cs ≤ x.so_far.answered + 1) (sym commits) one);
          images = λ c h. stands_all y y.so_far.answered c enough (moments.each c (inl h));
        };
        moments = weaker moments (λ c h. stands_all y x.so_far.answered c least h);
      }

  -- The store stops for a fault of the disk, in a call that isn't a commit
  pub goes_down : (v w : View g) (k m : Core) (x : Run) (Line : Run → Type 0) (why : Stop) → Shows t g v k x → m.stopped ≡ Some why → Line (stop why x)
      → LeavesOnly v.disk w.disk (λ c. StandsFor t g c (committed_objects t x)) → Goes t g v x Line w m
  goes_down v w k m x Line why s ms line moments = record {
    after = stop why x;
    goes = line;
    shows = record {
      stopped = ms;
      runs = λ e. absurd (cc);
      answered = s.answered;
      one_more = s.one_more;
      images = λ c h. stands_all (stop why x) x.so_far.answered c s.answered (moments.each c (inl h));
    };
    moments = weaker moments (λ c h. stands_all (stop why x) x.so_far.answered c s.answered h);
  }

  -- a transaction has begun
  pub begin_kept : (lawful : IsLawful t g) (v w : View g) (txns : List Txn) (x : Run) (n : ℕ) (name : List ℕ) → IsKept t g v txns x → Appended t g v w (record { lsn = n; is = Begin n 0 })
      → Logs t g v.first v.durable (record { lsn = n; is = Begin n 0 } ∷ v.log) (began x n name) → next_lsn v.log ≤ n → IsKept t g w (txns ++ begun n ∷ []) (began x n name)
  begin_kept lawful v w txns x n name k a logs low = record {
    live = map-append (λ (l : Txn). l.transaction) txns (begun n ∷ []) ∙ (ap (λ l. l ++ n ∷ []) k.live ∙ sym (map-append (λ (l : Live). l.transaction) x.so_far.live (record { name = name; transaction = n; marks = [] } ∷ [])));
    answered = k.answered;
    engine = a.goes_on.engine;
    idle = ap (λ (l : List (Numbered g.C g.N)). (tally l).opened) a.log ∙ k.idle;
    logs = moved v.first w.first v.durable w.durable (record { lsn = n; is = Begin n 0 } ∷ v.log) w.log (began x n name) (sym a.goes_on.first) (sym a.log) a.goes_on.durable logs;
    free = λ o e. a.pages ∙ k.free o (subst (λ (l : List (Numbered g.C g.N)). g.reading (made (setting t g) v.first l) ≡ Some o) a.log
        (subst (λ p. g.reading (made (setting t g) p w.log) ≡ Some o) a.goes_on.first e));
    reserved = subst (λ (l : List (Numbered g.C g.N)). AreReserved (setting t g) (txns ++ begun n ∷ []) (tally l).notes) (sym a.log)
        (reserved_begun (setting t g) txns (tally v.log).notes (next_lsn v.log) n k.reserved
        (each_bare (setting t g) (λ i. i < next_lsn v.log) k.logs.keeps.running.placed (tally v.log).notes k.logs.keeps.running.are
        (each_more (λ m. IsNote (tally v.log).live (next_lsn v.log) m.transaction m.lsn m.undo_next) (λ m. m.transaction < next_lsn v.log) k.logs.keeps.running.placed (λ m z. z.number) k.logs.keeps.running.notes)) low);
    buried = λ o e. owned_begun t g x.so_far.live x.so_far.held n name (next_lsn v.log) (next_lsn w.log) o low (next_after t g v w (record { lsn = n; is = Begin n 0 }) a)
        (k.buried o (subst (λ (l : List (Numbered g.C g.N)). g.reading (made (setting t g) v.first l) ≡ Some o) a.log (subst (λ p. g.reading (made (setting t g) p w.log) ≡ Some o) a.goes_on.first e)));
    marked = λ o e. let q = (subst (λ (l : List (Numbered g.C g.N)). g.reading (made (setting t g) v.first l) ≡ Some o) a.log (subst (λ p. g.reading (made (setting t g) p w.log) ≡ Some o) a.goes_on.first e)) in marks_begun g txns n o (λ f is. absurd (let below : n < next_lsn v.log = (k.buried o q n f is).0 in omega (arith, below, low))) (k.marked o q);
    marks = same_marks_begun txns x.so_far.live n name k.marks;
  }

  pub some_stop : (k : Core) (x : Run) → is_some k.stopped ≡ true → k.stopped ≡ x.stopped → IsSome x.stopped
  some_stop k x e same = ap (λ (s : Option Stop). is_some s) (sym same) ∙ e

  pub no_stop : (s : Option Stop) → is_some s ≡ false → s ≡ None
  no_stop None h = refl
  no_stop (Some y) h = absurd (cc)

  -- as many are live as in the run
  pub count_live : (v : View g) (k : Core) (x : Run) → Shows t g v k x → k.stopped ≡ None → length k.live ≡ length x.so_far.live
  count_live v k x s e =
      sym (length-map k.live (λ (l : Txn). l.transaction)) ∙ (ap (λ (l : List ℕ). length l) ((s.runs (sym s.stopped ∙ e)).is_kept.live) ∙ length-map x.so_far.live (λ (l : Live). l.transaction))

  -- a begin
  module _ (v : View g) (k : Core) (x : Run) (name : List ℕ) (now : ℕ) (s : Shows t g v k x) where
    pub begin_stopped : is_some k.stopped ≡ true → Goes t g v x (Begins v.tail v.faults now name x (Err refusals.Stopped)) v k
    begin_stopped e = goes_same v k x (Begins v.tail v.faults now name x (Err refusals.Stopped)) s (some_stop k x e s.stopped, refl)

    pub begin_many : is_some k.stopped ≡ false → MOST_LIVE ≤ length k.live → Goes t g v x (Begins v.tail v.faults now name x (Err refusals.TooManyLive)) v k
    begin_many e many = goes_same v k x (Begins v.tail v.faults now name x (Err refusals.TooManyLive)) s (sym s.stopped ∙ no_stop k.stopped e, subst (λ n. MOST_LIVE ≤ n) (count_live v k x s (no_stop k.stopped e)) many, refl)

    pub begin_end : is_some k.stopped ≡ false → length k.live < MOST_LIVE → NEW_WORK_END < v.tail → Goes t g v x (Begins v.tail v.faults now name x (Err refusals.LogEnd)) v k
    begin_end e few end = goes_same v k x (Begins v.tail v.faults now name x (Err refusals.LogEnd)) s (sym s.stopped ∙ no_stop k.stopped e, end, subst (λ n. n < MOST_LIVE) (count_live v k x s (no_stop k.stopped e)) few, refl)

    module _ (lawful : IsLawful t g) (e : is_some k.stopped ≡ false) (few : length k.live < MOST_LIVE) (w : View g) (n : ℕ) (a : Appends t g v w (record { lsn = n; is = Begin n 0 })) where
      begin_runs : Runs t g v k x
      begin_runs = s.runs (sym s.stopped ∙ no_stop k.stopped e)

      begin_logged : Logs t g v.first v.durable (record { lsn = n; is = Begin n 0 } ∷ v.log) (began x n name)
      begin_logged =
          let low : next_lsn v.log ≤ n = omega (arith, a.above, begin_runs.is_kept.engine.below) in
          begin_logs t g lawful v.first v.durable v.log x n name begin_runs.is_kept.logs low (omega (arith, begin_runs.is_kept.logs.next, low))

      pub begun_goes : (m : Core) → m ≡ record k { live = k.live ++ begun n ∷ [] } → Appended t g v w (record { lsn = n; is = Begin n 0 }) → (u : TxnId) → u.0 ≡ n → v.tail ≤ NEW_WORK_END → Goes t g v x (Begins v.tail v.faults now name x (Ok u)) w m
      begun_goes m is did u number room =
          let none : x.stopped ≡ None = sym s.stopped ∙ no_stop k.stopped e in
          let low : next_lsn v.log ≤ n = omega (arith, a.above, begin_runs.is_kept.engine.below) in
          goes_on v w k m x (began x n name) (Begins v.tail v.faults now name x (Ok u)) s none (no_stop k.stopped e) (ap (λ (c : Core). c.stopped) is ∙ no_stop k.stopped e) none refl refl
          (subst (λ c. Runs t g w c (began x n name)) (sym is) (record { is_kept = begin_kept lawful v w k.live x n name begin_runs.is_kept did begin_logged low; held = begin_runs.held }))
          (none, omega (arith, begin_runs.is_kept.logs.next, low, number), subst (λ i. i < MOST_LIVE) (count_live v k x s (no_stop k.stopped e)) few, room, ap (λ (i : ℕ). began x i name) (sym number))
          (call_stands v w (record { lsn = n; is = Begin n 0 } ∷ v.log) (began x n name) begin_logged a.moments)

      pub begin_breaks : (m : Core) → m ≡ record k { stopped = Some stops.Disk } → HasRisen v.faults now → Goes t g v x (Begins v.tail v.faults now name x (Err refusals.DiskFault)) w m
      begin_breaks m is risen =
          goes_down v w k m x (Begins v.tail v.faults now name x (Err refusals.DiskFault)) stops.Disk s (ap (λ (c : Core). c.stopped) is)
          (sym s.stopped ∙ no_stop k.stopped e, subst (λ i. i < MOST_LIVE) (count_live v k x s (no_stop k.stopped e)) few, record { after = refl; risen = risen })
          (call_stands v w (record { lsn = n; is = Begin n 0 } ∷ v.log) (began x n name) begin_logged a.moments)

-- a record isn't refused for the log's end where new work may begin
pub risen_for : (tail before now : ℕ) (f : SpaceFault) → tail ≤ NEW_WORK_END → IsNearEnd tail f → (IsDiskFault f → HasRisen before now) → HasRisen before now
risen_for tail before now spaces.Disk low near risen = risen tt
risen_for tail before now spaces.LogEnd low near risen = absurd (far low near)
  where
    far : tail ≤ 2 ^ 62 → 2 ^ 63 < tail + 131072 → ⊥
    far a b = omega (arith, a, b)

-- so that a begin fails for the disk alone
pub disk_only : (tail : ℕ) (f : SpaceFault) → tail ≤ NEW_WORK_END → IsNearEnd tail f → f ≡ spaces.Disk
disk_only tail spaces.Disk low near = refl
disk_only tail spaces.LogEnd low near = absurd (far low near)
  where
    far : tail ≤ 2 ^ 62 → 2 ^ 63 < tail + 131072 → ⊥
    far a b = omega (arith, a, b)
