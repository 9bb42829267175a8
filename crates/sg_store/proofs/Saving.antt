-- A transaction sets a mark.
use Rattle.std.proofs.Common.{◌≡◌, ℕ, suc, ◌+◌, ◌<◌, ◌≤◌, Bool, true, false, cond, List, [], ◌∷◌, ◌++◌, map, length, take, Some, None, refl, sym, ap, ◌∙◌, subst, arith}
use Rattle.std.specs.Prelude.{◌==◌, Ok, Err, is_some}
use Rattle.std.proofs.lemmas.List.{map-append, length-map}
use Rattle.sg_base.specs.Ends.{HasRisen}
use Rattle.sg_ops.specs.Table.{Table as Operations}
use Rattle.sg_serial.specs.Locks.{held_of}
use Rattle.sg_serial.specs.Runs.{Live, Mark, is_live}
use Rattle.sg_serial.specs.Runs as runs
use Rattle.sg_serial.proofs.Theorems.{live-remarking}
use Rattle.sg_model.specs.declared.stop.Stop.TheVariants as stops
use Rattle.sg_core.specs.Live.{Txn, is_of, remarking, with_marks}
use Rattle.sg_core.specs.Live as core
use Rattle.sg_recovery.specs.Setting.{Setting}
use Rattle.sg_recovery.specs.Log.{Numbered, Top, tally, notes_of}
use Rattle.sg_recovery.specs.Log.Record.{Save}
use Rattle.sg_recovery.specs.Stands.{made}
use Rattle.sg_recovery.specs.Runs.Goes.{saves}
use Rattle.sg_recovery.specs.Chains.{next_lsn}
use Rattle.sg_recovery.specs.Claims.{Log}
use Rattle.sg_run.specs.Run.{Run, MOST_MARKS, marks_of, saved, committed_objects}
use Rattle.sg_run.specs.Numbers.{NEW_WORK_END}
use Rattle.sg_run.proofs.Serial.{save_stays}
use Rattle.sg_join.proofs.Keeping as keeping
use Rattle.sg_join.proofs.Histories.{lives_same}
use Rattle.sg_join.proofs.Points.{saved_points}
use Rattle.sg_store.specs.declared.fault.Refused.TheVariants as refusals
use Rattle.sg_store.specs.declared.fault.MarkRefused.TheVariants as marks
use Rattle.sg_store.specs.Ground.{Ground, IsLawful, setting}
use Rattle.sg_store.specs.Engine.{View, Appends, Appended, pages_of}
use Rattle.sg_store.specs.Room.{step_of, ShowsStock}
use Rattle.sg_store.specs.Stock.{LeavesStock}
use Rattle.sg_store.specs.Store.{Core, Shows, Runs, IsKept, Logs, AreReserved, AreMarked, IsMarked, shown_txn, shown_live, HaveMarks}
use Rattle.sg_store.specs.Calls.{Goes, Saves}
use Rattle.sg_store.proofs.Live.{numbers, run_numbers, same_live}
use Rattle.sg_store.proofs.Owning.{next_after}
use Rattle.sg_store.proofs.Points.{run_numbers_remarking}
use Rattle.sg_store.proofs.Calls.{moved, call_stands, goes_same, goes_on, goes_down, some_stop, no_stop}

-- the same transactions have the same marks
picked : ℕ → List (ℕ × List ℕ) → List ℕ
picked u [] = []
picked u (p ∷ ps) = cond (p.0 == u) p.1 (picked u ps)

txn_marks : (u : ℕ) (ks : List Txn) → core.marks_of ks u ≡ picked u (map shown_txn ks)
unfolding picked
txn_marks u [] = refl
txn_marks u (k ∷ ks) = go (k.transaction == u) (txn_marks u ks)
  where
    go : (b : Bool) → core.marks_of ks u ≡ picked u (map shown_txn ks) → core.marks_in (cond b (Some k) (Rattle.std.specs.List.find (is_of u) ks)) ≡ cond b k.marks (picked u (map shown_txn ks))
    go true h = refl
    go false h = h

live_marks : (u : ℕ) (ls : List Live) → map (λ (m : Mark). m.number) (runs.marks_of ls u) ≡ picked u (map shown_live ls)
unfolding picked
live_marks u [] = refl
live_marks u (l ∷ ls) = go (l.transaction == u) (live_marks u ls)
  where
    go : (b : Bool) → map (λ (m : Mark). m.number) (runs.marks_of ls u) ≡ picked u (map shown_live ls)
        → map (λ (m : Mark). m.number) (runs.marks_in (cond b (Some l) (Rattle.std.specs.List.find (λ x. x.transaction == u) ls))) ≡ cond b (map (λ (m : Mark). m.number) l.marks) (picked u (map shown_live ls))
    go true h = refl
    go false h = h

pub marks_are : (ks : List Txn) (ls : List Live) (u : ℕ) → HaveMarks ks ls → core.marks_of ks u ≡ map (λ (m : Mark). m.number) (runs.marks_of ls u)
marks_are ks ls u e = txn_marks u ks ∙ (ap (picked u) e ∙ sym (live_marks u ls))

pub count_marks : (ks : List Txn) (x : Run) (u : ℕ) → HaveMarks ks x.so_far.live → length (core.marks_of ks u) ≡ length (marks_of x u)
count_marks ks x u e = ap (λ (ms : List ℕ). length ms) (marks_are ks x.so_far.live u e) ∙ length-map (marks_of x u) (λ (m : Mark). m.number)

-- ONE HAS OTHER MARKS
abbrev changed : ℕ → (List ℕ → List ℕ) → ℕ × List ℕ → ℕ × List ℕ
changed u f p = cond (p.0 == u) (p.0, f p.1) p

txn_changed : (u : ℕ) (f : List ℕ → List ℕ) (ks : List Txn) → map shown_txn (remarking u f ks) ≡ map (changed u f) (map shown_txn ks)
txn_changed u f [] = refl
txn_changed u f (k ∷ ks) = go (k.transaction == u) (txn_changed u f ks)
  where
    go : (b : Bool) → map shown_txn (remarking u f ks) ≡ map (changed u f) (map shown_txn ks)
        → shown_txn (cond b (with_marks f k) k) ∷ map shown_txn (remarking u f ks) ≡ cond b (k.transaction, f k.marks) (shown_txn k) ∷ map (changed u f) (map shown_txn ks)
    go true h = ap (λ ps. (k.transaction, f k.marks) ∷ ps) h
    go false h = ap (λ ps. shown_txn k ∷ ps) h

live_changed : (u : ℕ) (f : List ℕ → List ℕ) (f' : List Mark → List Mark) → ((ms : List Mark) → map (λ (m : Mark). m.number) (f' ms) ≡ f (map (λ (m : Mark). m.number) ms)) → (ls : List Live)
    → map shown_live (runs.remarking u f' ls) ≡ map (changed u f) (map shown_live ls)
live_changed u f f' same [] = refl
live_changed u f f' same (l ∷ ls) = go (l.transaction == u) (live_changed u f f' same ls)
  where
    go : (b : Bool) → map shown_live (runs.remarking u f' ls) ≡ map (changed u f) (map shown_live ls)
        → shown_live (cond b (record l { marks = f' l.marks }) l) ∷ map shown_live (runs.remarking u f' ls) ≡ cond b (l.transaction, f (map (λ (m : Mark). m.number) l.marks)) (shown_live l) ∷ map (changed u f) (map shown_live ls)
    go true h = ap (λ ms. (l.transaction, ms) ∷ map shown_live (runs.remarking u f' ls)) (same l.marks) ∙ ap (λ ps. (l.transaction, f (map (λ (m : Mark). m.number) l.marks)) ∷ ps) h
    go false h = ap (λ ps. shown_live l ∷ ps) h

pub same_marks_changed : (ks : List Txn) (ls : List Live) (u : ℕ) (f : List ℕ → List ℕ) (f' : List Mark → List Mark) → ((ms : List Mark) → map (λ (m : Mark). m.number) (f' ms) ≡ f (map (λ (m : Mark). m.number) ms))
    → HaveMarks ks ls → HaveMarks (remarking u f ks) (runs.remarking u f' ls)
same_marks_changed ks ls u f f' same e = txn_changed u f ks ∙ (ap (map (changed u f)) e ∙ sym (live_changed u f f' same ls))

-- nothing else of it changes
pub numbers_remarking : (u : ℕ) (f : List ℕ → List ℕ) (ks : List Txn) → numbers (remarking u f ks) ≡ numbers ks
numbers_remarking u f [] = refl
numbers_remarking u f (k ∷ ks) = go (k.transaction == u) (numbers_remarking u f ks)
  where
    go : (b : Bool) → numbers (remarking u f ks) ≡ numbers ks → (cond b (with_marks f k) k).transaction ∷ numbers (remarking u f ks) ≡ k.transaction ∷ numbers ks
    go true h = ap (λ ns. k.transaction ∷ ns) h
    go false h = ap (λ ns. k.transaction ∷ ns) h

pub reserved_remarking : (s : Setting) (u : ℕ) (f : List ℕ → List ℕ) (ks : List Txn) (ns : List (Top s.C s.N)) → AreReserved s ks ns → AreReserved s (remarking u f ks) ns
reserved_remarking s u f [] ns h = tt
reserved_remarking s u f (k ∷ ks) ns h = go (k.transaction == u) (reserved_remarking s u f ks ns h.1)
  where
    go : (b : Bool) → AreReserved s (remarking u f ks) ns → AreReserved s (cond b (with_marks f k) k ∷ remarking u f ks) ns
    go true e = (h.0, e)
    go false e = (h.0, e)

pub marked_remarking : (g : Ground) (u : ℕ) (f : List ℕ → List ℕ) (ks : List Txn) (o : g.O) → AreMarked g ks o → AreMarked g (remarking u f ks) o
marked_remarking g u f [] o h = tt
marked_remarking g u f (k ∷ ks) o h = (go (k.transaction == u), marked_remarking g u f ks o h.1)
  where
    go : (b : Bool) → IsMarked g o (cond b (with_marks f k) k)
    go true = h.0
    go false = h.0

-- the marks with one more
abbrev pub more : (number : ℕ) → List ℕ → List ℕ
more number ms = ms ++ number ∷ []

module _ (t : Operations) (g : Ground) (lawful : IsLawful t g) where
  -- its record is in the log
  pub save_logs : (pages : g.X) (durable log : Log (setting t g)) (x : Run) (u l p n : ℕ) → Logs t g pages durable log x → next_lsn log ≤ l → is_live x.so_far.live u ≡ true
      → Logs t g pages durable (record { lsn = l; is = Save u p n } ∷ log) (saved x u l)
  save_logs pages durable log x u l p n k le live =
      let low : u < x.so_far.next = k.sound.serial.numbers u live in
      let next : x.so_far.next ≤ next_lsn log = k.next in
      record {
        sound = save_stays t x u l k.sound;
        next = omega (arith, next, le);
        history = k.history;
        same = lives_same g.op x.so_far (saved x u l).so_far (tally log).live (tally log).live k.history k.same refl (λ v. k.same.lives v ∙ sym (live-remarking u (λ ms. ms ++ (record { number = l; time = x.so_far.clock }) ∷ []) x.so_far.live v));
        points = saved_points g.op (next_lsn log) (l + 1) x.so_far.clock x.so_far.next k.history x.so_far.history x.so_far.live u l k.same.same k.sound.serial.below (omega (arith, low, next, le)) le (omega arith) k.points;
        keeps = keeping.goes (setting t g) lawful.laws x.so_far.first pages (committed_objects t x) (held_of x.so_far.held) durable log k.history k.history (record { lsn = l; is = Save u p n }) k.keeps le (saves u p n);
      }

  pub save_kept : (v w : View g) (txns : List Txn) (x : Run) (u l p n : ℕ) → IsKept t g v txns x → Appended t g v w (record { lsn = l; is = Save u p n })
      → Logs t g v.first v.durable (record { lsn = l; is = Save u p n } ∷ v.log) (saved x u l) → IsKept t g w (remarking u (more l) txns) (saved x u l)
  save_kept v w txns x u l p n k a logs = record {
    live = numbers_remarking u (more l) txns ∙ (k.live ∙ sym (run_numbers_remarking u (λ ms. ms ++ (record { number = l; time = x.so_far.clock }) ∷ []) x.so_far.live));
    answered = k.answered;
    engine = a.goes_on.engine;
    idle = ap (λ (ls : List (Numbered g.C g.N)). (tally ls).opened) a.log ∙ k.idle;
    logs = moved t g v.first w.first v.durable w.durable (record { lsn = l; is = Save u p n } ∷ v.log) w.log (saved x u l) (sym a.goes_on.first) (sym a.log) a.goes_on.durable logs;
    free = λ o e. a.pages ∙ k.free o (before o e);
    reserved = subst (λ (ls : List (Numbered g.C g.N)). AreReserved (setting t g) (remarking u (more l) txns) (tally ls).notes) (sym a.log) (reserved_remarking (setting t g) u (more l) txns (tally v.log).notes k.reserved);
    buried = λ o e d f is.
        (let b = k.buried o (before o e) d f is in
        let up : next_lsn v.log ≤ next_lsn w.log = next_after t g v w (record { lsn = l; is = Save u p n }) a in
        let below : d < next_lsn v.log = b.0 in
        (omega (arith, below, up), λ lives. b.1 (sym (live-remarking u (λ ms. ms ++ (record { number = l; time = x.so_far.clock }) ∷ []) x.so_far.live d) ∙ lives)));
    marked = λ o e. marked_remarking g u (more l) txns o (k.marked o (before o e));
    marks = same_marks_changed txns x.so_far.live u (more l) (λ ms. ms ++ (record { number = l; time = x.so_far.clock }) ∷ []) (λ ms. map-append (λ (m : Mark). m.number) ms ((record { number = l; time = x.so_far.clock }) ∷ [])) k.marks;
  }
    where
      before : (o : g.O) → g.reading (pages_of t g w) ≡ Some o → g.reading (pages_of t g v) ≡ Some o
      before o e = subst (λ (ls : List (Numbered g.C g.N)). g.reading (made (setting t g) v.first ls) ≡ Some o) a.log (subst (λ q. g.reading (made (setting t g) q w.log) ≡ Some o) a.goes_on.first e)

  -- it changes no page and is no note
  pub left_saved : (v w : View g) (u l p n : ℕ) → Appended t g v w (record { lsn = l; is = Save u p n }) → LeavesStock t g v w
  left_saved v w u l p n d r shown = record {
    marks = λ o e. shown.marks o (subst (λ (ls : List (Numbered g.C g.N)). g.reading (made (setting t g) v.first ls) ≡ Some o) d.log
        (subst (λ q. g.reading (made (setting t g) q w.log) ≡ Some o) d.goes_on.first e));
    steps = ap (λ (ls : List (Numbered g.C g.N)). map (step_of g) (tally ls).notes) d.log ∙ shown.steps;
  }

  -- HOW A SAVE GOES
  module _ (v : View g) (k : Core) (x : Run) (u now : ℕ) (s : Shows t g v k x) where
    pub save_stopped : is_some k.stopped ≡ true → Goes t g v x (Saves v.tail v.faults now u x (Err (marks.Store refusals.Stopped))) v k
    save_stopped e = goes_same t g v k x (Saves v.tail v.faults now u x (Err (marks.Store refusals.Stopped))) s (some_stop t g k x e s.stopped, refl)

    module _ (e : is_some k.stopped ≡ false) where
      none : x.stopped ≡ None
      none = sym s.stopped ∙ no_stop t g k.stopped e

      pub runs_now : Runs t g v k x
      runs_now = s.runs none

      lives : core.is_live k.live u ≡ is_live x.so_far.live u
      lives = same_live k.live x.so_far.live u runs_now.is_kept.live

      count : length (core.marks_of k.live u) ≡ length (marks_of x u)
      count = count_marks k.live x u runs_now.is_kept.marks

      pub save_none : core.is_live k.live u ≡ false → Goes t g v x (Saves v.tail v.faults now u x (Err (marks.Store refusals.NoTxn))) v k
      save_none gone = goes_same t g v k x (Saves v.tail v.faults now u x (Err (marks.Store refusals.NoTxn))) s (none, sym lives ∙ gone, refl)

      module _ (is : core.is_live k.live u ≡ true) where
        live : is_live x.so_far.live u ≡ true
        live = sym lives ∙ is

        pub save_full : MOST_MARKS ≤ length (core.marks_of k.live u) → Goes t g v x (Saves v.tail v.faults now u x (Err marks.MarksFull)) v k
        save_full many = goes_same t g v k x (Saves v.tail v.faults now u x (Err marks.MarksFull)) s (none, live, omega (arith, many, count), refl)

        module _ (few : length (core.marks_of k.live u) < MOST_MARKS) where
          pub save_end : NEW_WORK_END < v.tail → Goes t g v x (Saves v.tail v.faults now u x (Err (marks.Store refusals.LogEnd))) v k
          save_end end = goes_same t g v k x (Saves v.tail v.faults now u x (Err (marks.Store refusals.LogEnd))) s (none, live, omega (arith, few, count), end, refl)

          module _ (w : View g) (l p n : ℕ) (a : Appends t g v w (record { lsn = l; is = Save u p n })) where
            logged : Logs t g v.first v.durable (record { lsn = l; is = Save u p n } ∷ v.log) (saved x u l)
            logged = save_logs v.first v.durable v.log x u l p n runs_now.is_kept.logs (omega (arith, a.above, runs_now.is_kept.engine.below)) live

            pub save_done : (m : Core) → m ≡ record k { live = remarking u (more l) k.live } → Appended t g v w (record { lsn = l; is = Save u p n }) → (answer : ℕ) → answer ≡ length (core.marks_of k.live u) + 1 → v.tail ≤ NEW_WORK_END
                → Goes t g v x (Saves v.tail v.faults now u x (Ok answer)) w m
            save_done m same did answer is_next room = goes_on t g v w k m x (saved x u l) (Saves v.tail v.faults now u x (Ok answer)) s none (no_stop t g k.stopped e) (ap (λ (c : Core). c.stopped) same ∙ no_stop t g k.stopped e) none refl refl
                (subst (λ c. Runs t g w c (saved x u l)) (sym same) (record { is_kept = save_kept v w k.live x u l p n runs_now.is_kept did logged; held = runs_now.held }))
                (none, live, omega (arith, few, count), room, omega (arith, is_next, count), (l, a.above, refl))
                (call_stands t g v w (record { lsn = l; is = Save u p n } ∷ v.log) (saved x u l) logged a.moments)

            pub save_breaks : (m : Core) → m ≡ record k { stopped = Some stops.Disk } → HasRisen v.faults now → Goes t g v x (Saves v.tail v.faults now u x (Err (marks.Store refusals.DiskFault))) w m
            save_breaks m same risen =
                goes_down t g v w k m x (Saves v.tail v.faults now u x (Err (marks.Store refusals.DiskFault))) stops.Disk s (ap (λ (c : Core). c.stopped) same)
                (none, live, omega (arith, few, count), record { after = refl; risen = risen })
                (call_stands t g v w (record { lsn = l; is = Save u p n } ∷ v.log) (saved x u l) logged a.moments)
