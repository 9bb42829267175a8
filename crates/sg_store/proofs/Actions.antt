-- What an action does to a log that keeps a run.
use Rattle.std.proofs.Common.{◌≡◌, ℕ, ◌+◌, ◌<◌, ◌≤◌, true, List, [], ◌∷◌, ◌++◌, Option, Some, None, refl, sym, ap, ◌∙◌, subst, arith}
use Rattle.std.specs.Option.{option_map}
use Rattle.sg_ops.specs.Table.{Table as Operations}
use Rattle.sg_serial.specs.Locks.{Touch, held_of, hold_all, first_holder}
use Rattle.sg_serial.specs.Runs.{Live, is_live}
use Rattle.sg_serial.proofs.Holder.{holder_is}
use Rattle.sg_model.specs.Objects.{Objects}
use Rattle.sg_model.specs.Verb.{Op}
use Rattle.sg_model.specs.Step.{step}
use Rattle.sg_model.specs.Touches.{Resource, same_resource, conflict, touches}
use Rattle.sg_run.specs.Run.{Run, with_locks, did, holder_of, live_objects, committed_objects}
use Rattle.sg_run.specs.Serial.{IsSound}
use Rattle.sg_run.proofs.Serial.{did_stays}
use Rattle.sg_recovery.specs.Log.{Numbered, Record, tally, said, is_in, open_not_of}
use Rattle.sg_recovery.specs.Log.Record.{Change, TopEnd}
use Rattle.sg_recovery.specs.Stands.{made, settled, wanted}
use Rattle.sg_recovery.specs.Alike.{TakesTo}
use Rattle.sg_recovery.specs.Keeps.{top_of}
use Rattle.sg_recovery.specs.Runs.{note_of, DoesVerb}
use Rattle.sg_recovery.specs.Runs.Goes.{changes, does}
use Rattle.sg_recovery.specs.Chains.{next_lsn, Formed}
use Rattle.sg_recovery.specs.Claims.{Log, History}
use Rattle.sg_recovery.proofs.Alike.{takes_reads, takes_reverts}
use Rattle.sg_recovery.proofs.Meeting.{does_chained}
use Rattle.sg_recovery.proofs.Basic.{some_one}
use Rattle.sg_join.specs.Join.{Keeps, IsOf}
use Rattle.sg_join.proofs.Keeping as keeping
use Rattle.sg_join.proofs.Histories.{did_same}
use Rattle.sg_join.proofs.Points.{did_points}
use Rattle.sg_store.specs.Ground.{Ground, IsLawful, setting}
use Rattle.sg_store.specs.Engine.{Action, AreChanges}
use Rattle.sg_store.specs.Store.{Logs}
use Rattle.sg_store.proofs.Granted.{granted_locked, locked, within_held}
use Rattle.sg_store.proofs.Lines.{reads}

-- no live transaction is in the way where no hold is
pub no_holder : (t : Operations) (x : Run) (u : ℕ) (op : Op) → IsSound t x → first_holder conflict u (touches (live_objects t x) op) x.so_far.held ≡ None → holder_of t x u op ≡ None
no_holder t x u op k none = go (holder_of t x u op) (sym (holder_is conflict x.so_far.live x.so_far.held u (touches (live_objects t x) op) k.serial.rising k.serial.holders) ∙ none)
  where
    go : (r : Option Live) → option_map (λ (l : Live). l.transaction) r ≡ None → r ≡ None
    go None e = refl
    go (Some l) e = absurd (cc)

module _ (t : Operations) (g : Ground) (lawful : IsLawful t g) (pages : g.X) (durable : Log (setting t g)) where
  -- pages that can't be told from those at an action's begin read as these
  same_reading : (a : Action g) (o : g.O) → g.reading a.pages ≡ Some o → (y : g.X) → g.Alike y a.pages → g.reading y ≡ g.reading a.pages
  same_reading a o e y alike = lawful.reads_alike a.pages y o e alike ∙ sym e

  -- the changes of an action leave whose transactions go on and which notes stand
  pub changes_live : (a : Action g) (ds log : Log (setting t g)) → AreChanges t g pages a ds log → (tally (ds ++ log)).live ≡ (tally log).live
  changes_live a [] log h = refl
  changes_live a (r ∷ ds) log h = ap (λ (x : Record g.C g.N). (said r.lsn x (tally (ds ++ log))).live) h.0.2 ∙ changes_live a ds log h.3

  pub changes_notes : (a : Action g) (ds log : Log (setting t g)) → AreChanges t g pages a ds log → (tally (ds ++ log)).notes ≡ (tally log).notes
  changes_notes a [] log h = refl
  changes_notes a (r ∷ ds) log h = ap (λ (x : Record g.C g.N). (said r.lsn x (tally (ds ++ log))).notes) h.0.2 ∙ changes_notes a ds log h.3

  -- at its begin an action is taken off to its begin, and at each change of it
  pub taken : (a : Action g) (ds log : Log (setting t g)) → a.pages ≡ made (setting t g) pages log → (tally log).opened ≡ [] → AreChanges t g pages a ds log
      → TakesTo (setting t g) g.Alike a.pages (tally (ds ++ log)).opened (made (setting t g) pages (ds ++ log))
  taken a [] log same idle h = record { end = made (setting t g) pages log; off = ap (λ os. Rattle.sg_recovery.specs.Stands.all_off (setting t g) os (made (setting t g) pages log)) idle; alike = subst (λ x. g.Alike (made (setting t g) pages log) x) (sym same) (lawful.alike_same (made (setting t g) pages log)) }
  taken a (r ∷ ds) log same idle h = h.2

  -- so the pages read, once it is taken off, as they did at its begin
  pub settles : (a : Action g) (o : g.O) (ds log : Log (setting t g)) → g.reading a.pages ≡ Some o → a.pages ≡ made (setting t g) pages log → (tally log).opened ≡ [] → AreChanges t g pages a ds log
      → settled (setting t g) (tally (ds ++ log)).opened (made (setting t g) pages (ds ++ log)) ≡ Some o
  settles a o ds log e same idle h = takes_reads (setting t g) g.Alike a.pages (tally (ds ++ log)).opened (made (setting t g) pages (ds ++ log)) (taken a ds log same idle h) (same_reading a o e) ∙ e

  -- one change more
  change_one : (first m : Objects) (held : ℕ → List (Touch Resource)) (h : History (setting t g)) (a : Action g) (o : g.O) (log : Log (setting t g)) (r : Numbered g.C g.N) (p : ℕ) (c : g.C) → g.reading a.pages ≡ Some o
      → TakesTo (setting t g) g.Alike a.pages (tally log).opened (made (setting t g) pages log) → r.is ≡ Change a.transaction p c → next_lsn log ≤ r.lsn
      → TakesTo (setting t g) g.Alike a.pages (tally (r ∷ log)).opened (made (setting t g) pages (r ∷ log)) → Keeps (setting t g) first pages m held durable log h → Keeps (setting t g) first pages m held durable (r ∷ log) h
  change_one first m held h a o log r p c e before is le after k =
      subst (λ (x : Record g.C g.N). Keeps (setting t g) first pages m held durable (record { lsn = r.lsn; is = x } ∷ log) h) (sym is)
      (keeping.goes (setting t g) lawful.laws first pages m held durable log h h (record { lsn = r.lsn; is = Change a.transaction p c }) k le
      (changes a.transaction p c (takes_reverts (setting t g) g.Alike a.pages (tally log).opened (made (setting t g) pages log) (record { lsn = r.lsn; transaction = a.transaction; change = c }) before
      (subst (λ (x : Record g.C g.N). TakesTo (setting t g) g.Alike a.pages (tally (record { lsn = r.lsn; is = x } ∷ log)).opened (made (setting t g) pages (record { lsn = r.lsn; is = x } ∷ log))) is after) (same_reading a o e))))

  pub changes_keep : (first m : Objects) (held : ℕ → List (Touch Resource)) (h : History (setting t g)) (a : Action g) (o : g.O) (ds log : Log (setting t g)) → g.reading a.pages ≡ Some o → a.pages ≡ made (setting t g) pages log
      → (tally log).opened ≡ [] → AreChanges t g pages a ds log → Keeps (setting t g) first pages m held durable log h → Keeps (setting t g) first pages m held durable (ds ++ log) h
  changes_keep first m held h a o [] log e same idle are k = k
  changes_keep first m held h a o (r ∷ ds) log e same idle are k =
      change_one first m held h a o (ds ++ log) r are.0.0 are.0.1 e (taken a ds log same idle are.3) are.0.2 are.1 are.2 (changes_keep first m held h a o ds log e same idle are.3 k)

  pub changes_next : (a : Action g) (ds log : Log (setting t g)) → AreChanges t g pages a ds log → next_lsn log ≤ next_lsn (ds ++ log)
  changes_next a [] log h = omega arith
  changes_next a (r ∷ ds) log h = let k : next_lsn log ≤ next_lsn (ds ++ log) = changes_next a ds log h.3 in let le : next_lsn (ds ++ log) ≤ r.lsn = h.1 in omega (arith, k, le)

  -- between actions the pages read as what the log's theory reads
  pub reads_at : (first m : Objects) (held : ℕ → List (Touch Resource)) (h : History (setting t g)) (log : Log (setting t g)) (k : Keeps (setting t g) first pages m held durable log h) → (tally log).opened ≡ [] → g.reading (made (setting t g) pages log) ≡ Some k.running.reading
  reads_at first m held h log k idle = subst (λ os. settled (setting t g) os (made (setting t g) pages log) ≡ Some k.running.reading) idle k.running.reads

  pub reads_now : (log : Log (setting t g)) (x : Run) (k : Logs t g pages durable log x) → (tally log).opened ≡ [] → g.reading (made (setting t g) pages log) ≡ Some k.keeps.running.reading
  reads_now log x k idle = subst (λ os. settled (setting t g) os (made (setting t g) pages log) ≡ Some k.keeps.running.reading) idle k.keeps.running.reads

  -- what a verb touched is what its operation touches now
  pub touched_now : (log : Log (setting t g)) (x : Run) (k : Logs t g pages durable log x) (op : Op) (v : g.V) (now : g.O) → g.op v ≡ op → g.After t v k.keeps.running.reading now → g.touched v ≡ touches (live_objects t x) op
  touched_now log x k op v now is after =
      sym (lawful.touches v k.keeps.running.reading now after)
      ∙ (ap (λ m. touches m (g.op v)) (reads t g lawful pages durable log x k) ∙ ap (λ o. touches (live_objects t x) o) is)

  -- the locks that a line was granted let its verb be done
  granted_now : (x : Run) (u : ℕ) (op : Op) (live : List ℕ) (v : g.V) → g.touched v ≡ touches (live_objects t x) op → first_holder conflict u (touches (live_objects t x) op) x.so_far.held ≡ None
      → Rattle.sg_recovery.specs.Runs.IsGranted (setting t g) (held_of (with_locks t x u op).so_far.held) live u v
  granted_now x u op live v same none =
      subst (λ ts. Rattle.sg_recovery.specs.Runs.IsGranted (setting t g) (held_of (hold_all same_resource u ts x.so_far.held)) live u v) same
      (granted_locked t g x.so_far.held live u v (subst (λ ts. first_holder conflict u ts x.so_far.held ≡ None) (sym same) none))

  holds_more : (m : Objects) (log : Log (setting t g)) (h : History (setting t g)) (x : Run) (u : ℕ) (op : Op) → Keeps (setting t g) x.so_far.first pages m (held_of x.so_far.held) durable log h
      → Keeps (setting t g) x.so_far.first pages m (held_of (with_locks t x u op).so_far.held) durable log h
  holds_more m log h x u op k = keeping.locks (setting t g) x.so_far.first pages m (held_of x.so_far.held) (held_of (with_locks t x u op).so_far.held) durable log h u k (locked t g x.so_far.held u (touches (live_objects t x) op))

  -- A VERB THAT LEAVES NO RECORD: refused, or one that only reads, or that changes nothing
  pub looks_logs : (log : Log (setting t g)) (x : Run) (u : ℕ) (op : Op) → Logs t g pages durable log x → (tally log).opened ≡ [] → is_live x.so_far.live u ≡ true
      → first_holder conflict u (touches (live_objects t x) op) x.so_far.held ≡ None → (step t (live_objects t x) op).1 ≡ live_objects t x → Logs t g pages durable log (did t x u op)
  looks_logs log x u op k idle live none stays =
      let o : g.O = k.keeps.running.reading in
      let same : g.objects o ≡ live_objects t x = reads t g lawful pages durable log x k in
      let look = lawful.looks (made (setting t g) pages log) o op (reads_now log x k idle) (ap (λ m. (step t m op).1) same ∙ (stays ∙ sym same)) in
      let v : g.V = look.0 in
      let is : g.op v ≡ op = look.1 in
      let after : g.After t v o o = look.2 in
      record {
        sound = did_stays t x u op live (no_holder t x u op k.sound none) k.sound;
        next = k.next;
        history = record { transaction = u; at = next_lsn log; verb = v } ∷ k.history;
        same = did_same g.op x.so_far (did t x u op).so_far (tally log).live k.history (record { transaction = u; op = op; out = (step t (live_objects t x) op).0; time = x.so_far.clock }) v (next_lsn log) k.same refl refl is;
        points = did_points (next_lsn log) (next_lsn log) x.so_far.clock k.history x.so_far.history x.so_far.live (record { transaction = u; at = next_lsn log; verb = v })
            (record { transaction = u; op = op; out = (step t (live_objects t x) op).0; time = x.so_far.clock }) refl (omega arith) (omega arith) refl k.points;
        keeps = keeping.looks (setting t g) lawful.laws x.so_far.first pages (committed_objects t x) (held_of (with_locks t x u op).so_far.held) durable log k.history u v (holds_more (committed_objects t x) log k.history x u op k.keeps)
            (k.same.lives u ∙ live) (λ b e. subst (λ z. g.After t v z z) (some_one o b (sym k.keeps.running.reads ∙ e)) after) (granted_now x u op (tally log).live v (touched_now log x k op v o is after) none);
      }

  -- A VERB'S ACTION AND ITS END
  pub does_logs : (log : Log (setting t g)) (x : Run) (u : ℕ) (op : Op) (k : Logs t g pages durable log x) → (tally log).opened ≡ [] → is_live x.so_far.live u ≡ true
      → first_holder conflict u (touches (live_objects t x) op) x.so_far.held ≡ None
      → (a : Action g) → a.pages ≡ made (setting t g) pages log → (ds : Log (setting t g)) → AreChanges t g pages a ds log
      → (l p w : ℕ) (note : g.N) → Formed (record { lsn = l; is = TopEnd u p w note } ∷ (ds ++ log)) → open_not_of u (tally (ds ++ log)).opened ≡ []
      → (v : g.V) → g.op v ≡ op → DoesVerb (setting t g) v (note_of (setting t g) l u w note (tally (ds ++ log)).opened (g.touched v)) (made (setting t g) pages (ds ++ log)) k.keeps.running.reading
      → ((o : g.O) → g.reading (made (setting t g) pages (ds ++ log)) ≡ Some o → wanted (setting t g) (top_of (setting t g) l u w note (tally (ds ++ log)).opened ∷ (tally log).notes) ≤ g.free o)
      → Logs t g pages durable (record { lsn = l; is = TopEnd u p w note } ∷ (ds ++ log)) (did t x u op)
  does_logs log x u op k idle live none a begin ds are l p w note formed alone v is done enough =
      let o : g.O = k.keeps.running.reading in
      let reads_begin : g.reading a.pages ≡ Some o = ap g.reading begin ∙ reads_now log x k idle in
      let lives : (tally (ds ++ log)).live ≡ (tally log).live = changes_live a ds log are in
      let goes_on : is_in u (tally (ds ++ log)).live ≡ true = ap (λ ls. is_in u ls) lives ∙ (k.same.lives u ∙ live) in
      let le : next_lsn (ds ++ log) ≤ l = formed.0 in
      let chained = does_chained (ds ++ log) formed.2 u w (formed.1 goes_on).1 in
      let same : g.touched v ≡ touches (live_objects t x) op = touched_now log x k op v done.now is done.after in
      let before = changes_keep x.so_far.first (committed_objects t x) (held_of (with_locks t x u op).so_far.held) k.history a o ds log reads_begin begin idle are (holds_more (committed_objects t x) log k.history x u op k.keeps) in
      let up : next_lsn log ≤ next_lsn (ds ++ log) = changes_next a ds log are in
      record {
        sound = did_stays t x u op live (no_holder t x u op k.sound none) k.sound;
        next = omega (arith, k.next, up, le);
        history = record { transaction = u; at = l; verb = v } ∷ k.history;
        same = did_same g.op x.so_far (did t x u op).so_far (tally (ds ++ log)).live k.history (record { transaction = u; op = op; out = (step t (live_objects t x) op).0; time = x.so_far.clock }) v l
            (subst (λ ls. IsOf g.op ls k.history x.so_far) (sym lives) k.same) refl refl is;
        points = did_points (next_lsn log) (l + 1) x.so_far.clock k.history x.so_far.history x.so_far.live (record { transaction = u; at = l; verb = v })
            (record { transaction = u; op = op; out = (step t (live_objects t x) op).0; time = x.so_far.clock }) refl (omega (arith, up, le)) (omega arith) refl k.points;
        keeps = keeping.goes (setting t g) lawful.laws x.so_far.first pages (committed_objects t x) (held_of (with_locks t x u op).so_far.held) durable (ds ++ log) k.history (record { transaction = u; at = l; verb = v } ∷ k.history)
            (record { lsn = l; is = TopEnd u p w note }) before le
            (does u p w note v (g.touched v) goes_on alone (lt_of (chained.1) le) chained.0 (granted_now x u op (tally (ds ++ log)).live v same none)
            (subst (λ ts. (setting t g).Within ts (held_of (with_locks t x u op).so_far.held u)) (sym same) (within_held t g x.so_far.held u (touches (live_objects t x) op)))
            (λ b e. subst (λ z. DoesVerb (setting t g) v (note_of (setting t g) l u w note (tally (ds ++ log)).opened (g.touched v)) (made (setting t g) pages (ds ++ log)) z)
            (some_one o b (sym (settles a o ds log reads_begin begin idle are) ∙ e)) done)
            (λ b e. subst (λ ns. wanted (setting t g) (top_of (setting t g) l u w note (tally (ds ++ log)).opened ∷ ns) ≤ g.free b) (sym (changes_notes a ds log are)) (enough b e)));
      }
    where
      lt_of : {i j n : ℕ} → i < j → j ≤ n → i < n
      lt_of x y = omega (arith, x, y)
