-- A transaction is undone, one action after another, and ends.
use Rattle.std.proofs.Common.{◌≡◌, ℕ, ◌+◌, ◌<◌, ◌≤◌, Bool, true, false, not, cond, List, [], ◌∷◌, ◌++◌, Some, refl, sym, ap, ◌∙◌, subst, arith}
use Rattle.std.specs.Prelude.{◌==◌, ◌&&◌}
use Rattle.std.proofs.lemmas.Bool.{eq-eqb}
use Rattle.sg_ops.specs.Table.{Table as Operations}
use Rattle.sg_serial.specs.Locks.{held_of, released}
use Rattle.sg_serial.specs.Runs.{is_live}
use Rattle.sg_serial.proofs.Lists.{live-without}
use Rattle.sg_run.specs.Run.{Run, aborted, committed_objects}
use Rattle.sg_run.proofs.Serial.{abort_stays}
use Rattle.sg_recovery.specs.Log.{Numbered, Record, Top, tally, is_in, without, open_not_of, notes_of}
use Rattle.sg_recovery.specs.Log.Record.{CompEnd, End}
use Rattle.sg_recovery.specs.Stands.{made, settled, wants_one}
use Rattle.sg_recovery.specs.Laws.{Each}
use Rattle.sg_recovery.specs.Keeps.{HasUndone}
use Rattle.sg_recovery.specs.Shows.{from_on, left}
use Rattle.sg_recovery.specs.Runs.Goes.{ends}
use Rattle.sg_recovery.specs.Chains.{next_lsn}
use Rattle.sg_recovery.specs.Claims.{Log}
use Rattle.sg_recovery.proofs.Basic.{each_more, some_one}
use Rattle.sg_recovery.proofs.Rolling.{left_twice}
use Rattle.sg_recovery.proofs.Meeting.{nobody_left}
use Rattle.sg_join.specs.Join.{Keeps, IsOf}
use Rattle.sg_join.proofs.Keeping as keeping
use Rattle.sg_join.proofs.Undoing.{undone}
use Rattle.sg_join.proofs.Histories.{abort_same}
use Rattle.sg_join.proofs.Points.{wider, aborted_points}
use Rattle.sg_store.specs.Ground.{Ground, IsLawful, setting}
use Rattle.sg_store.specs.Engine.{Action, AreChanges}
use Rattle.sg_store.specs.Store.{Logs, Undoes}
use Rattle.sg_store.proofs.Granted.{others_hold}
use Rattle.sg_store.proofs.Lines.{in_without}
use Rattle.sg_store.proofs.Actions.{changes_live, changes_keep, changes_next, settles, reads_at}

-- none of a transaction's notes stand where it has none
pub no_notes : {C N : Type 0} (u : ℕ) (ns : List (Top C N)) → notes_of u ns ≡ [] → Each (λ n. n.transaction ≡ u → ⊥) ns
no_notes u [] e = tt
no_notes {C} {N} u (n ∷ ns) e = go (n.transaction == u) refl e (no_notes u ns)
  where
    go : (b : Bool) → (n.transaction == u) ≡ b → cond b (n ∷ notes_of u ns) (notes_of u ns) ≡ [] → (notes_of u ns ≡ [] → Each (λ m. m.transaction ≡ u → ⊥) ns) → (n.transaction ≡ u → ⊥) × Each (λ m. m.transaction ≡ u → ⊥) ns
    go true f z k = absurd (cc)
    go false f z k = ((λ same. absurd (clash (eq-eqb n.transaction u same) f)), k z)
      where
        clash : (n.transaction == u) ≡ true → (n.transaction == u) ≡ false → ⊥
        clash x y = absurd (cc)

module _ (t : Operations) (g : Ground) (lawful : IsLawful t g) (pages : g.X) (durable : Log (setting t g)) where
  pub undoes_none : (log : Log (setting t g)) (x : Run) (u from : ℕ) → Logs t g pages durable log x → Undoes t g pages durable log x u from
  undoes_none log x u from k = record { sound = k.sound; next = k.next; whole = k.history; same = k.same; points = k.points; history = k.history; rest = refl; keeps = k.keeps }

  -- one action of a transaction has been undone, whose note stands behind the number as far as which it is undone
  pub undoes_one : (log : Log (setting t g)) (x : Run) (u from : ℕ) (k : Undoes t g pages durable log x u from) → (tally log).opened ≡ []
      → (a : Action g) → a.pages ≡ made (setting t g) pages log → (ds : Log (setting t g)) → AreChanges t g pages a ds log
      → (l p w : ℕ) (n : Top g.C g.N) (own : List (Top g.C g.N)) → from ≤ n.lsn → notes_of u (tally log).notes ≡ n ∷ own → n.undo_next ≡ w → next_lsn (ds ++ log) ≤ l → open_not_of u (tally (ds ++ log)).opened ≡ []
      → (tally (ds ++ log)).notes ≡ (tally log).notes
      → HasUndone (setting t g) n (made (setting t g) pages (ds ++ log)) k.keeps.running.reading
      → ((o : g.O) → g.reading (made (setting t g) pages (ds ++ log)) ≡ Some o → g.free k.keeps.running.reading ≤ g.free o + wants_one (setting t g) n)
      → Undoes t g pages durable (record { lsn = l; is = CompEnd u p w } ∷ (ds ++ log)) x u from
  undoes_one log x u from k idle a begin ds are l p w n own low stands next le alone notes has takes =
      let o : g.O = k.keeps.running.reading in
      let reads_begin : g.reading a.pages ≡ Some o = ap g.reading begin ∙ reads_at t g lawful pages durable x.so_far.first (committed_objects t x) (held_of x.so_far.held) k.history log k.keeps idle in
      let settled_is : settled (setting t g) (tally (ds ++ log)).opened (made (setting t g) pages (ds ++ log)) ≡ Some o = settles t g lawful pages durable a o ds log reads_begin begin idle are in
      let before = changes_keep t g lawful pages durable x.so_far.first (committed_objects t x) (held_of x.so_far.held) k.history a o ds log reads_begin begin idle are k.keeps in
      let up : next_lsn log ≤ next_lsn (ds ++ log) = changes_next t g lawful pages durable a ds log are in
      record {
        sound = k.sound;
        next = omega (arith, k.next, up, le);
        whole = k.whole;
        same = subst (λ ls. IsOf g.op ls k.whole x.so_far) (sym (changes_live t g lawful pages durable a ds log are)) k.same;
        points = wider (next_lsn log) (l + 1) x.so_far.clock k.whole x.so_far.history x.so_far.live (omega (arith, up, le)) k.points;
        history = left (from_on u n.lsn) k.history;
        rest = left_twice (setting t g) u from n.lsn k.history low ∙ k.rest;
        keeps = undone (setting t g) lawful.laws x.so_far.first pages (committed_objects t x) (held_of x.so_far.held) durable (ds ++ log) k.history l u p w n own before le (ap (λ ns. notes_of u ns) notes ∙ stands) next alone
            (λ b e. subst (λ z. HasUndone (setting t g) n (made (setting t g) pages (ds ++ log)) z) (some_one o b (sym settled_is ∙ e)) has)
            (λ b c e f. subst (λ z. g.free z ≤ g.free c + wants_one (setting t g) n) (some_one o b (sym settled_is ∙ e)) (takes c f));
      }

  -- it has ended, and holds nothing
  pub abort_logs : (log : Log (setting t g)) (x : Run) (l p u : ℕ) → Undoes t g pages durable log x u 0 → is_live x.so_far.live u ≡ true → notes_of u (tally log).notes ≡ [] → next_lsn log ≤ l
      → Logs t g pages durable (record { lsn = l; is = End u p } ∷ log) (aborted x u)
  abort_logs log x l p u k live none le =
      let clear : Each (λ n. n.transaction ≡ u → ⊥) (tally log).notes = no_notes u (tally log).notes none in
      let goes_on : is_in u (tally log).live ≡ true = k.same.lives u ∙ live in
      let empty = keeping.forgets (setting t g) x.so_far.first pages (committed_objects t x) (held_of x.so_far.held) durable log k.history u 0 k.keeps goes_on
      (each_more (λ (n : Top g.C g.N). n.transaction ≡ u → ⊥) (λ n. n.transaction ≡ u → n.lsn < 0) (tally log).notes (λ n ne e. absurd (ne e)) clear) in
      let ended = keeping.goes (setting t g) lawful.laws x.so_far.first pages (committed_objects t x) (held_of x.so_far.held) durable log (left (from_on u 0) k.history) (left (from_on u 0) k.history) (record { lsn = l; is = End u p }) empty le
      (ends u p clear (nobody_left (setting t g) u k.history)) in
      record {
        sound = abort_stays t x u live k.sound;
        next = omega (arith, k.next, le);
        history = left (from_on u 0) k.whole;
        same = abort_same g.op x.so_far (aborted x u).so_far (tally log).live (without u (tally log).live) k.whole u k.same refl
            (λ v. in_without u v (tally log).live ∙ (ap (λ b. b && not (v == u)) (k.same.lives v) ∙ sym (live-without u x.so_far.live v)));
        points = wider (next_lsn log) (l + 1) x.so_far.clock (left (from_on u 0) k.whole) (aborted x u).so_far.history (aborted x u).so_far.live (omega (arith, le))
            (aborted_points g.op (next_lsn log) x.so_far.clock k.whole x.so_far.history x.so_far.live u k.same.same k.points);
        keeps = subst (λ h. Keeps (setting t g) x.so_far.first pages (committed_objects t x) (held_of (released u x.so_far.held)) durable (record { lsn = l; is = End u p } ∷ log) h) k.rest
            (keeping.releases (setting t g) x.so_far.first pages (committed_objects t x) (held_of x.so_far.held) (held_of (released u x.so_far.held)) durable (record { lsn = l; is = End u p } ∷ log) (left (from_on u 0) k.history) u ended
            (record { none = still_none clear; others = λ v ne. others_hold x.so_far.held u v ne }));
      }
    where
      still_none : Each (λ n. n.transaction ≡ u → ⊥) (tally log).notes → Each (λ n. n.transaction ≡ u → ⊥) (Rattle.sg_recovery.specs.Log.notes_not_of u (tally log).notes)
      still_none h = kept_each (tally log).notes h
        where
          kept_each : (ns : List (Top g.C g.N)) → Each (λ n. n.transaction ≡ u → ⊥) ns → Each (λ n. n.transaction ≡ u → ⊥) (Rattle.sg_recovery.specs.Log.notes_not_of u ns)
          kept_each [] h = tt
          kept_each (n ∷ ns) h = go (n.transaction == u) h.0 (kept_each ns h.1)
            where
              go : (b : Bool) → (n.transaction ≡ u → ⊥) → Each (λ m. m.transaction ≡ u → ⊥) (Rattle.sg_recovery.specs.Log.notes_not_of u ns) → Each (λ m. m.transaction ≡ u → ⊥) (cond (not b) (n ∷ Rattle.sg_recovery.specs.Log.notes_not_of u ns) (Rattle.sg_recovery.specs.Log.notes_not_of u ns))
              go true x y = y
              go false x y = (x, y)
