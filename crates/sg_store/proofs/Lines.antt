-- What each line does to a log that keeps a run.
use Rattle.std.proofs.Common.{◌≡◌, ℕ, ◌+◌, ◌≤◌, Bool, true, false, not, cond, List, [], ◌∷◌, None, refl, sym, ap, ◌∙◌, arith}
use Rattle.std.specs.Prelude.{◌==◌, ◌||◌, ◌&&◌}
use Rattle.std.proofs.lemmas.Bool.{eq-eqb, eqb-true}
use Rattle.sg_ops.specs.Table.{Table as Operations}
use Rattle.sg_serial.specs.Locks.{held_of, released, hold_all}
use Rattle.sg_serial.specs.Runs.{is_live}
use Rattle.sg_serial.proofs.Lists.{live-append, live-without}
use Rattle.sg_model.specs.Verb.{Op}
use Rattle.sg_model.specs.Step.{step}
use Rattle.sg_model.specs.Touches.{same_resource, touches, covers}
use Rattle.sg_run.specs.Run.{Run, began, committed, with_locks, holder_of, live_objects, committed_objects}
use Rattle.sg_run.specs.Serial.{IsSound}
use Rattle.sg_run.proofs.Serial.{begin_stays, commit_stays, locks_stay}
use Rattle.sg_recovery.specs.Log.{Top, tally, is_in, without, notes_not_of}
use Rattle.sg_recovery.specs.Log.Record.{Begin, Commit}
use Rattle.sg_recovery.specs.Laws.{Each}
use Rattle.sg_recovery.specs.Shows.{from_on, left}
use Rattle.sg_recovery.specs.Runs.Goes.{begins}
use Rattle.sg_recovery.specs.Chains.{next_lsn}
use Rattle.sg_recovery.specs.Claims.{Log, History}
use Rattle.sg_recovery.proofs.Rolling.{reading_shows}
use Rattle.sg_join.specs.Join.{IsOf}
use Rattle.sg_join.proofs.Keeping as keeping
use Rattle.sg_join.proofs.Points.{wider, begun_points, ended_points}
use Rattle.sg_join.proofs.Histories.{kept_committed, objects_same, lives_same, same_state}
use Rattle.sg_store.specs.Ground.{Ground, IsLawful, setting}
use Rattle.sg_store.specs.Store.{Logs}
use Rattle.sg_store.proofs.Granted.{locked, others_hold}

or_swap : (a b : Bool) → (a || b) ≡ (b || (a || false))
or_swap true true = refl
or_swap true false = refl
or_swap false true = refl
or_swap false false = refl

-- of the live transactions without one
pub in_without : (t u : ℕ) (live : List ℕ) → is_in u (without t live) ≡ (is_in u live && not (u == t))
in_without t u [] = refl
in_without t u (a ∷ live) = go (a == t) refl (in_without t u live)
  where
    none : (b c : Bool) → (b ≡ true → c ≡ true) → (b && not c) ≡ false
    none true c h = ap not (h refl)
    none false c h = refl

    first : (a == t) ≡ true → ((a == u) && not (u == t)) ≡ false
    first e = none (a == u) (u == t) (λ f. eq-eqb u t (sym (eqb-true a u f) ∙ eqb-true a t e))

    other : (a == t) ≡ false → (a == u) ≡ ((a == u) && not (u == t))
    other e = some (a == u) (u == t) (λ f g. absurd (clash (ap (λ (x : ℕ). x == t) (eqb-true a u f) ∙ g) e))
      where
        some : (b c : Bool) → (b ≡ true → c ≡ true → ⊥) → b ≡ (b && not c)
        some true true h = absurd (h refl refl)
        some true false h = refl
        some false c h = refl

        clash : (a == t) ≡ true → (a == t) ≡ false → ⊥
        clash x y = absurd (cc)

    split : (b c d : Bool) → (b && d) ≡ false → (c && d) ≡ ((b || c) && d)
    split true true true h = refl
    split true true false h = refl
    split true false true h = sym h
    split true false false h = refl
    split false c d h = refl

    joined : (b c d : Bool) → b ≡ (b && d) → (b || (c && d)) ≡ ((b || c) && d)
    joined true c true h = refl
    joined true c false h = h
    joined false c d h = refl

    go : (b : Bool) → (a == t) ≡ b → is_in u (without t live) ≡ (is_in u live && not (u == t)) → is_in u (cond (not b) (a ∷ without t live) (without t live)) ≡ (((a == u) || is_in u live) && not (u == t))
    go true e h = h ∙ split (a == u) (is_in u live) (not (u == t)) (first e)
    go false e h = ap (λ b. (a == u) || b) h ∙ joined (a == u) (is_in u live) (not (u == t)) (other e)

module _ (t : Operations) (g : Ground) (lawful : IsLawful t g) (pages : g.X) (durable : Log (setting t g)) where
  -- the reading shows the objects after the run's history
  pub reads : (log : Log (setting t g)) (x : Run) (k : Logs t g pages durable log x) → g.objects k.keeps.running.reading ≡ live_objects t x
  reads log x k = reading_shows (setting t g) x.so_far.first (tally log).live k.keeps.running.placed k.history k.keeps.running.reading k.keeps.running.shows
      ∙ objects_same (setting t g) (step t) touches covers g.op (λ m v. refl) x.so_far (tally log).live k.history k.same

  -- what the entries of the transactions that aren't live give is what the committed transactions give
  pub kept : (x : Run) (live : List ℕ) (h : History (setting t g)) → IsOf g.op live h x.so_far → IsSound t x → Rattle.sg_recovery.specs.Shows.kept (setting t g) x.so_far.first live h ≡ committed_objects t x
  kept x live h i sound = kept_committed (setting t g) (step t) touches covers g.op (λ m v. refl) x.so_far live h i sound.serial

  -- a transaction begins
  pub begin_logs : (log : Log (setting t g)) (x : Run) (l : ℕ) (name : List ℕ) → Logs t g pages durable log x → next_lsn log ≤ l → x.so_far.next ≤ l
      → Logs t g pages durable (record { lsn = l; is = Begin l 0 } ∷ log) (began x l name)
  begin_logs log x l name k le above = record {
    sound = begin_stays t x l name above k.sound;
    next = omega arith;
    history = k.history;
    same = lives_same g.op x.so_far (began x l name).so_far (tally log).live (l ∷ (tally log).live) k.history k.same refl
        (λ u. ap (λ b. (l == u) || b) (k.same.lives u) ∙ (or_swap (l == u) (is_live x.so_far.live u) ∙ sym (live-append x.so_far.live (record { name = name; transaction = l; marks = [] } ∷ []) u)));
    points = wider (next_lsn log) (l + 1) x.so_far.clock k.history x.so_far.history (began x l name).so_far.live (omega (arith, le))
        (begun_points (next_lsn log) x.so_far.clock k.history x.so_far.history x.so_far.live name l k.points);
    keeps = keeping.goes (setting t g) lawful.laws x.so_far.first pages (committed_objects t x) (held_of x.so_far.held) durable log k.history k.history (record { lsn = l; is = Begin l 0 }) k.keeps le (begins 0);
  }

  -- a transaction holds what an operation touches
  pub locks_logs : (log : Log (setting t g)) (x : Run) (u : ℕ) (op : Op) → Logs t g pages durable log x → is_live x.so_far.live u ≡ true → holder_of t x u op ≡ None → Logs t g pages durable log (with_locks t x u op)
  locks_logs log x u op k live none = record {
    sound = locks_stay t x u op live none k.sound;
    next = k.next;
    history = k.history;
    same = same_state g.op x.so_far (with_locks t x u op).so_far (tally log).live k.history k.same refl refl;
    points = k.points;
    keeps = keeping.locks (setting t g) x.so_far.first pages (committed_objects t x) (held_of x.so_far.held) (held_of (hold_all same_resource u (touches (live_objects t x) op) x.so_far.held)) durable log k.history u k.keeps
        (locked t g x.so_far.held u (touches (live_objects t x) op));
  }

  -- a transaction has committed, and its commit is durable
  pub commit_logs : (log : Log (setting t g)) (x : Run) (l u p : ℕ) → Logs t g pages durable log x → next_lsn log ≤ l → is_live x.so_far.live u ≡ true
      → Logs t g pages (record { lsn = l; is = Commit u p } ∷ log) (record { lsn = l; is = Commit u p } ∷ log) (committed x u)
  commit_logs log x l u p k le live =
      let same : IsOf g.op (without u (tally log).live) k.history (committed x u).so_far = lives_same g.op x.so_far (committed x u).so_far (tally log).live (without u (tally log).live) k.history k.same refl
      (λ v. in_without u v (tally log).live ∙ (ap (λ b. b && not (v == u)) (k.same.lives v) ∙ sym (live-without u x.so_far.live v))) in
      let sound : IsSound t (committed x u) = commit_stays t x u live k.sound in
      record {
        sound = sound;
        next = omega (arith, k.next);
        history = k.history;
        same = same;
        points = wider (next_lsn log) (l + 1) x.so_far.clock k.history x.so_far.history (committed x u).so_far.live (omega (arith, le))
            (ended_points (next_lsn log) x.so_far.clock k.history x.so_far.history x.so_far.live u k.points);
        keeps = keeping.releases (setting t g) x.so_far.first pages (committed_objects t (committed x u)) (held_of x.so_far.held) (held_of (released u x.so_far.held)) (record { lsn = l; is = Commit u p } ∷ log) (record { lsn = l; is = Commit u p } ∷ log) k.history u
            (keeping.commits (setting t g) x.so_far.first pages (committed_objects t x) (committed_objects t (committed x u)) (held_of x.so_far.held) durable log k.history l u p k.keeps le (kept (committed x u) (without u (tally log).live) k.history same sound))
            (record { none = none_of u (tally log).notes; others = λ v ne. others_hold x.so_far.held u v ne });
      }
    where
      none_of : (v : ℕ) (ns : List (Top g.C g.N)) → Each (λ n. n.transaction ≡ v → ⊥) (notes_not_of v ns)
      none_of v [] = tt
      none_of v (n ∷ ns) = by_test (n.transaction == v) refl (none_of v ns)
        where
          by_test : (b : Bool) → (n.transaction == v) ≡ b → Each (λ m. m.transaction ≡ v → ⊥) (notes_not_of v ns) → Each (λ m. m.transaction ≡ v → ⊥) (cond (not b) (n ∷ notes_not_of v ns) (notes_not_of v ns))
          by_test true e h = h
          by_test false e h = ((λ same. absurd (clash (eq-eqb n.transaction v same) e)), h)
            where
              clash : (n.transaction == v) ≡ true → (n.transaction == v) ≡ false → ⊥
              clash x y = absurd (cc)
