-- What a store keeps of its log, at each step.
use Rattle.std.proofs.Common.{◌≡◌, ℕ, ◌+◌, ◌<◌, ◌≤◌, true, ◌∷◌, Some, sym, ◌∙◌, subst}
use Rattle.sg_recovery.specs.Setting.{Setting}
use Rattle.sg_recovery.specs.Log.{Numbered, tally, is_in, without}
use Rattle.sg_recovery.specs.Log.Record.{Commit}
use Rattle.sg_recovery.specs.Stands.{made, settled, StandsFor}
use Rattle.sg_recovery.specs.Laws.{Each, Laws}
use Rattle.sg_recovery.specs.Shows.{from_on, left, Running, kept}
use Rattle.sg_recovery.specs.Runs.{IsGranted, Locks, Releases, Goes}
use Rattle.sg_recovery.specs.Chains.{next_lsn}
use Rattle.sg_recovery.specs.Claims.{Log, History}
use Rattle.sg_recovery.proofs.Running as running
use Rattle.sg_recovery.proofs.Showing.{kept_entry, kept_undone}
use Rattle.sg_join.specs.Join.{Grows, Keeps}
use Rattle.sg_join.proofs.Fronts.{front_less, front_one, front_only}

module _ (s : Setting) where
  -- a running store stands for what the entries of those that aren't live give
  pub running_stands : (first : s.S) (pages : s.X) (bound : ℕ) (held : ℕ → s.W) (log : Log s) (h : History s) → Running s first bound held (tally log) (made s pages log) h
      → StandsFor s pages log (kept s first (tally log).live h)
  running_stands first pages bound held log h i = running.running_stands s first bound held (tally log) (made s pages log) h i

  -- a record that isn't a commit
  pub goes : Laws s → (first : s.S) (pages : s.X) (m : s.S) (held : ℕ → s.W) (durable log : Log s) (h g : History s) (r : Numbered s.C s.N) → Keeps s first pages m held durable log h → next_lsn log ≤ r.lsn
      → Goes s (tally log) (made s pages log) h held r.lsn r.is g → Keeps s first pages m held durable (r ∷ log) g
  goes w first pages m held durable log h g r k le step =
      let now : Running s first (r.lsn + 1) held (tally (r ∷ log)) (made s pages (r ∷ log)) g = running.goes_on s w first (next_lsn log) r.lsn held (tally log) (made s pages log) h g r.is k.running le step in
      let same : kept s first (tally (r ∷ log)).live g ≡ m = running.goes_same s first (next_lsn log) r.lsn held (tally log) (made s pages log) h g r.is k.running le step ∙ k.left in
      record {
        running = now;
        left = same;
        fronts = λ front f. front_one (λ l. StandsFor s pages l m) durable log front r (subst (λ n. StandsFor s pages (r ∷ log) n) same (running_stands first pages (r.lsn + 1) held (r ∷ log) g now)) k.fronts f;
      }

  -- A commit: until its record is durable each front stands for what there was or for what there is with it, and once all is
  -- durable it is the only front
  pub commits : (first : s.S) (pages : s.X) (m n : s.S) (held : ℕ → s.W) (durable log : Log s) (h : History s) (l t p : ℕ) → Keeps s first pages m held durable log h → next_lsn log ≤ l
      → kept s first (without t (tally log).live) h ≡ n → Keeps s first pages n held (record { lsn = l; is = Commit t p } ∷ log) (record { lsn = l; is = Commit t p } ∷ log) h
  commits first pages m n held durable log h l t p k le e =
      let now : Running s first (l + 1) held (tally (record { lsn = l; is = Commit t p } ∷ log)) (made s pages (record { lsn = l; is = Commit t p } ∷ log)) h
      = running.commits s first (next_lsn log) l t p held (tally log) (made s pages log) h k.running le in
      record {
        running = now;
        left = e;
        fronts = λ front f. subst (λ (ls : Log s). StandsFor s pages ls n) (sym (front_only (record { lsn = l; is = Commit t p } ∷ log) front f))
            (subst (λ o. StandsFor s pages (record { lsn = l; is = Commit t p } ∷ log) o) e (running_stands first pages (l + 1) held (record { lsn = l; is = Commit t p } ∷ log) h now));
      }

  -- more of the log is durable
  pub forced : (first : s.S) (pages : s.X) (m : s.S) (held : ℕ → s.W) (durable more log : Log s) (h : History s) → Grows durable more → Keeps s first pages m held durable log h → Keeps s first pages m held more log h
  forced first pages m held durable more log h g k = record { running = k.running; left = k.left; fronts = λ front f. k.fronts front (front_less durable more log front g f) }

  -- a verb that leaves no record
  pub looks : Laws s → (first : s.S) (pages : s.X) (m : s.S) (held : ℕ → s.W) (durable log : Log s) (h : History s) (t : ℕ) (v : s.V) → Keeps s first pages m held durable log h → is_in t (tally log).live ≡ true
      → ((o : s.O) → settled s (tally log).opened (made s pages log) ≡ Some o → s.After v o o) → IsGranted s held (tally log).live t v → Keeps s first pages m held durable log (record { transaction = t; at = next_lsn log; verb = v } ∷ h)
  looks w first pages m held durable log h t v k live after granted = record {
    running = running.looks s w first (next_lsn log) t held v (tally log) (made s pages log) h k.running live (after k.running.reading k.running.reads) granted;
    left = kept_entry s first (tally log).live (record { transaction = t; at = next_lsn log; verb = v }) h live ∙ k.left;
    fronts = k.fronts;
  }

  -- the entries of a transaction from a number on are forgotten
  pub forgets : (first : s.S) (pages : s.X) (m : s.S) (held : ℕ → s.W) (durable log : Log s) (h : History s) (t from : ℕ) → Keeps s first pages m held durable log h → is_in t (tally log).live ≡ true
      → Each (λ n. n.transaction ≡ t → n.lsn < from) (tally log).notes → Keeps s first pages m held durable log (left (from_on t from) h)
  forgets first pages m held durable log h t from k live low = record {
    running = running.forgets s first (next_lsn log) t from held (tally log) (made s pages log) h k.running live low;
    left = kept_undone s first (tally log).live t from h live ∙ k.left;
    fronts = k.fronts;
  }

  -- a transaction holds more
  pub locks : (first : s.S) (pages : s.X) (m : s.S) (held new : ℕ → s.W) (durable log : Log s) (h : History s) (t : ℕ) → Keeps s first pages m held durable log h → Locks s t held new → Keeps s first pages m new durable log h
  locks first pages m held new durable log h t k l = record {
    running = running.locks s first (next_lsn log) t held new (tally log) (made s pages log) h k.running l;
    left = k.left;
    fronts = k.fronts;
  }

  -- A transaction of which no note stands holds no more what it held
  pub releases : (first : s.S) (pages : s.X) (m : s.S) (held new : ℕ → s.W) (durable log : Log s) (h : History s) (t : ℕ) → Keeps s first pages m held durable log h → Releases s (tally log).notes t held new
      → Keeps s first pages m new durable log h
  releases first pages m held new durable log h t k l = record {
    running = running.releases s first (next_lsn log) t held new (tally log) (made s pages log) h k.running l;
    left = k.left;
    fronts = k.fronts;
  }
