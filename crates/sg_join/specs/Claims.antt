-- What is proved of a store's log and run together.
use Rattle.std.specs.Prelude.{◌≡◌, ℕ, ◌<◌, ◌≤◌, true, not, List, [], ◌∷◌, ◌++◌, Some}
use Rattle.std.specs.List.{filter}
use Rattle.sg_serial.specs.Machine.{Entry}
use Rattle.sg_serial.specs.Runs.{State, is_live, is_own, live_state, committed_state, IsSerial}
use Rattle.sg_recovery.specs.Setting.{Setting}
use Rattle.sg_recovery.specs.Log.{Numbered, Top, Tally, tally, is_in, without, notes_of, open_not_of}
use Rattle.sg_recovery.specs.Log.Record.{Commit, CompEnd}
use Rattle.sg_recovery.specs.Stands.{made, settled, undoes, wants_one}
use Rattle.sg_recovery.specs.Laws.{Each, Laws}
use Rattle.sg_recovery.specs.Keeps.{HasUndone}
use Rattle.sg_recovery.specs.Shows.{from_on, left, live_after, Running, kept}
use Rattle.sg_recovery.specs.Runs.{TakesPages, IsGranted, Locks, Releases, Goes}
use Rattle.sg_recovery.specs.Chains.{next_lsn}
use Rattle.sg_recovery.specs.Claims.{Log, History}
use Rattle.sg_join.specs.Join.{Grows, Keeps, IsOf}
use Rattle.sg_join.specs.Joint.{Joint}

-- A STORE KEEPS what it has to keep of its log, at each record but a commit,
abbrev pub KeepingGoes : Setting → Type 0
KeepingGoes s = Laws s → (first : s.S) (pages : s.X) (m : s.S) (held : ℕ → s.W) (durable log : Log s) (h g : History s) (r : Numbered s.C s.N) → Keeps s first pages m held durable log h → next_lsn log ≤ r.lsn
    → Goes s (tally log) (made s pages log) h held r.lsn r.is g → Keeps s first pages m held durable (r ∷ log) g

-- at a commit once its record is durable: what is kept then is what the entries of those give that don't go on behind it,
abbrev pub KeepingCommits : Setting → Type 0
KeepingCommits s = (first : s.S) (pages : s.X) (m n : s.S) (held : ℕ → s.W) (durable log : Log s) (h : History s) (lsn transaction previous : ℕ) → Keeps s first pages m held durable log h → next_lsn log ≤ lsn
    → kept s first (without transaction (tally log).live) h ≡ n
    → Keeps s first pages n held (record { lsn = lsn; is = Commit transaction previous } ∷ log) (record { lsn = lsn; is = Commit transaction previous } ∷ log) h

-- where more of the log becomes durable,
abbrev pub KeepingForces : Setting → Type 0
KeepingForces s = (first : s.S) (pages : s.X) (m : s.S) (held : ℕ → s.W) (durable more log : Log s) (h : History s) → Grows durable more → Keeps s first pages m held durable log h → Keeps s first pages m held more log h

-- where a verb leaves no record,
abbrev pub KeepingLooks : Setting → Type 0
KeepingLooks s = Laws s → (first : s.S) (pages : s.X) (m : s.S) (held : ℕ → s.W) (durable log : Log s) (h : History s) (transaction : ℕ) (v : s.V) → Keeps s first pages m held durable log h → is_in transaction (tally log).live ≡ true
    → ((o : s.O) → settled s (tally log).opened (made s pages log) ≡ Some o → s.After v o o) → IsGranted s held (tally log).live transaction v
    → Keeps s first pages m held durable log (record { transaction = transaction; at = next_lsn log; verb = v } ∷ h)

-- where the entries of a transaction from a number on are forgotten, once no note of theirs stands,
abbrev pub KeepingForgets : Setting → Type 0
KeepingForgets s = (first : s.S) (pages : s.X) (m : s.S) (held : ℕ → s.W) (durable log : Log s) (h : History s) (transaction from : ℕ) → Keeps s first pages m held durable log h → is_in transaction (tally log).live ≡ true
    → Each (λ n. n.transaction ≡ transaction → n.lsn < from) (tally log).notes → Keeps s first pages m held durable log (left (from_on transaction from) h)

-- where a transaction gets more locks,
abbrev pub KeepingLocks : Setting → Type 0
KeepingLocks s = (first : s.S) (pages : s.X) (m : s.S) (held new : ℕ → s.W) (durable log : Log s) (h : History s) (transaction : ℕ) → Keeps s first pages m held durable log h → Locks s transaction held new → Keeps s first pages m new durable log h

-- or gives them back, once no note of its stands,
abbrev pub KeepingReleases : Setting → Type 0
KeepingReleases s = (first : s.S) (pages : s.X) (m : s.S) (held new : ℕ → s.W) (durable log : Log s) (h : History s) (transaction : ℕ) → Keeps s first pages m held durable log h → Releases s (tally log).notes transaction held new
    → Keeps s first pages m new durable log h

-- and where the last note of a transaction has been undone
abbrev pub KeepingUndoes : Setting → Type 0
KeepingUndoes s = Laws s → (first : s.S) (pages : s.X) (m : s.S) (held : ℕ → s.W) (durable log : Log s) (h : History s) (lsn transaction previous undo_next : ℕ) (n : Top s.C s.N) (own : List (Top s.C s.N))
    → Keeps s first pages m held durable log h → next_lsn log ≤ lsn → notes_of transaction (tally log).notes ≡ n ∷ own → n.undo_next ≡ undo_next → open_not_of transaction (tally log).opened ≡ []
    → ((o : s.O) → settled s (tally log).opened (made s pages log) ≡ Some o → HasUndone s n (made s pages log) o) → TakesPages s (tally log) (made s pages log) (wants_one s n)
    → Keeps s first pages m held durable (record { lsn = lsn; is = CompEnd transaction previous undo_next } ∷ log) (left (from_on transaction n.lsn) h)

-- THE LAST NOTE of a live transaction can be undone now,
abbrev pub LastIsUndone : Setting → Type 0
LastIsUndone s = (first : s.S) (bound : ℕ) (held : ℕ → s.W) (k : Tally s.C s.N) (x : s.X) (h : History s) (running : Running s first bound held k x h) (transaction : ℕ) (n : Top s.C s.N) (own : List (Top s.C s.N))
    → notes_of transaction k.notes ≡ n ∷ own → is_in transaction k.live ≡ true → (p : s.O) × (undoes s n running.reading ≡ Some p)

-- and a page is free for it, if it wants one
abbrev pub LastIsFree : Setting → Type 0
LastIsFree s = (first : s.S) (bound : ℕ) (held : ℕ → s.W) (k : Tally s.C s.N) (x : s.X) (h : History s) (running : Running s first bound held k x h) (transaction : ℕ) (n : Top s.C s.N) (own : List (Top s.C s.N))
    → notes_of transaction k.notes ≡ n ∷ own → wants_one s n ≤ s.free running.reading

-- a run of the joint's operations
abbrev pub RunOf : Joint → Type 0
RunOf j = State j.setting.S j.Op j.Out j.Resource

-- THE TWO THEORIES ARE ONE: the objects after the history of the log are those after the history of the run,
abbrev pub ObjectsAreSame : Joint → Type 0
ObjectsAreSame j = (p : RunOf j) (live : List ℕ) (h : History j.setting) → IsOf j.op live h p → live_after j.setting p.first h ≡ live_state j.step p

-- what the entries of the transactions that aren't live give is what the committed ones give, one whole one after another,
abbrev pub KeptAreCommitted : Joint → Type 0
KeptAreCommitted j = (p : RunOf j) (live : List ℕ) (h : History j.setting) → IsOf j.op live h p → IsSerial j.step j.touches j.covers p → kept j.setting p.first live h ≡ committed_state j.step p

-- and a line that adds an entry,
abbrev pub DoingIsSame : Joint → Type 0
DoingIsSame j = (p q : RunOf j) (live : List ℕ) (h : History j.setting) (e : Entry j.Op j.Out) (v : j.setting.V) (at : ℕ) → IsOf j.op live h p → q.history ≡ p.history ++ e ∷ [] → q.live ≡ p.live → j.op v ≡ e.op
    → IsOf j.op live (record { transaction = e.transaction; at = at; verb = v } ∷ h) q

-- one that leaves the history and has others live,
abbrev pub EndingIsSame : Joint → Type 0
EndingIsSame j = (p q : RunOf j) (live new : List ℕ) (h : History j.setting) → IsOf j.op live h p → q.history ≡ p.history → ((t : ℕ) → is_in t new ≡ is_live q.live t) → IsOf j.op new h q

-- and one that takes the entries of a transaction out leave them the same
abbrev pub AbortingIsSame : Joint → Type 0
AbortingIsSame j = (p q : RunOf j) (live new : List ℕ) (h : History j.setting) (transaction : ℕ) → IsOf j.op live h p → q.history ≡ filter (λ e. not (is_own transaction e)) p.history
    → ((u : ℕ) → is_in u new ≡ is_live q.live u) → IsOf j.op new (left (from_on transaction 0) h) q
