-- What a store over a page engine shows of a run.
use Rattle.std.specs.Prelude.{◌≡◌, ◌+◌, ◌≤◌, ◌<◌, true, false, ℕ, List, length, map, Option, Some, None}
use Rattle.sg_disk.specs.Disk.{Image, Leaves}
use Rattle.sg_ops.specs.Table.{Table as Operations}
use Rattle.sg_serial.specs.Locks.{Touch, Hold, held_of}
use Rattle.sg_serial.specs.Runs.{Live, is_live}
use Rattle.sg_model.specs.declared.stop.Stop.{Stop}
use Rattle.sg_model.specs.Touches.{Cell, Resource}
use Rattle.sg_core.specs.Live.{Txn, without}
use Rattle.sg_recovery.specs.Setting.{Setting}
use Rattle.sg_recovery.specs.Log.{Top, tally, notes_of}
use Rattle.sg_recovery.specs.Laws.{Each}
use Rattle.sg_recovery.specs.Stands.{wanted}
use Rattle.sg_recovery.specs.Chains.{next_lsn}
use Rattle.sg_recovery.specs.Claims.{Log, History}
use Rattle.sg_recovery.specs.Shows.{from_on, left}
use Rattle.sg_run.specs.Run.{Run, committed, committed_objects}
use Rattle.sg_run.specs.Serial.{IsSound}
use Rattle.sg_join.specs.Join.{Keeps, IsOf}
use Rattle.sg_join.specs.Points.{ArePoints}
use Rattle.sg_store.specs.Ground.{Ground, setting, are_written}
use Rattle.sg_store.specs.Engine.{View, IsEngine, IsIdle, is_going, pages_of}
use Rattle.sg_store.specs.Stands.{StandsForFirst}

-- A store without its engine: the live transactions in order of begin, with how many pages each has reserved; what they
-- hold; and why the store has stopped, if it has
pub record Core : Type 0 where
  pub live : List Txn
  pub held : List (Hold Resource)
  pub stopped : Option Stop

-- each live transaction has reserved as many pages as its notes want
abbrev pub AreReserved : (s : Setting) → List Txn → List (Top s.C s.N) → Type 0
AreReserved s txns ns = Each (λ k. k.reserved ≡ wanted s (notes_of k.transaction ns)) txns

-- Each thing that is buried was dropped by a transaction with a number below this bound, which holds its place to write as long
-- as it is live
abbrev pub AreOwned : (g : Ground) → List Live → List (Hold Resource) → (bound : ℕ) → g.O → Type 0
AreOwned g live held bound o = (d : ℕ) (f : List (Touch Resource)) → g.Buried o d f → (d < bound) × (is_live live d ≡ true
    → (c : Cell) → are_written f c ≡ true → are_written (held_of held d) c ≡ true)

-- Nothing is buried of a live transaction that isn't marked as one that has dropped something
abbrev pub IsMarked : (g : Ground) → g.O → Txn → Type 0
IsMarked g o k = k.dropped ≡ false → (f : List (Touch Resource)) → g.Buried o k.transaction f → ⊥

abbrev pub AreMarked : (g : Ground) → List Txn → g.O → Type 0
AreMarked g txns o = Each (IsMarked g o) txns

-- The marks of the live transactions are those of the run's, each at the record that has its number
abbrev pub shown_txn : Txn → ℕ × List ℕ
shown_txn k = (k.transaction, k.marks)

abbrev pub shown_live : Live → ℕ × List ℕ
shown_live l = (l.transaction, map (λ m. m.number) l.marks)

abbrev pub HaveMarks : List Txn → List Live → Type 0
HaveMarks txns ls = map shown_txn txns ≡ map shown_live ls

-- nothing that the transaction dropped is buried any more
abbrev pub HasNone : (t : Operations) (g : Ground) → View g → ℕ → Type 0
HasNone t g v u = (o : g.O) → g.reading (pages_of t g v) ≡ Some o → (f : List (Touch Resource)) → g.Buried o u f → ⊥

-- A log over some pages keeps the run: it is serial; the log's history and its live transactions are the run's, and their marks are points
-- of both; and any of them can be undone from any point on, by notes each of which lies in what its transaction holds to write, so that
-- each front of the log with all that is durable stands for the committed objects
pub record Logs (t : Operations) (g : Ground) (pages : g.X) (durable log : Log (setting t g)) (x : Run) : Type 0 where
  pub sound : IsSound t x
  pub next : x.so_far.next ≤ next_lsn log
  pub history : History (setting t g)
  pub same : IsOf g.op (tally log).live history x.so_far
  pub points : ArePoints (next_lsn log) x.so_far.clock history x.so_far.history x.so_far.live
  pub keeps : Keeps (setting t g) x.so_far.first pages (committed_objects t x) (held_of x.so_far.held) durable log history

-- An engine between actions keeps the run: its log does; the live transactions are the run's; each page is free that the reading
-- doesn't reach, and each live transaction has reserved a page for each of its notes that wants one, and has the run's marks
pub record IsKept (t : Operations) (g : Ground) (v : View g) (txns : List Txn) (x : Run) : Type 0 where
  pub live : map (λ l. l.transaction) txns ≡ map (λ l. l.transaction) x.so_far.live
  pub answered : x.so_far.answered ≡ length x.so_far.commits
  pub engine : IsEngine t g v
  pub idle : IsIdle v
  pub logs : Logs t g v.first v.durable v.log x
  pub free : (o : g.O) → g.reading (pages_of t g v) ≡ Some o → v.free_pages ≡ g.free o
  pub reserved : AreReserved (setting t g) txns (tally v.log).notes
  pub buried : (o : g.O) → g.reading (pages_of t g v) ≡ Some o → AreOwned g x.so_far.live x.so_far.held (next_lsn v.log) o
  pub marked : (o : g.O) → g.reading (pages_of t g v) ≡ Some o → AreMarked g txns o
  pub marks : HaveMarks txns x.so_far.live

-- A store that isn't stopped shows the run: its engine keeps it, and what its transactions hold is what the run's hold
pub record Runs (t : Operations) (g : Ground) (v : View g) (k : Core) (x : Run) : Type 0 where
  pub is_kept : IsKept t g v k.live x
  pub held : k.held ≡ x.so_far.held

-- A store shows a run. Each image that a crash now leaves stands for a prefix of its commits that has all answered ones, and at
-- most one commit wasn't answered. A stopped store shows each run that is stopped so, for the same reason
pub record Shows (t : Operations) (g : Ground) (v : View g) (k : Core) (x : Run) : Type 0 where
  pub stopped : k.stopped ≡ x.stopped
  pub runs : x.stopped ≡ None → Runs t g v k x
  pub answered : x.so_far.answered ≤ length x.so_far.commits
  pub one_more : length x.so_far.commits ≤ x.so_far.answered + 1
  pub images : (c : Image) → Leaves v.disk.now c → StandsForFirst t g x.so_far.answered x c

-- A log while a transaction is undone as far as a number: its last actions have been, and with all of it from there on left out the history
-- is the run's
pub record Undoes (t : Operations) (g : Ground) (pages : g.X) (durable log : Log (setting t g)) (x : Run) (u from : ℕ) : Type 0 where
  pub sound : IsSound t x
  pub next : x.so_far.next ≤ next_lsn log
  pub whole : History (setting t g)
  pub same : IsOf g.op (tally log).live whole x.so_far
  pub points : ArePoints (next_lsn log) x.so_far.clock whole x.so_far.history x.so_far.live
  pub history : History (setting t g)
  pub rest : left (from_on u from) history ≡ left (from_on u from) whole
  pub keeps : Keeps (setting t g) x.so_far.first pages (committed_objects t x) (held_of x.so_far.held) durable log history

-- each live transaction but one has reserved as many pages as its notes want
abbrev pub AreOthersReserved : (s : Setting) → List Txn → List (Top s.C s.N) → ℕ → Type 0
AreOthersReserved s txns ns u = Each (λ k. (k.transaction ≡ u → ⊥) → k.reserved ≡ wanted s (notes_of k.transaction ns)) txns

-- An engine between actions keeps the run while a transaction is undone as far as a number, of which no note above another one stands
pub record IsUndoing (t : Operations) (g : Ground) (v : View g) (txns : List Txn) (x : Run) (u from at : ℕ) : Type 0 where
  pub live : map (λ l. l.transaction) txns ≡ map (λ l. l.transaction) x.so_far.live
  pub answered : x.so_far.answered ≡ length x.so_far.commits
  pub engine : IsEngine t g v
  pub idle : IsIdle v
  pub undoes : Undoes t g v.first v.durable v.log x u from
  pub free : (o : g.O) → g.reading (pages_of t g v) ≡ Some o → v.free_pages ≡ g.free o
  pub most : Each (λ m. m.transaction ≡ u → m.lsn ≤ at) (tally v.log).notes
  pub reserved : AreOthersReserved (setting t g) txns (tally v.log).notes u
  pub buried : (o : g.O) → g.reading (pages_of t g v) ≡ Some o → AreOwned g x.so_far.live x.so_far.held (next_lsn v.log) o
  pub marked : (o : g.O) → g.reading (pages_of t g v) ≡ Some o → AreMarked g txns o
  pub marks : HaveMarks txns x.so_far.live

-- An engine between actions, behind the commit of a transaction of a run: its log keeps the run with the commit. What is buried
-- still belongs to what was held before it, so that what the transaction dropped is apart from what the others hold
pub record IsLeaving (t : Operations) (g : Ground) (v : View g) (txns : List Txn) (x : Run) (u : ℕ) : Type 0 where
  pub was : is_live x.so_far.live u ≡ true
  pub going : is_going u v.log ≡ true
  pub sound : IsSound t x
  pub live : map (λ l. l.transaction) (without u txns) ≡ map (λ l. l.transaction) (committed x u).so_far.live
  pub engine : IsEngine t g v
  pub idle : IsIdle v
  pub logs : Logs t g v.first v.durable v.log (committed x u)
  pub free : (o : g.O) → g.reading (pages_of t g v) ≡ Some o → v.free_pages ≡ g.free o
  pub reserved : AreReserved (setting t g) (without u txns) (tally v.log).notes
  pub buried : (o : g.O) → g.reading (pages_of t g v) ≡ Some o → AreOwned g x.so_far.live x.so_far.held (next_lsn v.log) o
  pub marked : (o : g.O) → g.reading (pages_of t g v) ≡ Some o → AreMarked g txns o
  pub marks : HaveMarks (without u txns) (committed x u).so_far.live
