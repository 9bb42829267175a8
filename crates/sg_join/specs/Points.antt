-- Where the marks of transactions stand in the history of a log and in that of a run.
use Rattle.std.specs.Prelude.{◌≡◌, ℕ, ◌+◌, ◌<◌, ◌≤◌, ◌&&◌, nat_le, Bool, List, [], ◌∷◌, ◌++◌, map}
use Rattle.sg_serial.specs.Machine.{Entry}
use Rattle.sg_serial.specs.Runs.{Live, Mark, is_own}
use Rattle.sg_recovery.specs.Laws.{Each}
use Rattle.sg_recovery.specs.Shows.{Entry as LogEntry, from_on}

-- which entries of a log's history are a transaction's at or behind a number, the oldest entry first
abbrev pub told_from : {V : Type 0} → (transaction number : ℕ) → List (LogEntry V) → List Bool
told_from t n [] = []
told_from t n (e ∷ es) = told_from t n es ++ from_on t n e.transaction e.at ∷ []

-- which entries of a run's are a transaction's from a time on
abbrev pub said_from : {Op Out : Type 0} → (transaction time : ℕ) → List (Entry Op Out) → List Bool
said_from t time es = map (λ e. is_own t e && nat_le time e.time) es

-- A MARK IS ONE POINT of both, where the log has fewer numbers than the bound and the run's clock shows this: the entries of its
-- transaction behind its record in the log are those from its time on in the run. Its record is behind the transaction's begin
pub record IsPoint {V Op Out : Type 0} (bound clock : ℕ) (h : List (LogEntry V)) (es : List (Entry Op Out)) (t : ℕ) (m : Mark) : Type 0 where
  pub begun : t ≤ m.number
  pub below : m.number < bound
  pub early : m.time ≤ clock
  pub same : told_from t (m.number + 1) h ≡ said_from t m.time es

-- ALL MARKS of the live transactions are
pub record ArePoints {V Op Out : Type 0} (bound clock : ℕ) (h : List (LogEntry V)) (es : List (Entry Op Out)) (ls : List Live) : Type 0 where
  pub entries : Each (λ e. e.at ≤ bound) h
  pub marks : Each (λ l. Each (IsPoint bound clock h es l.transaction) l.marks) ls
