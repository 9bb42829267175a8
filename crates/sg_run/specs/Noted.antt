-- A run whose entries keep, beside what came out, what undoes them.
use Rattle.std.specs.Prelude.{◌≡◌, ℕ, true, List, map}
use Rattle.std.specs.FinMap.{get}
use Rattle.std.specs.List.{filter}
use Rattle.sg_serial.specs.Machine.{Entry}
use Rattle.sg_serial.specs.Runs.{State, is_live, is_own}
use Rattle.sg_serial.specs.Runs as runs
use Rattle.sg_ops.specs.Table.{Table as Operations}
use Rattle.sg_model.specs.Objects.{Objects}
use Rattle.sg_model.specs.Verb.{Op, Outcome}
use Rattle.sg_model.specs.Touches.{Resource, touches, covers, same_resource}
use Rattle.sg_model.specs.Undo.{OpNote, undo_all_on, noted_step}
use Rattle.sg_run.specs.Run.{Event, Past, Run, live_objects, aborted}

-- an operation of a transaction, with what came out and what undoes it
abbrev pub NotedEvent : Type 0
NotedEvent = Entry Op (Outcome × OpNote)

-- what transactions have done to objects, with what undoes it
abbrev pub NotedPast : Type 0
NotedPast = State Objects Op (Outcome × OpNote) Resource

-- an entry without what undoes it
abbrev pub bare : NotedEvent → Event
bare e = record { transaction = e.transaction; op = e.op; out = e.out.0; time = e.time }

-- a past without what undoes it
abbrev pub bare_past : NotedPast → Past
bare_past p = record {
  first = p.first;
  history = map bare p.history;
  commits = map (λ es. map bare es) p.commits;
  answered = p.answered;
  live = p.live;
  held = p.held;
  next = p.next;
  clock = p.clock;
}

-- a past with what undoes each of its entries is that of a run, and serial as the run is
pub record IsNoted (t : Operations) (x : Run) (p : NotedPast) : Type 0 where
  pub past : x.so_far ≡ bare_past p
  pub serial : runs.IsSerial (noted_step t) touches covers p

module _ (t : Operations) where
  -- a transaction holds what an operation touches
  abbrev pub noted_locks : NotedPast → ℕ → Op → NotedPast
  noted_locks p transaction op = runs.locked same_resource p transaction (touches (runs.live_state (noted_step t) p) op)

  -- a transaction holds what an operation touches, and has done it
  abbrev pub noted_did : NotedPast → ℕ → Op → NotedPast
  noted_did p transaction op = runs.did (noted_step t) (noted_locks p transaction op) transaction op

-- what undoes a transaction's entries, in their order
abbrev pub notes_by : NotedPast → ℕ → List OpNote
notes_by p transaction = map (λ e. e.out.1) (filter (is_own transaction) p.history)

-- Taking back what a live transaction has done, on each name the last change first, leaves the objects as an abort of it
-- leaves them
abbrev pub UndoingLeavesOut : Type 0
UndoingLeavesOut = (t : Operations) (x : Run) (p : NotedPast) (transaction : ℕ) (after : Objects) → IsNoted t x p → is_live x.so_far.live transaction ≡ true
    → ((name : List ℕ) → get after name ≡ undo_all_on name (notes_by p transaction) (get (live_objects t x) name)) → after ≡ live_objects t (aborted x transaction)
