-- Each call of a store over pages keeps what holds of every run, so every run of such calls is serial.
use Rattle.std.proofs.Common.{◌≡◌, ℕ, List, sym, subst}
use Rattle.std.specs.Prelude.{Result, Ok, Err}
use Rattle.sg_serial.specs.Runs.{IsFree}
use Rattle.sg_serial.proofs.Kept as kept
use Rattle.sg_serial.proofs.Theorems as theorems
use Rattle.sg_serial.proofs.Free.{free_of_none}
use Rattle.sg_serial.proofs.Once.{once_all}
use Rattle.sg_ops.specs.Table.{Table as Operations}
use Rattle.sg_model.specs.declared.stop.Stop.TheVariants as stops
use Rattle.sg_model.specs.Verb.{Op, Reply}
use Rattle.sg_model.specs.Step.{step}
use Rattle.sg_model.specs.Touches.{cell, touches, covers, same_resource, conflict}
use Rattle.sg_model.specs.Laws.{CellContents}
use Rattle.sg_model.proofs.Footprint.{footprint}
use Rattle.sg_model.proofs.Meeting.{conflict_law, resource_same, resource_self}
use Rattle.sg_run.specs.Run.{Run, start, live_objects, began, committed, aborted, saved, rolled_back, with_locks, did, stop}
use Rattle.sg_run.specs.Numbers.{Refusal, MarkRefusal, IsGranted, Begins, Does, Commits, Aborts, Saves, RollsBack, Flushes, Checkpoints, Leads, CallsAreSerial, stopped_in, at_log_end}
use Rattle.sg_run.specs.Numbers.Refusal.{Stopped, NoTransaction, TooManyLive, Busy, LocksFull, Because, NoSpace, NoBands, LogEnd, Memory, Disk}
use Rattle.sg_run.specs.Numbers.MarkRefusal.{NoMark, MarksFull, Otherwise}
use Rattle.sg_run.specs.Numbers.Leads.{no_calls, begins, does, commits, aborts, saves, rolls_back, flushes, checkpoints}
use Rattle.sg_run.specs.Serial.{IsSound}
use Rattle.sg_run.proofs.Serial.{UnlessStopped, begin_stays, commit_stays, abort_stays, save_stays, roll_stays, serial_run, start_stays}

module _ (t : Operations) where
  -- a granted operation is in nobody's way
  granted_free : (x : Run) (u : ℕ) (op : Op) → IsGranted t x u op → IsFree covers x.so_far.held u (touches (live_objects t x) op)
  granted_free x u op granted = free_of_none covers conflict conflict_law x.so_far.held u (touches (live_objects t x) op) granted.none

  locks_granted : (x : Run) (u : ℕ) (op : Op) → IsGranted t x u op → IsSound t x → IsSound t (with_locks t x u op)
  locks_granted x u op granted k = record {
    serial = kept.lock_keeps CellContents (step t) cell touches covers same_resource resource_same (footprint t) x.so_far u (touches (live_objects t x) op) granted.live (granted_free x u op granted) k.serial;
    once = once_all same_resource resource_same resource_self u (touches (live_objects t x) op) x.so_far.held k.once;
  }

  did_granted : (x : Run) (u : ℕ) (op : Op) → IsGranted t x u op → IsSound t x → IsSound t (did t x u op)
  did_granted x u op granted k = record {
    serial = theorems.does_keeps CellContents (step t) cell touches covers same_resource resource_same (footprint t) x.so_far u op granted.live (granted_free x u op granted) k.serial;
    once = once_all same_resource resource_same resource_self u (touches (live_objects t x) op) x.so_far.held k.once;
  }

  along : (y z : Run) → z ≡ y → UnlessStopped t y → UnlessStopped t z
  along y z e k = subst (λ (r : Run). UnlessStopped t r) (sym e) k

  -- a store that has stopped
  down_disk : (x y : Run) → y ≡ stop stops.Disk x → UnlessStopped t y
  down_disk x y e = along (stop stops.Disk x) y e (λ none. absurd (cc))

  down_log : (x y : Run) → y ≡ stop stops.LogEnd x → UnlessStopped t y
  down_log x y e = along (stop stops.LogEnd x) y e (λ none. absurd (cc))

  down_commit : (x y : Run) (u : ℕ) → y ≡ stopped_in x u → UnlessStopped t y
  down_commit x y u e = along (stopped_in x u) y e (λ none. absurd (cc))

  down_end : (x y : Run) (u : ℕ) → y ≡ at_log_end x u → UnlessStopped t y
  down_end x y u e = along (at_log_end x u) y e (λ none. absurd (cc))

  pub begin_keeps : (x y : Run) (tail before now : ℕ) (name : List ℕ) (r : Result ℕ Refusal) → Begins tail before now name x r y → UnlessStopped t x → UnlessStopped t y
  begin_keeps x y tail before now name (Ok n) h k = along (began x n name) y h.4 (λ none. begin_stays t x n name h.1 (k h.0))
  begin_keeps x y tail before now name (Err Stopped) h k = along x y h.1 k
  begin_keeps x y tail before now name (Err TooManyLive) h k = along x y h.2 k
  begin_keeps x y tail before now name (Err LogEnd) h k = along x y h.3 k
  begin_keeps x y tail before now name (Err Disk) h k = down_disk x y h.2.after
  begin_keeps x y tail before now name (Err NoTransaction) h k = absurd h
  begin_keeps x y tail before now name (Err (Busy holder)) h k = absurd h
  begin_keeps x y tail before now name (Err LocksFull) h k = absurd h
  begin_keeps x y tail before now name (Err (Because reason)) h k = absurd h
  begin_keeps x y tail before now name (Err (NoSpace free reserved need)) h k = absurd h
  begin_keeps x y tail before now name (Err (NoBands free need)) h k = absurd h
  begin_keeps x y tail before now name (Err Memory) h k = absurd h

  pub does_keep : (x y : Run) (begin tail before now u : ℕ) (op : Op) (r : Result Reply Refusal) → Does t begin tail before now u op x r y → UnlessStopped t x → UnlessStopped t y
  does_keep x y begin tail before now u op (Ok reply) h k = along (did t x u op) y h.4 (λ none. did_granted x u op h.1 (k h.0))
  does_keep x y begin tail before now u op (Err Stopped) h k = along x y h.1 k
  does_keep x y begin tail before now u op (Err NoTransaction) h k = along x y h.2 k
  does_keep x y begin tail before now u op (Err (Busy holder)) h k = along x y h.3 k
  does_keep x y begin tail before now u op (Err LocksFull) h k = along x y h.4 k
  does_keep x y begin tail before now u op (Err (Because reason)) h k = along (did t x u op) y h.3 (λ none. did_granted x u op h.1 (k h.0))
  does_keep x y begin tail before now u op (Err (NoSpace free reserved need)) h k = along (with_locks t x u op) y h.5 (λ none. locks_granted x u op h.1 (k h.0))
  does_keep x y begin tail before now u op (Err (NoBands free need)) h k = along (with_locks t x u op) y h.4 (λ none. locks_granted x u op h.1 (k h.0))
  does_keep x y begin tail before now u op (Err LogEnd) h k = along (with_locks t x u op) y h.5 (λ none. locks_granted x u op h.1 (k h.0))
  does_keep x y begin tail before now u op (Err Memory) h k = along (with_locks t x u op) y h.4 (λ none. locks_granted x u op h.1 (k h.0))
  does_keep x y begin tail before now u op (Err Disk) h k = down_disk x y h.2.after
  does_keep x y begin tail before now u op (Err TooManyLive) h k = absurd h

  pub commit_keeps : (x y : Run) (tail before now u : ℕ) (r : Result (Unit {0}) Refusal) → Commits tail before now u x r y → UnlessStopped t x → UnlessStopped t y
  commit_keeps x y tail before now u (Ok done) h k = along (committed x u) y h.2 (λ none. commit_stays t x u h.1 (k h.0))
  commit_keeps x y tail before now u (Err Stopped) h k = along x y h.1 k
  commit_keeps x y tail before now u (Err NoTransaction) h k = along x y h.2 k
  commit_keeps x y tail before now u (Err Disk) h k = down_commit x y u h.2
  commit_keeps x y tail before now u (Err LogEnd) h k = down_end x y u h.2
  commit_keeps x y tail before now u (Err TooManyLive) h k = absurd h
  commit_keeps x y tail before now u (Err (Busy holder)) h k = absurd h
  commit_keeps x y tail before now u (Err LocksFull) h k = absurd h
  commit_keeps x y tail before now u (Err (Because reason)) h k = absurd h
  commit_keeps x y tail before now u (Err (NoSpace free reserved need)) h k = absurd h
  commit_keeps x y tail before now u (Err (NoBands free need)) h k = absurd h
  commit_keeps x y tail before now u (Err Memory) h k = absurd h

  pub abort_keeps : (x y : Run) (tail before now u : ℕ) (r : Result (Unit {0}) Refusal) → Aborts tail before now u x r y → UnlessStopped t x → UnlessStopped t y
  abort_keeps x y tail before now u (Ok done) h k = along (aborted x u) y h.2 (λ none. abort_stays t x u h.1 (k h.0))
  abort_keeps x y tail before now u (Err Stopped) h k = along x y h.1 k
  abort_keeps x y tail before now u (Err NoTransaction) h k = along x y h.2 k
  abort_keeps x y tail before now u (Err Disk) h k = down_disk x y h.2.after
  abort_keeps x y tail before now u (Err LogEnd) h k = down_log x y h.2
  abort_keeps x y tail before now u (Err TooManyLive) h k = absurd h
  abort_keeps x y tail before now u (Err (Busy holder)) h k = absurd h
  abort_keeps x y tail before now u (Err LocksFull) h k = absurd h
  abort_keeps x y tail before now u (Err (Because reason)) h k = absurd h
  abort_keeps x y tail before now u (Err (NoSpace free reserved need)) h k = absurd h
  abort_keeps x y tail before now u (Err (NoBands free need)) h k = absurd h
  abort_keeps x y tail before now u (Err Memory) h k = absurd h

  pub save_keeps : (x y : Run) (tail before now u : ℕ) (r : Result ℕ MarkRefusal) → Saves tail before now u x r y → UnlessStopped t x → UnlessStopped t y
  save_keeps x y tail before now u (Ok n) h k = along (saved x u h.5.0) y h.5.2 (λ none. save_stays t x u h.5.0 (k h.0))
  save_keeps x y tail before now u (Err (Otherwise Stopped)) h k = along x y h.1 k
  save_keeps x y tail before now u (Err (Otherwise NoTransaction)) h k = along x y h.2 k
  save_keeps x y tail before now u (Err MarksFull) h k = along x y h.3 k
  save_keeps x y tail before now u (Err (Otherwise LogEnd)) h k = along x y h.4 k
  save_keeps x y tail before now u (Err (Otherwise Disk)) h k = down_disk x y h.3.after
  save_keeps x y tail before now u (Err NoMark) h k = absurd h
  save_keeps x y tail before now u (Err (Otherwise TooManyLive)) h k = absurd h
  save_keeps x y tail before now u (Err (Otherwise (Busy holder))) h k = absurd h
  save_keeps x y tail before now u (Err (Otherwise LocksFull)) h k = absurd h
  save_keeps x y tail before now u (Err (Otherwise (Because reason))) h k = absurd h
  save_keeps x y tail before now u (Err (Otherwise (NoSpace free reserved need))) h k = absurd h
  save_keeps x y tail before now u (Err (Otherwise (NoBands free need))) h k = absurd h
  save_keeps x y tail before now u (Err (Otherwise Memory)) h k = absurd h

  pub roll_keeps : (x y : Run) (tail before now u mark : ℕ) (r : Result (Unit {0}) MarkRefusal) → RollsBack tail before now u mark x r y → UnlessStopped t x → UnlessStopped t y
  roll_keeps x y tail before now u mark (Ok done) h k = along (rolled_back x u h.2.0.time mark) y h.2.2 (λ none. roll_stays t x u h.2.0.time mark h.1 (k h.0))
  roll_keeps x y tail before now u mark (Err (Otherwise Stopped)) h k = along x y h.1 k
  roll_keeps x y tail before now u mark (Err (Otherwise NoTransaction)) h k = along x y h.2 k
  roll_keeps x y tail before now u mark (Err NoMark) h k = along x y h.3 k
  roll_keeps x y tail before now u mark (Err (Otherwise Disk)) h k = down_disk x y h.3.after
  roll_keeps x y tail before now u mark (Err (Otherwise LogEnd)) h k = down_log x y h.3
  roll_keeps x y tail before now u mark (Err MarksFull) h k = absurd h
  roll_keeps x y tail before now u mark (Err (Otherwise TooManyLive)) h k = absurd h
  roll_keeps x y tail before now u mark (Err (Otherwise (Busy holder))) h k = absurd h
  roll_keeps x y tail before now u mark (Err (Otherwise LocksFull)) h k = absurd h
  roll_keeps x y tail before now u mark (Err (Otherwise (Because reason))) h k = absurd h
  roll_keeps x y tail before now u mark (Err (Otherwise (NoSpace free reserved need))) h k = absurd h
  roll_keeps x y tail before now u mark (Err (Otherwise (NoBands free need))) h k = absurd h
  roll_keeps x y tail before now u mark (Err (Otherwise Memory)) h k = absurd h

  pub flush_keeps : (x y : Run) (before now : ℕ) (r : Result (Unit {0}) Refusal) → Flushes before now x r y → UnlessStopped t x → UnlessStopped t y
  flush_keeps x y before now (Ok done) h k = along x y h.1 k
  flush_keeps x y before now (Err Stopped) h k = along x y h.1 k
  flush_keeps x y before now (Err Disk) h k = down_disk x y h.1.after
  flush_keeps x y before now (Err NoTransaction) h k = absurd h
  flush_keeps x y before now (Err TooManyLive) h k = absurd h
  flush_keeps x y before now (Err (Busy holder)) h k = absurd h
  flush_keeps x y before now (Err LocksFull) h k = absurd h
  flush_keeps x y before now (Err (Because reason)) h k = absurd h
  flush_keeps x y before now (Err (NoSpace free reserved need)) h k = absurd h
  flush_keeps x y before now (Err (NoBands free need)) h k = absurd h
  flush_keeps x y before now (Err LogEnd) h k = absurd h
  flush_keeps x y before now (Err Memory) h k = absurd h

  pub checkpoint_keeps : (x y : Run) (tail before now : ℕ) (r : Result (Unit {0}) Refusal) → Checkpoints tail before now x r y → UnlessStopped t x → UnlessStopped t y
  checkpoint_keeps x y tail before now (Ok done) h k = along x y h.1 k
  checkpoint_keeps x y tail before now (Err Stopped) h k = along x y h.1 k
  checkpoint_keeps x y tail before now (Err Disk) h k = down_disk x y h.1.after
  checkpoint_keeps x y tail before now (Err LogEnd) h k = down_log x y h.1
  checkpoint_keeps x y tail before now (Err NoTransaction) h k = absurd h
  checkpoint_keeps x y tail before now (Err TooManyLive) h k = absurd h
  checkpoint_keeps x y tail before now (Err (Busy holder)) h k = absurd h
  checkpoint_keeps x y tail before now (Err LocksFull) h k = absurd h
  checkpoint_keeps x y tail before now (Err (Because reason)) h k = absurd h
  checkpoint_keeps x y tail before now (Err (NoSpace free reserved need)) h k = absurd h
  checkpoint_keeps x y tail before now (Err (NoBands free need)) h k = absurd h
  checkpoint_keeps x y tail before now (Err Memory) h k = absurd h

  pub leads_keep : (x y : Run) → Leads t x y → UnlessStopped t x → UnlessStopped t y
  leads_keep x _ no_calls k = k
  leads_keep x _ (begins y z tail before now name r some h) k = begin_keeps y z tail before now name r h (leads_keep x y some k)
  leads_keep x _ (does y z begin tail before now u op r some h) k = does_keep y z begin tail before now u op r h (leads_keep x y some k)
  leads_keep x _ (commits y z tail before now u r some h) k = commit_keeps y z tail before now u r h (leads_keep x y some k)
  leads_keep x _ (aborts y z tail before now u r some h) k = abort_keeps y z tail before now u r h (leads_keep x y some k)
  leads_keep x _ (saves y z tail before now u r some h) k = save_keeps y z tail before now u r h (leads_keep x y some k)
  leads_keep x _ (rolls_back y z tail before now u mark r some h) k = roll_keeps y z tail before now u mark r h (leads_keep x y some k)
  leads_keep x _ (flushes y z before now r some h) k = flush_keeps y z before now r h (leads_keep x y some k)
  leads_keep x _ (checkpoints y z tail before now r some h) k = checkpoint_keeps y z tail before now r h (leads_keep x y some k)

pub calls_theorem : CallsAreSerial
calls_theorem t first x some stopped = serial_run t x (leads_keep t (start first) x some (λ e. start_stays t first) stopped)
