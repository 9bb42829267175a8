-- The run of a store over pages, call by call, where each transaction is known by its number: what a call may be answered, in
-- the order of its refusals, and the run behind it.
use Rattle.std.specs.Prelude.{◌≡◌, ℕ, ◌+◌, ◌<◌, ◌≤◌, ◌^◌, IsTrue, IsOk, IsSome, true, false, nat_lt, List, length, Some, None, Result, Ok, Err}
use Rattle.sg_base.specs.Ends.{HasRisen}
use Rattle.sg_ops.specs.Table.{Table as Operations}
use Rattle.sg_serial.specs.Locks.{first_holder}
use Rattle.sg_serial.specs.Runs.{Mark, is_live, nth_mark}
use Rattle.sg_model.specs.declared.reason.Reason.{Reason}
use Rattle.sg_model.specs.declared.stop.Stop.TheVariants as stops
use Rattle.sg_model.specs.Objects.{Objects}
use Rattle.sg_model.specs.Verb.{Op, Reply}
use Rattle.sg_model.specs.Verb.Op.{On, Names}
use Rattle.sg_model.specs.Verb.Verb.{Keys}
use Rattle.sg_model.specs.Step.{step, is_changing}
use Rattle.sg_model.specs.Touches.{touches, conflict}
use Rattle.sg_run.specs.Serial.{IsSerial}
use Rattle.sg_run.specs.Run.{Run, start, MOST_LIVE, MOST_HELD, MOST_MARKS, marks_of, began, saved, rolled_back, committed, aborted, did, with_locks, held_with, live_objects, stop, with_commit}

-- Why a call is refused: the store had stopped; the transaction isn't live; as many are live as may be; this one holds something
-- in conflict; too much would be held; the operation is refused; fewer pages are free than are reserved and needed; fewer bands are
-- free than are needed; the log has no room; memory ran out; the disk has failed
pub data Refusal : Type 0 where
  Stopped : Refusal
  NoTransaction : Refusal
  TooManyLive : Refusal
  Busy : (holder : ℕ) → Refusal
  LocksFull : Refusal
  Because : (reason : Reason) → Refusal
  NoSpace : (free reserved need : ℕ) → Refusal
  NoBands : (free need : ℕ) → Refusal
  LogEnd : Refusal
  Memory : Refusal
  Disk : Refusal

-- Why a call on the marks of a transaction is refused: it has no such mark; it has as many as it may; or as another call is
pub data MarkRefusal : Type 0 where
  NoMark : MarkRefusal
  MarksFull : MarkRefusal
  Otherwise : (why : Refusal) → MarkRefusal

-- no new work begins once the log's tail is above this byte
abbrev pub NEW_WORK_END : ℕ
NEW_WORK_END = 2 ^ 62

-- a call that has to append a record comes to the log's end where one of the greatest size might pass 2^63
abbrev pub IsAtEnd : ℕ → Type 0
IsAtEnd tail = 2 ^ 63 < tail + 131072

-- the store has stopped for a fault of the disk, whose count rose
pub record IsBroken (before now : ℕ) (x y : Run) : Type 0 where
  pub after : y ≡ stop stops.Disk x
  pub risen : HasRisen before now

-- a begin, of a transaction with this name: with the log's tail, and the counts of faults before the call and now
abbrev pub Begins : (tail before now : ℕ) → (name : List ℕ) → Run → Result ℕ Refusal → Run → Type 0
Begins tail before now name x (Ok n) y = (x.stopped ≡ None) × (x.so_far.next ≤ n) × (length x.so_far.live < MOST_LIVE) × (tail ≤ NEW_WORK_END) × (y ≡ began x n name)
Begins tail before now name x (Err Stopped) y = IsSome x.stopped × (y ≡ x)
Begins tail before now name x (Err TooManyLive) y = (x.stopped ≡ None) × (MOST_LIVE ≤ length x.so_far.live) × (y ≡ x)
Begins tail before now name x (Err LogEnd) y = (x.stopped ≡ None) × (NEW_WORK_END < tail) × (length x.so_far.live < MOST_LIVE) × (y ≡ x)
Begins tail before now name x (Err Disk) y = (x.stopped ≡ None) × (length x.so_far.live < MOST_LIVE) × IsBroken before now x y
Begins tail before now name x (Err other) y = ⊥

-- the store has stopped in a commit, which counts, whether or not it is on the disk
abbrev pub stopped_in : Run → ℕ → Run
stopped_in x u = record { so_far = with_commit x.so_far u; stopped = Some stops.Disk }

abbrev pub at_log_end : Run → ℕ → Run
at_log_end x u = record { so_far = with_commit x.so_far u; stopped = Some stops.LogEnd }

-- a commit, with the tail at its return: the record of the commit, or one of the freeing behind it, may come to the log's end
abbrev pub Commits : (tail before now : ℕ) → (u : ℕ) → Run → Result (Unit {0}) Refusal → Run → Type 0
Commits tail before now u x (Ok done) y = (x.stopped ≡ None) × (is_live x.so_far.live u ≡ true) × (y ≡ committed x u)
Commits tail before now u x (Err Stopped) y = IsSome x.stopped × (y ≡ x)
Commits tail before now u x (Err NoTransaction) y = (x.stopped ≡ None) × (is_live x.so_far.live u ≡ false) × (y ≡ x)
Commits tail before now u x (Err Disk) y = (x.stopped ≡ None) × (is_live x.so_far.live u ≡ true) × (y ≡ stopped_in x u) × HasRisen before now
Commits tail before now u x (Err LogEnd) y = (x.stopped ≡ None) × (is_live x.so_far.live u ≡ true) × (y ≡ at_log_end x u) × IsAtEnd tail
Commits tail before now u x (Err other) y = ⊥

-- an abort, with the tail at its return: a record of what undoes it may come to the log's end
abbrev pub Aborts : (tail before now : ℕ) → (u : ℕ) → Run → Result (Unit {0}) Refusal → Run → Type 0
Aborts tail before now u x (Ok done) y = (x.stopped ≡ None) × (is_live x.so_far.live u ≡ true) × (y ≡ aborted x u)
Aborts tail before now u x (Err Stopped) y = IsSome x.stopped × (y ≡ x)
Aborts tail before now u x (Err NoTransaction) y = (x.stopped ≡ None) × (is_live x.so_far.live u ≡ false) × (y ≡ x)
Aborts tail before now u x (Err Disk) y = (x.stopped ≡ None) × (is_live x.so_far.live u ≡ true) × IsBroken before now x y
Aborts tail before now u x (Err LogEnd) y = (x.stopped ≡ None) × (is_live x.so_far.live u ≡ true) × (y ≡ stop stops.LogEnd x) × IsAtEnd tail
Aborts tail before now u x (Err other) y = ⊥

-- A MARK IS SET, at the record with a number; the answer says how many the transaction then has
abbrev pub Saves : (tail before now : ℕ) → (u : ℕ) → Run → Result ℕ MarkRefusal → Run → Type 0
Saves tail before now u x (Ok n) y = (x.stopped ≡ None) × (is_live x.so_far.live u ≡ true) × (length (marks_of x u) < MOST_MARKS) × (tail ≤ NEW_WORK_END)
    × (n ≡ length (marks_of x u) + 1) × ((number : ℕ) × (tail ≤ number) × (y ≡ saved x u number))
Saves tail before now u x (Err (Otherwise Stopped)) y = IsSome x.stopped × (y ≡ x)
Saves tail before now u x (Err (Otherwise NoTransaction)) y = (x.stopped ≡ None) × (is_live x.so_far.live u ≡ false) × (y ≡ x)
Saves tail before now u x (Err MarksFull) y = (x.stopped ≡ None) × (is_live x.so_far.live u ≡ true) × (MOST_MARKS ≤ length (marks_of x u)) × (y ≡ x)
Saves tail before now u x (Err (Otherwise LogEnd)) y = (x.stopped ≡ None) × (is_live x.so_far.live u ≡ true) × (length (marks_of x u) < MOST_MARKS) × (NEW_WORK_END < tail) × (y ≡ x)
Saves tail before now u x (Err (Otherwise Disk)) y = (x.stopped ≡ None) × (is_live x.so_far.live u ≡ true) × (length (marks_of x u) < MOST_MARKS) × IsBroken before now x y
Saves tail before now u x (Err other) y = ⊥

-- GOING BACK TO A MARK, by its number in their order, of which the first is 1; with the tail at the return: a record of what undoes may
-- come to the log's end
abbrev pub RollsBack : (tail before now : ℕ) → (u mark : ℕ) → Run → Result (Unit {0}) MarkRefusal → Run → Type 0
RollsBack tail before now u mark x (Ok done) y = (x.stopped ≡ None) × (is_live x.so_far.live u ≡ true)
    × ((m : Mark) × (nth_mark mark (marks_of x u) ≡ Some m) × (y ≡ rolled_back x u m.time mark))
RollsBack tail before now u mark x (Err (Otherwise Stopped)) y = IsSome x.stopped × (y ≡ x)
RollsBack tail before now u mark x (Err (Otherwise NoTransaction)) y = (x.stopped ≡ None) × (is_live x.so_far.live u ≡ false) × (y ≡ x)
RollsBack tail before now u mark x (Err NoMark) y = (x.stopped ≡ None) × (is_live x.so_far.live u ≡ true) × (nth_mark mark (marks_of x u) ≡ None) × (y ≡ x)
RollsBack tail before now u mark x (Err (Otherwise Disk)) y = (x.stopped ≡ None) × (is_live x.so_far.live u ≡ true) × IsSome (nth_mark mark (marks_of x u)) × IsBroken before now x y
RollsBack tail before now u mark x (Err (Otherwise LogEnd)) y = (x.stopped ≡ None) × (is_live x.so_far.live u ≡ true) × IsSome (nth_mark mark (marks_of x u))
    × (y ≡ stop stops.LogEnd x) × IsAtEnd tail
RollsBack tail before now u mark x (Err other) y = ⊥

-- a flush or a truncation
abbrev pub Flushes : (before now : ℕ) → Run → Result (Unit {0}) Refusal → Run → Type 0
Flushes before now x (Ok done) y = (x.stopped ≡ None) × (y ≡ x)
Flushes before now x (Err Stopped) y = IsSome x.stopped × (y ≡ x)
Flushes before now x (Err Disk) y = (x.stopped ≡ None) × IsBroken before now x y
Flushes before now x (Err other) y = ⊥

-- a checkpoint, which appends a record
abbrev pub Checkpoints : (tail before now : ℕ) → Run → Result (Unit {0}) Refusal → Run → Type 0
Checkpoints tail before now x (Ok done) y = (x.stopped ≡ None) × (y ≡ x)
Checkpoints tail before now x (Err Stopped) y = IsSome x.stopped × (y ≡ x)
Checkpoints tail before now x (Err Disk) y = (x.stopped ≡ None) × IsBroken before now x y
Checkpoints tail before now x (Err LogEnd) y = (x.stopped ≡ None) × (y ≡ stop stops.LogEnd x) × IsAtEnd tail
Checkpoints tail before now x (Err other) y = ⊥

-- no live transaction is in the way of an operation of this one, which is live, and it may hold what it touches
pub record IsGranted (t : Operations) (x : Run) (u : ℕ) (op : Op) : Type 0 where
  pub live : is_live x.so_far.live u ≡ true
  pub none : first_holder conflict u (touches (live_objects t x) op) x.so_far.held ≡ None
  pub few : nat_lt MOST_HELD (held_with t x u op) ≡ false

-- an operation that takes memory: it lists keys or names
abbrev pub IsListing : Op → Type 0
IsListing (On name Keys) = Unit {0}
IsListing (On name other) = ⊥
IsListing Names = Unit {0}

-- an operation, with the tail at its begin and at its return
abbrev pub Does : (t : Operations) → (begin tail before now : ℕ) → (u : ℕ) → Op → Run → Result Reply Refusal → Run → Type 0
Does t begin tail before now u op x (Ok reply) y = (x.stopped ≡ None) × IsGranted t x u op
    × ((step t (live_objects t x) op).0 ≡ Ok reply) × (is_changing op ≡ true → begin ≤ NEW_WORK_END)
    × (y ≡ did t x u op)
Does t begin tail before now u op x (Err Stopped) y = IsSome x.stopped × (y ≡ x)
Does t begin tail before now u op x (Err NoTransaction) y = (x.stopped ≡ None) × (is_live x.so_far.live u ≡ false) × (y ≡ x)
Does t begin tail before now u op x (Err (Busy holder)) y = (x.stopped ≡ None) × (is_live x.so_far.live u ≡ true)
    × (first_holder conflict u (touches (live_objects t x) op) x.so_far.held ≡ Some holder) × (y ≡ x)
Does t begin tail before now u op x (Err LocksFull) y = (x.stopped ≡ None) × (is_live x.so_far.live u ≡ true)
    × (first_holder conflict u (touches (live_objects t x) op) x.so_far.held ≡ None)
    × (nat_lt MOST_HELD (held_with t x u op) ≡ true) × (y ≡ x)
Does t begin tail before now u op x (Err (Because reason)) y = (x.stopped ≡ None) × IsGranted t x u op
    × ((step t (live_objects t x) op).0 ≡ Err reason) × (y ≡ did t x u op)
Does t begin tail before now u op x (Err (NoSpace free reserved need)) y = (x.stopped ≡ None) × IsGranted t x u op
    × IsOk (step t (live_objects t x) op).0 × (0 < need) × (free < reserved + need) × (y ≡ with_locks t x u op)
Does t begin tail before now u op x (Err (NoBands free need)) y = (x.stopped ≡ None) × IsGranted t x u op
    × IsOk (step t (live_objects t x) op).0 × (free < need) × (y ≡ with_locks t x u op)
Does t begin tail before now u op x (Err LogEnd) y = (x.stopped ≡ None) × IsGranted t x u op
    × IsOk (step t (live_objects t x) op).0 × IsTrue (is_changing op) × (NEW_WORK_END < tail) × (y ≡ with_locks t x u op)
Does t begin tail before now u op x (Err Memory) y = (x.stopped ≡ None) × IsGranted t x u op
    × IsOk (step t (live_objects t x) op).0 × IsListing op × (y ≡ with_locks t x u op)
Does t begin tail before now u op x (Err Disk) y = (x.stopped ≡ None) × (is_live x.so_far.live u ≡ true) × IsBroken before now x y
Does t begin tail before now u op x (Err other) y = ⊥

-- SOME CALLS lead from one run to another
pub data Leads (t : Operations) (x : Run) : Run → Type 0 where
  no_calls : Leads t x x
  begins : (y z : Run) (tail before now : ℕ) (name : List ℕ) (r : Result ℕ Refusal) → Leads t x y → Begins tail before now name y r z → Leads t x z
  does : (y z : Run) (begin tail before now u : ℕ) (op : Op) (r : Result Reply Refusal) → Leads t x y → Does t begin tail before now u op y r z → Leads t x z
  commits : (y z : Run) (tail before now u : ℕ) (r : Result (Unit {0}) Refusal) → Leads t x y → Commits tail before now u y r z → Leads t x z
  aborts : (y z : Run) (tail before now u : ℕ) (r : Result (Unit {0}) Refusal) → Leads t x y → Aborts tail before now u y r z → Leads t x z
  saves : (y z : Run) (tail before now u : ℕ) (r : Result ℕ MarkRefusal) → Leads t x y → Saves tail before now u y r z → Leads t x z
  rolls_back : (y z : Run) (tail before now u mark : ℕ) (r : Result (Unit {0}) MarkRefusal) → Leads t x y → RollsBack tail before now u mark y r z → Leads t x z
  flushes : (y z : Run) (before now : ℕ) (r : Result (Unit {0}) Refusal) → Leads t x y → Flushes before now y r z → Leads t x z
  checkpoints : (y z : Run) (tail before now : ℕ) (r : Result (Unit {0}) Refusal) → Leads t x y → Checkpoints tail before now y r z → Leads t x z

-- every run of calls is serial, from any objects and with any operations, unless the store has stopped
abbrev pub CallsAreSerial : Type 0
CallsAreSerial = (t : Operations) (first : Objects) (x : Run) → Leads t (start first) x → x.stopped ≡ None → IsSerial t x
