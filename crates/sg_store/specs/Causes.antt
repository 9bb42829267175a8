-- WHY A CALL OF A STORE WAS ANSWERED SO, on any engine, whether or not it tells. By the answer: what held at the call's begin, and
-- what has become of the store beside its engine. The conditions of one call's answers exclude each other, but for those of a fault.
use Rattle.std.specs.Prelude.{◌≡◌, ℕ, ◌+◌, ◌<◌, ◌≤◌, ◌++◌, Bool, true, false, IsTrue, IsSome, [], ◌∷◌, length, map, sum_by, Some, None, Result, Ok, Err}
use Rattle.sg_base.specs.declared.numbers.TxnId.{TxnId}
use Rattle.sg_base.specs.Ends.{HasRisen}
use Rattle.sg_serial.specs.Locks.{released}
use Rattle.sg_model.specs.declared.stop.Stop.TheVariants as stops
use Rattle.sg_serial.specs.Runs.{nth_mark}
use Rattle.sg_core.specs.Live.{begun, is_live, without, marks_of, remarking}
use Rattle.sg_run.specs.Run.{MOST_LIVE, MOST_MARKS}
use Rattle.sg_run.specs.Numbers.{NEW_WORK_END, IsAtEnd}
use Rattle.sg_store.specs.declared.fault.MarkRefused.{MarkRefused}
use Rattle.sg_store.specs.declared.fault.MarkRefused.TheVariants as marks
use Rattle.sg_store.specs.declared.fault.Refused.{Refused}
use Rattle.sg_store.specs.declared.fault.Refused.TheVariants as refusals
use Rattle.sg_store.specs.declared.fault.Needed.{Needed}
use Rattle.sg_store.specs.Engine.{Sizes, Shown}
use Rattle.sg_store.specs.Ground.{Ground}
use Rattle.sg_store.specs.Store.{Core}

-- refusals for which the engine is asked nothing
abbrev pub AsksNothing : Refused → Type 0
AsksNothing refusals.Stopped = Unit {0}
AsksNothing refusals.NoTxn = Unit {0}
AsksNothing refusals.TooManyLive = Unit {0}
AsksNothing other = ⊥

-- of a call on the marks of a transaction
abbrev pub AsksNoMark : MarkRefused → Type 0
AsksNoMark marks.NoMark = Unit {0}
AsksNoMark marks.MarksFull = Unit {0}
AsksNoMark (marks.Store why) = AsksNothing why

-- the call was refused for a fault of the disk, whose count rose, and the store has stopped
abbrev pub BreaksFor : {basis : Sizes → Ground} → (old new : Shown basis) → (k m : Core) → Type 0
BreaksFor old new k m = HasRisen old.faults new.faults × (m ≡ record k { held = m.held; stopped = Some stops.Disk })

-- a begin
abbrev pub BeginsFor : {basis : Sizes → Ground} → (old new : Shown basis) → (k m : Core) → Result TxnId Refused → Type 0
BeginsFor old new k m (Ok u) = (k.stopped ≡ None) × (length k.live < MOST_LIVE) × (old.tail ≤ NEW_WORK_END) × (m ≡ record k { live = k.live ++ begun u.0 ∷ [] })
BeginsFor old new k m (Err refusals.Stopped) = IsSome k.stopped × (m ≡ k)
BeginsFor old new k m (Err refusals.TooManyLive) = (k.stopped ≡ None) × (MOST_LIVE ≤ length k.live) × (m ≡ k)
BeginsFor old new k m (Err refusals.LogEnd) = (k.stopped ≡ None) × (length k.live < MOST_LIVE) × (NEW_WORK_END < old.tail) × (m ≡ k)
BeginsFor old new k m (Err refusals.DiskFault) = (k.stopped ≡ None) × (length k.live < MOST_LIVE) × (old.tail ≤ NEW_WORK_END) × BreaksFor old new k m
BeginsFor old new k m (Err other) = ⊥

-- a commit or an abort
abbrev pub EndsFor : {basis : Sizes → Ground} → (u : ℕ) → (old new : Shown basis) → (k m : Core) → Result (Unit {0}) Refused → Type 0
EndsFor u old new k m (Ok done) = (k.stopped ≡ None) × (is_live k.live u ≡ true) × (m ≡ record k { live = without u k.live; held = released u k.held })
EndsFor u old new k m (Err refusals.Stopped) = IsSome k.stopped × (m ≡ k)
EndsFor u old new k m (Err refusals.NoTxn) = (k.stopped ≡ None) × (is_live k.live u ≡ false) × (m ≡ k)
EndsFor u old new k m (Err refusals.DiskFault) = (k.stopped ≡ None) × (is_live k.live u ≡ true) × BreaksFor old new k m
EndsFor u old new k m (Err refusals.LogEnd) = (k.stopped ≡ None) × (is_live k.live u ≡ true) × IsAtEnd new.tail × (m ≡ record k { stopped = Some stops.LogEnd })
EndsFor u old new k m (Err other) = ⊥

-- a mark
abbrev pub SavesFor : {basis : Sizes → Ground} → (u : ℕ) → (old new : Shown basis) → (k m : Core) → Result ℕ MarkRefused → Type 0
SavesFor u old new k m (Ok n) = (k.stopped ≡ None) × (is_live k.live u ≡ true) × (length (marks_of k.live u) < MOST_MARKS) × (old.tail ≤ NEW_WORK_END)
    × (n ≡ length (marks_of k.live u) + 1) × ((number : ℕ) × (m ≡ record k { live = remarking u (λ ms. ms ++ number ∷ []) k.live }))
SavesFor u old new k m (Err (marks.Store refusals.Stopped)) = IsSome k.stopped × (m ≡ k)
SavesFor u old new k m (Err (marks.Store refusals.NoTxn)) = (k.stopped ≡ None) × (is_live k.live u ≡ false) × (m ≡ k)
SavesFor u old new k m (Err marks.MarksFull) = (k.stopped ≡ None) × (is_live k.live u ≡ true) × (MOST_MARKS ≤ length (marks_of k.live u)) × (m ≡ k)
SavesFor u old new k m (Err (marks.Store refusals.LogEnd)) = (k.stopped ≡ None) × (is_live k.live u ≡ true) × (length (marks_of k.live u) < MOST_MARKS) × (NEW_WORK_END < old.tail) × (m ≡ k)
SavesFor u old new k m (Err (marks.Store refusals.DiskFault)) = (k.stopped ≡ None) × (is_live k.live u ≡ true) × (length (marks_of k.live u) < MOST_MARKS) × (old.tail ≤ NEW_WORK_END) × BreaksFor old new k m
SavesFor u old new k m (Err other) = ⊥

-- a going back to a mark: at Ok the transaction has that mark, and of all that the store counts only what its live transactions have changes
abbrev pub RollsFor : {basis : Sizes → Ground} → (u mark : ℕ) → (old new : Shown basis) → (k m : Core) → Result (Unit {0}) MarkRefused → Type 0
RollsFor u mark old new k m (Ok done) = (k.stopped ≡ None) × (is_live k.live u ≡ true) × IsSome (nth_mark mark (marks_of k.live u)) × (m ≡ record k { live = m.live })
RollsFor u mark old new k m (Err (marks.Store refusals.Stopped)) = IsSome k.stopped × (m ≡ k)
RollsFor u mark old new k m (Err (marks.Store refusals.NoTxn)) = (k.stopped ≡ None) × (is_live k.live u ≡ false) × (m ≡ k)
RollsFor u mark old new k m (Err marks.NoMark) = (k.stopped ≡ None) × (is_live k.live u ≡ true) × (nth_mark mark (marks_of k.live u) ≡ None) × (m ≡ k)
RollsFor u mark old new k m (Err (marks.Store refusals.DiskFault)) = (k.stopped ≡ None) × (is_live k.live u ≡ true) × IsSome (nth_mark mark (marks_of k.live u))
    × HasRisen old.faults new.faults × (m ≡ record k { live = m.live; stopped = Some stops.Disk })
RollsFor u mark old new k m (Err (marks.Store refusals.LogEnd)) = (k.stopped ≡ None) × (is_live k.live u ≡ true) × IsSome (nth_mark mark (marks_of k.live u))
    × IsAtEnd new.tail × (m ≡ record k { live = m.live; stopped = Some stops.LogEnd })
RollsFor u mark old new k m (Err other) = ⊥

-- a flush or a truncation
abbrev pub FlushesFor : {basis : Sizes → Ground} → (old new : Shown basis) → (k m : Core) → Result (Unit {0}) Refused → Type 0
FlushesFor old new k m (Ok done) = (k.stopped ≡ None) × (m ≡ k)
FlushesFor old new k m (Err refusals.Stopped) = IsSome k.stopped × (m ≡ k)
FlushesFor old new k m (Err refusals.DiskFault) = (k.stopped ≡ None) × BreaksFor old new k m
FlushesFor old new k m (Err other) = ⊥

-- a checkpoint, which appends a record
abbrev pub ChecksFor : {basis : Sizes → Ground} → (old new : Shown basis) → (k m : Core) → Result (Unit {0}) Refused → Type 0
ChecksFor old new k m (Ok done) = (k.stopped ≡ None) × (m ≡ k)
ChecksFor old new k m (Err refusals.Stopped) = IsSome k.stopped × (m ≡ k)
ChecksFor old new k m (Err refusals.DiskFault) = (k.stopped ≡ None) × BreaksFor old new k m
ChecksFor old new k m (Err refusals.LogEnd) = (k.stopped ≡ None) × IsAtEnd old.tail × (m ≡ record k { stopped = Some stops.LogEnd })
ChecksFor old new k m (Err other) = ⊥

-- a close, which appends a record and flushes
abbrev pub ClosesFor : {basis : Sizes → Ground} → (old new : Shown basis) → (k m : Core) → Result (Unit {0}) Refused → Type 0
ClosesFor old new k m (Ok done) = (k.stopped ≡ None) × (m ≡ k)
ClosesFor old new k m (Err refusals.Stopped) = IsSome k.stopped × (m ≡ k)
ClosesFor old new k m (Err refusals.DiskFault) = (k.stopped ≡ None) × BreaksFor old new k m
ClosesFor old new k m (Err refusals.LogEnd) = (k.stopped ≡ None) × IsAtEnd new.tail × (m ≡ record k { stopped = Some stops.LogEnd })
ClosesFor old new k m (Err other) = ⊥

-- another transaction, which is live
abbrev pub IsOther : (u holder : ℕ) → Core → Type 0
IsOther u holder k = (is_live k.live holder ≡ true) × (holder ≡ u → ⊥)

-- only what is held may be more
abbrev pub OnlyHolds : (k m : Core) → Type 0
OnlyHolds k m = m ≡ record k { held = m.held }

-- a live transaction asked for what is touched
abbrev pub HoldsFor : {basis : Sizes → Ground} → (u : ℕ) → (old new : Shown basis) → (k m : Core) → Result (Unit {0}) Refused → Type 0
HoldsFor u old new k m (Ok done) = OnlyHolds k m
HoldsFor u old new k m (Err (refusals.Busy holder)) = IsOther u holder.0 k × (m ≡ k)
HoldsFor u old new k m (Err refusals.LocksFull) = m ≡ k
HoldsFor u old new k m (Err refusals.DiskFault) = BreaksFor old new k m
HoldsFor u old new k m (Err other) = ⊥

-- more pages, or bands, are needed than are free: with the numbers
abbrev pub LacksPages : {basis : Sizes → Ground} → Shown basis → Core → (free reserved need : ℕ) → Type 0
LacksPages e k free reserved need = (0 < need) × (free < reserved + need) × (free ≡ e.free_pages) × (reserved ≡ sum_by (λ x. x.reserved) k.live)

abbrev pub LacksBands : {basis : Sizes → Ground} → Shown basis → (free need : ℕ) → Type 0
LacksBands e free need = (free < need) × (free ≡ e.free_bands)

-- the room for an operation, which may change something or not, was looked for
abbrev pub RoomsFor : {basis : Sizes → Ground} → (changes : Bool) → (old new : Shown basis) → (k m : Core) → Result Needed Refused → Type 0
RoomsFor changes old new k m (Ok needs) = m ≡ k
RoomsFor changes old new k m (Err (refusals.Model reason)) = m ≡ k
RoomsFor changes old new k m (Err (refusals.NoSpace free reserved need)) = LacksPages new k free reserved need × (m ≡ k)
RoomsFor changes old new k m (Err (refusals.NoBands free need)) = LacksBands new free need × (m ≡ k)
RoomsFor changes old new k m (Err refusals.LogEnd) = IsTrue changes × (NEW_WORK_END < old.tail) × (m ≡ k)
RoomsFor changes old new k m (Err refusals.DiskFault) = BreaksFor old new k m
RoomsFor changes old new k m (Err other) = ⊥

-- an operation for which there is room was done: pages may be reserved
abbrev pub FailsFor : {basis : Sizes → Ground} → (old new : Shown basis) → (k m : Core) → Refused → Type 0
FailsFor old new k m (refusals.Model reason) = m ≡ k
FailsFor old new k m refusals.DiskFault = BreaksFor old new k m
FailsFor old new k m other = ⊥

abbrev pub ActsFor : {A : Type 0} {basis : Sizes → Ground} → (old new : Shown basis) → (k m : Core) → Result A Refused → Type 0
ActsFor old new k m (Ok reply) = (m ≡ record k { live = m.live }) × (map (λ x. x.transaction) m.live ≡ map (λ x. x.transaction) k.live)
ActsFor old new k m (Err why) = FailsFor old new k m why

-- WHY AN OPERATION WAS REFUSED, which may change something or not
abbrev pub RefusesFor : {basis : Sizes → Ground} → (changes : Bool) → (u : ℕ) → (old new : Shown basis) → (k m : Core) → Refused → Type 0
RefusesFor changes u old new k m refusals.Stopped = IsSome k.stopped × (m ≡ k)
RefusesFor changes u old new k m refusals.NoTxn = (k.stopped ≡ None) × (is_live k.live u ≡ false) × (m ≡ k)
RefusesFor changes u old new k m (refusals.Busy holder) = (k.stopped ≡ None) × (is_live k.live u ≡ true) × IsOther u holder.0 k × (m ≡ k)
RefusesFor changes u old new k m refusals.LocksFull = (k.stopped ≡ None) × (is_live k.live u ≡ true) × (m ≡ k)
RefusesFor changes u old new k m (refusals.Model reason) = (k.stopped ≡ None) × (is_live k.live u ≡ true) × OnlyHolds k m
RefusesFor changes u old new k m (refusals.NoSpace free reserved need) = (k.stopped ≡ None) × (is_live k.live u ≡ true) × LacksPages new k free reserved need × OnlyHolds k m
RefusesFor changes u old new k m (refusals.NoBands free need) = (k.stopped ≡ None) × (is_live k.live u ≡ true) × LacksBands new free need × OnlyHolds k m
RefusesFor changes u old new k m refusals.LogEnd = (k.stopped ≡ None) × (is_live k.live u ≡ true) × IsTrue changes × (NEW_WORK_END < old.tail) × OnlyHolds k m
RefusesFor changes u old new k m refusals.DiskFault = (k.stopped ≡ None) × (is_live k.live u ≡ true) × BreaksFor old new k m
RefusesFor changes u old new k m other = ⊥

-- why it was answered
abbrev pub DoesFor : {A : Type 0} {basis : Sizes → Ground} → (changes : Bool) → (u : ℕ) → (old new : Shown basis) → (k m : Core) → Result A Refused → Type 0
DoesFor changes u old new k m (Ok reply) = (k.stopped ≡ None) × (is_live k.live u ≡ true) × (changes ≡ true → old.tail ≤ NEW_WORK_END)
    × (m.stopped ≡ None) × (map (λ x. x.transaction) m.live ≡ map (λ x. x.transaction) k.live)
DoesFor changes u old new k m (Err why) = RefusesFor changes u old new k m why

-- of a list of keys or names
abbrev pub UnlistedFor : {basis : Sizes → Ground} → (u : ℕ) → (old new : Shown basis) → (k m : Core) → Refused → Type 0
UnlistedFor u old new k m refusals.Stopped = IsSome k.stopped × (m ≡ k)
UnlistedFor u old new k m refusals.NoTxn = (k.stopped ≡ None) × (is_live k.live u ≡ false) × (m ≡ k)
UnlistedFor u old new k m (refusals.Busy holder) = (k.stopped ≡ None) × (is_live k.live u ≡ true) × IsOther u holder.0 k × (m ≡ k)
UnlistedFor u old new k m refusals.LocksFull = (k.stopped ≡ None) × (is_live k.live u ≡ true) × (m ≡ k)
UnlistedFor u old new k m (refusals.Model reason) = (k.stopped ≡ None) × (is_live k.live u ≡ true) × OnlyHolds k m
UnlistedFor u old new k m refusals.Memory = (k.stopped ≡ None) × (is_live k.live u ≡ true) × OnlyHolds k m
UnlistedFor u old new k m refusals.DiskFault = (k.stopped ≡ None) × (is_live k.live u ≡ true) × BreaksFor old new k m
UnlistedFor u old new k m other = ⊥

abbrev pub ListsFor : {A : Type 0} {basis : Sizes → Ground} → (u : ℕ) → (old new : Shown basis) → (k m : Core) → Result A Refused → Type 0
ListsFor u old new k m (Ok words) = (k.stopped ≡ None) × (is_live k.live u ≡ true) × OnlyHolds k m
ListsFor u old new k m (Err why) = UnlistedFor u old new k m why
