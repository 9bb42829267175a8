-- What asking for locks is answered, and what is held then.
use Rattle.std.specs.Prelude.{ℕ, nat_lt, if◌then◌else◌, List, length, Option, Some, None}
use Rattle.sg_serial.specs.Locks.{Touch, Hold, hold_all, first_holder}
use Rattle.sg_model.specs.Touches.{Resource, same_resource, conflict}
use Rattle.sg_locks.specs.declared.table.LockAnswer.{LockAnswer}
use Rattle.sg_locks.specs.declared.table.LockAnswer.TheVariants.{Granted, Busy, LocksFull}

abbrev pub granted_or_full : ℕ → LockAnswer
granted_or_full count = if nat_lt 4096 count then LocksFull else Granted

-- the answer, by who is in the way and how many pairs there would be
abbrev pub answer_by : Option ℕ → ℕ → LockAnswer
answer_by (Some holder) count = Busy (record { 0 = holder })
answer_by None count = granted_or_full count

-- the least other transaction that holds a touch in conflict; or that there would be too many pairs; or all is granted
abbrev pub lock_answer : ℕ → List (Touch Resource) → List (Hold Resource) → LockAnswer
lock_answer t wanted hs = answer_by (first_holder conflict t wanted hs) (length (hold_all same_resource t wanted hs))

abbrev pub held_after : LockAnswer → ℕ → List (Touch Resource) → List (Hold Resource) → List (Hold Resource)
held_after Granted t wanted hs = hold_all same_resource t wanted hs
held_after (Busy holder) t wanted hs = hs
held_after LocksFull t wanted hs = hs

-- what is held after a transaction has asked for these: with all of them, where that is granted, and else what was held
abbrev pub locks_after : ℕ → List (Touch Resource) → List (Hold Resource) → List (Hold Resource)
locks_after t wanted hs = held_after (lock_answer t wanted hs) t wanted hs
