use Rattle.std.proofs.Common.{◌≡◌, ◌==◌, length, find}
use Rattle.sg_ops.specs.Table.{record_of}
use Rattle.sg_ops.proofs.entries.find_record.Given as goal

-- what is found in the rest is what is found in all
abbrev pub invariant-loop-entry : goal.invariant-loop-entry
invariant-loop-entry g l =
    find (λ entry. (record_of (λ b. (goal.RecordOp-dyn g (b.vtable, b.value)).record_meaning b.value) entry).code == l.code) l.rest
    ≡ find (λ entry. (record_of (λ b. (goal.RecordOp-dyn g (b.vtable, b.value)).record_meaning b.value) entry).code == l.code) l.records

abbrev pub decreases-loop-entry : goal.decreases-loop-entry
decreases-loop-entry g l = length l.rest
