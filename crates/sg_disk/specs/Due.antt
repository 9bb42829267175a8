-- Which later call fails.
use Rattle.std.specs.Prelude.{ℕ, zero, suc, ◌-◌, Option, Some, None, Bool, false, nat_le, if◌then◌else◌}
use Rattle.sg_disk.specs.declared.due.Due.{Due}
use Rattle.sg_disk.specs.declared.record.CallKind.{CallKind}
use Rattle.sg_disk.specs.declared.record.CallKind.TheVariants.{Read, Write, Drop, Sync}

-- the number of this kind
abbrev pub left_of : Due → CallKind → Option ℕ
left_of d Read = d.read
left_of d Write = d.write
left_of d Drop = d.cut
left_of d Sync = d.sync

-- another number of this kind
abbrev pub with_left : Due → CallKind → Option ℕ → Due
with_left d Read n = record d { read = n }
with_left d Write n = record d { write = n }
with_left d Drop n = record d { cut = n }
with_left d Sync n = record d { sync = n }

-- the nth later call, and none where n is 0
abbrev pub due_in : ℕ → Option ℕ
due_in zero = None
due_in (suc n) = Some (suc n)

-- whether the next call is the one
abbrev pub is_last : Option ℕ → Bool
is_last None = false
is_last (Some n) = nat_le n 1

-- one call further
abbrev pub one_less : Option ℕ → Option ℕ
one_less None = None
one_less (Some n) = if nat_le n 1 then None else Some (n - 1)
