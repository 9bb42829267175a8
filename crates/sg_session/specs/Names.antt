-- The names of live transactions.
use Rattle.std.specs.Prelude.{ℕ, ◌==◌, List, [], ◌∷◌, map, Option, Some, None, IsSome}
use Rattle.std.specs.List.{find}
use Rattle.sg_serial.specs.Runs.{Live}
use Rattle.sg_store.specs.declared.fault.MarkRefused.{MarkRefused}
use Rattle.sg_store.specs.declared.fault.MarkRefused.TheVariants as marks
use Rattle.sg_store.specs.declared.fault.Refused.{Refused}
use Rattle.sg_store.specs.declared.fault.Refused.TheVariants as refusals
use Rattle.sg_session.specs.declared.names.Named as code_named

-- a name and a number, as a run has them
abbrev pub live_of : code_named.Named → Live
live_of n = record { name = n.name; transaction = n.txn.0; marks = [] }

abbrev pub all_live : List code_named.Named → List Live
all_live ns = map live_of ns

-- a live transaction of a run by its name and its number alone: a session doesn't know its marks
abbrev pub unmarked : Live → Live
unmarked l = record l { marks = [] }

abbrev pub all_unmarked : List Live → List Live
all_unmarked ls = map unmarked ls

-- the live transaction with this number
abbrev pub live_numbered : List Live → ℕ → Option Live
live_numbered live u = find (λ l. l.transaction == u) live

-- the one that began first
abbrev pub first_live : List Live → Option Live
first_live [] = None
first_live (l ∷ ls) = Some l

-- where a transaction is in the way, its name is known
abbrev pub IsNamed : List Live → Refused → Type 0
IsNamed live (refusals.Busy holder) = IsSome (live_numbered live holder.0)
IsNamed live other = Unit {0}

-- the same of a call on marks
abbrev pub IsNamedAtMark : List Live → MarkRefused → Type 0
IsNamedAtMark live (marks.Store why) = IsNamed live why
IsNamedAtMark live other = Unit {0}
