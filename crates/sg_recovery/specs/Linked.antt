-- The changes of an action without an end, each linked to the one before it by its own record, so that a take-off that keeps
-- nothing but where it is finds them.
use Rattle.std.specs.Prelude.{◌≡◌, ℕ, ◌<◌, ◌==◌, if◌then◌else◌, List, [], ◌∷◌, Option, Some, None}
use Rattle.sg_recovery.specs.Log.{Record, Numbered, Open}
use Rattle.sg_recovery.specs.Log.Record.{Change}
use Rattle.sg_recovery.specs.Chains.{next_lsn, next_off}
use Rattle.sg_recovery.specs.TakeOff.{IsBefore}

-- the record with this number
abbrev pub record_at : {C N : Type 0} → List (Numbered C N) → ℕ → Option (Record C N)
record_at [] at = None
record_at (r ∷ rs) at = if r.lsn == at then Some r.is else record_at rs at

-- each open change stands in the log, and names the one before it, and the first one the record before the action
abbrev pub AreLinked : {C N : Type 0} → List (Numbered C N) → (before : ℕ) → List (Open C) → Type 0
AreLinked rs before [] = Unit {0}
AreLinked rs before (d ∷ ds) = (record_at rs d.lsn ≡ Some (Change d.transaction (next_off before ds) d.change)) × (next_off before ds < d.lsn) × (d.lsn < next_lsn rs) × AreLinked rs before ds

-- the changes are linked, down to a record before the system's action
pub record LinkedSystem {C N : Type 0} (base : ℕ) (rs : List (Numbered C N)) (ds : List (Open C)) : Type 0 where
  pub before : ℕ
  pub is_before : IsBefore base before
  pub linked : AreLinked rs before ds
