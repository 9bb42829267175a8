-- Which actions of a log have no end, in the order of their begins, and which of them a formed log can't have.
use Rattle.std.specs.Prelude.{ℕ, Bool, true, false, not, ◌==◌, ◌||◌, if◌then◌else◌, List, [], ◌∷◌, ◌++◌, filter, slice_get, Option, Some, None}
use Rattle.sg_recovery.specs.Log.{tally, is_in}
use Rattle.sg_recovery.specs.Chains.{txn_of, is_border}
use Rattle.sg_analysis.specs.Sights.{Steps}
use Rattle.sg_analysis.specs.declared.unended.Begun.{Begun}

-- an action without an end: whose it is, and the number of its first record
pub record Start : Type 0 where
  pub transaction : ℕ
  pub lsn : ℕ

abbrev pub start : (transaction lsn : ℕ) → Start
start transaction lsn = record { transaction = transaction; lsn = lsn }

abbrev pub start_of : Begun → Start
start_of begun = start begun.txn.0 begun.lsn

abbrev pub has_start : ℕ → List Start → Bool
has_start transaction [] = false
has_start transaction (a ∷ more) = a.transaction == transaction || has_start transaction more

-- Those behind a record of this transaction with this number: where it ends actions, the transaction has none without an end,
-- and else it has one.
abbrev pub starts_behind : (transaction lsn : ℕ) → (ends : Bool) → List Start → List Start
starts_behind transaction lsn true starts = filter (λ a. not (a.transaction == transaction)) starts
starts_behind transaction lsn false starts = if has_start transaction starts then starts else starts ++ start transaction lsn ∷ []

-- those of a log, in the order of their begins
abbrev pub starts : Steps → List Start
starts [] = []
starts (r ∷ rs) = starts_behind (txn_of r.is) r.lsn (is_border r.is) (starts rs)

-- the system, or a transaction that goes on
abbrev pub may_act : (live : List ℕ) → ℕ → Bool
may_act live transaction = transaction == 0 || is_in transaction live

-- the first of these that a formed log can't have: one of a transaction that doesn't go on, or the second
abbrev pub stray_among : (live : List ℕ) → List Start → Option Start
stray_among live [] = None
stray_among live (a ∷ more) = if may_act live a.transaction then slice_get more 0 else Some a

abbrev pub stray : Steps → Option Start
stray rs = stray_among (tally rs).live (starts rs)
