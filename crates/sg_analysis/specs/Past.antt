-- What is kept of a transaction that doesn't go on.
use Rattle.std.specs.Prelude.{ℕ, Bool, ◌==◌, nat_lt, if◌then◌else◌, List, Option, Some, None}
use Rattle.std.specs.List.{find}
use Rattle.sg_recovery.specs.Log.Record.{Begin, Change, TopEnd, PhysComp, TopVoid, CompEnd, Save, Commit, End}
use Rattle.sg_recovery.specs.Chains.{last_of}
use Rattle.sg_analysis.specs.Sights.{Step, Steps, Sight}
use Rattle.sg_analysis.specs.Sights.Sight.{Stepped, Estimated}
use Rattle.sg_recovery.specs.Ending.{newest}
use Rattle.sg_analysis.specs.declared.past.Over.{Over}
use Rattle.sg_analysis.specs.declared.past.Stage.{Stage}
use Rattle.sg_analysis.specs.declared.past.Stage.TheVariants.{Older, Committed, Ended}

-- what a transaction whose last record this is has come to, if it doesn't go on
abbrev pub stage_of : Step → Stage
stage_of (Begin transaction previous) = Older
stage_of (Change transaction previous change) = Older
stage_of (TopEnd transaction previous undo_next note) = Older
stage_of (PhysComp transaction previous undo_next change) = Older
stage_of (TopVoid transaction previous undo_next) = Older
stage_of (CompEnd transaction previous undo_next) = Older
stage_of (Save transaction previous mark) = Older
stage_of (Commit transaction previous) = Committed
stage_of (End transaction previous) = Ended

abbrev pub stage_by : Sight → Stage
stage_by (Stepped x) = stage_of x
stage_by (Estimated estimate) = Older

abbrev pub over_with : (transaction last : ℕ) → Stage → Over
over_with transaction last stage = record { txn = record { 0 = transaction }; last = last; stage = stage }

-- An end is kept only of a transaction that had begun before the log: that another one has no more is told by its number alone.
abbrev pub past_by : (base transaction last : ℕ) → Stage → Option Over
past_by base transaction last Older = Some (over_with transaction last Older)
past_by base transaction last Committed = Some (over_with transaction last Committed)
past_by base transaction last Ended = if nat_lt transaction base then Some (over_with transaction last Ended) else None

abbrev pub past_in : (base transaction last : ℕ) → Option Step → Option Over
past_in base transaction last None = None
past_in base transaction last (Some x) = past_by base transaction last (stage_of x)

-- what is kept of a transaction that doesn't go on, by the last record that the log has of it
abbrev pub past_of : (base : ℕ) → Steps → ℕ → Option Over
past_of base rs transaction = past_in base transaction (last_of transaction rs) (newest transaction rs)

-- what is kept behind a record of a transaction that comes to this
abbrev pub past_behind : (base transaction last : ℕ) → (lives : Bool) → Stage → Option Over → Option Over
past_behind base transaction last lives Older kept = if lives then kept else past_by base transaction last Older
past_behind base transaction last lives Committed kept = past_by base transaction last Committed
past_behind base transaction last lives Ended kept = past_by base transaction last Ended

-- what these keep of a transaction
abbrev pub over_of : ℕ → List Over → Option Over
over_of transaction overs = find (λ over. over.txn.0 == transaction) overs
