-- The log and the open action with one change more.
use Rattle.std.proofs.Common.{ℕ, ◌<◌, ◌≤◌, List, ◌∷◌, Bool}
use Rattle.sg_ops.specs.Table.{Table}
use Rattle.sg_record.specs.Changes.{Change as Changing}
use Rattle.sg_recovery.specs.Log.Record.{Change}
use Rattle.sg_action.specs.States.{State}
use Rattle.sg_actions.specs.Acting.{IsWell}
use Rattle.sg_actions.specs.Changes.{meaning}
use Rattle.sg_actions.specs.Steps.{Steps, stepped, opened, begin_of}
use Rattle.sg_actions.specs.View.{IsActing}
use Rattle.sg_actions.specs.declared.rows.Actor.{Actor}
use Rattle.sg_actions.specs.declared.rows.Row.{Row}
use Rattle.sg_actions.proofs.Chained.{later, chain_change, chain_later}

-- A CHANGE that the open action may make, with a number from the tail on
pub acting_change : {t : Table} {limits : State → ℕ → ℕ} {base : ℕ} {first : State} {rs : Steps} {tail : ℕ} {pages bands pages' bands' : List Bool} {rows : List Row} {actor : Actor} (c : Changing) (lsn next : ℕ) → tail ≤ lsn → lsn < next
    → (IsWell t limits (begin_of t first rs) (opened rs) pages bands → IsWell t limits (begin_of t first rs) (meaning c ∷ opened rs) pages' bands')
    → IsActing t limits base first rs tail pages bands rows actor → IsActing t limits base first (stepped rs lsn (Change actor.txn.0 actor.last c)) next pages' bands' rows (later actor lsn)
acting_change {t} {limits} {base} {first} {rs} {tail} {pages} {bands} {pages'} {bands'} {rows} {actor} c lsn next above below on h = record {
  chain = chain_change base rs lsn next rows actor c below (chain_later h.chain above);
  well = on h.well;
}
