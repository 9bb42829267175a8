-- Pages, bands and the steps of a log have decidable parts, so an equation of them has one proof at most.
use Rattle.std.proofs.Common.{ℕ, List, Option}
use Rattle.std.proofs.Props.{props}
use mathlib.Core.List.{is_set as List-set}
use Rattle.sg_base.specs.declared.numbers.TxnId.{TxnId}
use Rattle.sg_record.specs.Changes.{Change}
use Rattle.sg_recovery.specs.Log as recovery
use Rattle.sg_base.specs.Sheet.{Sheet}
use Rattle.sg_action.specs.States.{State}
use Rattle.sg_actions.specs.Steps.{Step, Steps}

pub number_set : IsSet (Option ℕ)
number_set = hlevel props

pub who_set : IsSet TxnId
who_set = hlevel props

pub bytes_set : IsSet (List ℕ)
bytes_set = hlevel props

pub change_set : IsSet Change
change_set = hlevel (props, bytes_set)

pub step_set : IsSet Step
step_set = hlevel (props, bytes_set, change_set)

numbered_set : IsSet (recovery.Numbered Change (List ℕ))
numbered_set = hlevel (props, step_set)

pub steps_set : IsSet Steps
steps_set = List-set numbered_set

sheet_set : IsSet Sheet
sheet_set = hlevel (props, bytes_set, slots_set)
  where
    slots_set : IsSet (List (Option (List ℕ)))
    slots_set = List-set (hlevel (props, bytes_set))

pub leaf_set : IsSet (Option Sheet)
leaf_set = hlevel (props, sheet_set)

pub state_set : IsSet State
state_set = hlevel (props, bytes_set, leaf_set)
