-- Steps of a log have decidable parts, so an equation of them has one proof at most.
use Rattle.std.proofs.Common.{ℕ, List, Option}
use Rattle.std.proofs.Props.{props}
use mathlib.Core.List.{is_set as List-set}
use Rattle.sg_record.specs.Changes.{Change}
use Rattle.sg_recovery.specs.Log as recovery
use Rattle.sg_base.specs.Sheet.{Sheet}
use Rattle.sg_disk.specs.Disk as disk
use Rattle.sg_disk.specs.Disk.{Range}
use Rattle.sg_action.specs.States.{State}
use Rattle.sg_actions.specs.Steps.{Step, Steps}

pub bytes_set : IsSet (List ℕ)
bytes_set = hlevel props

change_set : IsSet Change
change_set = hlevel (props, bytes_set)

step_set : IsSet Step
step_set = hlevel (props, bytes_set, change_set)

numbered_set : IsSet (recovery.Numbered Change (List ℕ))
numbered_set = hlevel (props, step_set)

pub steps_set : IsSet Steps
steps_set = List-set numbered_set

changes_set : IsSet (List Change)
changes_set = List-set change_set

opens_set : IsSet (List (recovery.Open Change))
opens_set = List-set (hlevel (props, change_set))

notes_set : IsSet (List (recovery.Top Change (List ℕ)))
notes_set = List-set (hlevel (props, bytes_set, changes_set))

pub tally_set : IsSet (recovery.Tally Change (List ℕ))
tally_set = hlevel (props, bytes_set, opens_set, notes_set)

pub step_option_set : IsSet (Option Step)
step_option_set = hlevel (props, step_set)

sheet_set : IsSet Sheet
sheet_set = hlevel (props, bytes_set, slots_set)
  where
    slots_set : IsSet (List (Option (List ℕ)))
    slots_set = List-set (hlevel (props, bytes_set))

pub leaf_set : IsSet (Option Sheet)
leaf_set = hlevel (props, sheet_set)

pub state_set : IsSet State
state_set = hlevel (props, bytes_set, leaf_set)

-- a code, or none
pub code_set : IsSet (Option ℕ)
code_set = hlevel props

ranges_set : IsSet (List Range)
ranges_set = List-set (hlevel props)

disk_set : IsSet disk.State
disk_set = hlevel (props, ranges_set)

pub disks_set : IsSet (List disk.State)
disks_set = List-set disk_set
