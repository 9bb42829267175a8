-- WHAT A WALK OVER AN ENGINE'S PAGES LEAVES, whether it ended well or not.
use Rattle.std.specs.Prelude.{◌≡◌, ◌⊎◌, ℕ, ◌+◌, ◌≤◌, true, false, Result, Ok, Err, OnOk, IfErr}
use Rattle.sg_base.specs.Ends.{HasRisen}
use Rattle.sg_disk.specs.Accounts.{Accounts}
use Rattle.sg_ops.specs.Table.{Table}
use Rattle.sg_space.specs.declared.space.SpaceFault.TheVariants.{Disk, LogEnd}
use Rattle.sg_reach.specs.declared.fault.ReachFault.{ReachFault}
use Rattle.sg_reach.specs.declared.fault.ReachFault.TheVariants.{Space, Broken}
use Rattle.sg_action.specs.States.{State}
use Rattle.sg_actions.specs.Engine.{EngineSeen}
use Rattle.sg_actions.specs.Images.{Recovering}
use Rattle.sg_unread.specs.Unread.{LooksOn}

-- the engine was only looked at; it tells still where the walk ended well; each fault is counted, and accounted for by the disk's own count; and no
-- break is counted where the engine tells behind it
pub record HasWalked {T : Type 0} (recovers : Table → Recovering) (a b : EngineSeen) (breaks breaks' : ℕ) (m m' : Table → State → Type 0) (result : Result T ReachFault) : Type 0 where
  pub looks : (t : Table) → LooksOn recovers t a b m m'
  pub tells : OnOk result (a.Told → b.Told)
  pub later : a.faults + breaks ≤ b.faults + breaks'
  pub quiet : OnOk result (b.faults + breaks' ≡ a.faults + breaks)
  pub disk : IfErr result (λ e. e ≡ Space Disk → HasRisen (a.faults + breaks) (b.faults + breaks'))
  pub accounts : Accounts (λ e. e ≡ Space Disk) a.Told a.disk b.disk a.gate b.gate result
  pub unbroken : b.Told → breaks ≡ 0 → breaks' ≡ 0
  pub no_end : IfErr result (λ e. e ≡ Space LogEnd → ⊥)

-- the space failed
abbrev pub IsSpace : ReachFault → Type 0
IsSpace (Space fault) = Unit {0}
IsSpace (Broken p) = ⊥

-- what a walk found over an engine that hasn't failed: where it failed all the same, what it read is no objects
abbrev pub found_by : Result (Unit {0}) ReachFault → Result (Unit {0}) ReachFault
found_by (Ok x) = Ok x
found_by (Err (Space fault)) = Err (Broken (record { 0 = 0 }))
found_by (Err (Broken p)) = Err (Broken p)

-- HOW IT ENDS: by the disk, with a break, where the engine has failed, and else by what it found
abbrev pub Ends : EngineSeen → (found : Result (Unit {0}) ReachFault) → (breaks : ℕ) → (result : Result (Unit {0}) ReachFault) → Type 0
Ends e found breaks result = ((e.failed ≡ true) × (breaks ≡ 1) × (result ≡ Err (Space Disk))) ⊎ ((e.failed ≡ false) × (breaks ≡ 0) × (result ≡ found_by found))
