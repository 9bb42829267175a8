-- What holds of the open action, and of the log with it.
use Rattle.std.specs.Prelude.{◌≡◌, ℕ, ◌≤◌, Bool, true, List, []}
use Rattle.sg_ops.specs.Table.{Table}
use Rattle.sg_recovery.specs.Log.{tally}
use Rattle.sg_recovery.specs.Chains.{next_off}
use Rattle.sg_action.specs.States.{State, Change}
use Rattle.sg_action.specs.Opened.{IsOpened, OpenWell, IsBegun, AreFit}
use Rattle.sg_actions.specs.Engine.{EngineSeen}
use Rattle.sg_actions.specs.Rows.{at_rest}
use Rattle.sg_actions.specs.Steps.{Steps, ended}
use Rattle.sg_actions.specs.TakingOff.{IsRunning, AreRows}
use Rattle.sg_actions.specs.declared.rows.Actor.{Actor}
use Rattle.sg_actions.specs.declared.rows.Row.{Row}
use Rattle.sg_actions.specs.Taken.{is_set, takes_page, kept_of}

-- THE OPEN ACTION, by the pages and bands at its begin and its changes, the last one first: what it logged can be taken off
-- again, and what it took is taken
pub record IsWell (t : Table) (limits : State → ℕ → ℕ) (begin : State) (ds : List Change) (pages bands : List Bool) : Type 0 where
  pub begun : IsBegun (kept_of limits pages bands begin ds) begin
  pub fit : AreFit (kept_of limits pages bands begin ds) [] begin
  pub opens : IsOpened t (kept_of limits pages bands begin ds) begin ds
  pub well : OpenWell t (kept_of limits pages bands begin ds) begin ds
  pub used : (n : ℕ) → takes_page ds n ≡ true → is_set pages n ≡ true

-- THE CHAIN: the log is formed, nothing was open when the open action began, and the last record of who acts is its last open change, or the
-- record before the action
pub record IsChained (base : ℕ) (rs : Steps) (tail : ℕ) (rows : List Row) (actor : Actor) : Type 0 where
  pub running : IsRunning base rs tail actor
  pub rows_are : AreRows rs tail rows actor
  pub closed : (tally (ended rs)).opened ≡ []
  pub at : actor.last ≡ next_off actor.before (tally rs).opened

-- WHO ACTS MAY GO ON with a change: the log is formed, and the last record of who acts is its last open change, or the record before the action
pub record MayChange (base : ℕ) (rs : Steps) (tail : ℕ) (actor : Actor) : Type 0 where
  pub running : IsRunning base rs tail actor
  pub at : actor.last ≡ next_off actor.before (tally rs).opened

-- so it is where an engine tells and an action was begun
abbrev pub CanChange : EngineSeen → (begun : Bool) → Actor → Type 0
CanChange e begun actor = begun ≡ true → e.Told → ∥ MayChange e.base e.steps e.tail actor ∥₁

-- where an engine tells, its log and the rows are chained
abbrev pub HasChain : EngineSeen → List Row → Actor → Type 0
HasChain e rows actor = e.Told → ∥ IsChained e.base e.steps e.tail rows actor ∥₁

-- a log without records, and no row of a transaction
abbrev pub FreshIsChained : Type 0
FreshIsChained = (base tail : ℕ) → 1 ≤ tail → base ≤ tail → IsChained base [] tail [] at_rest
