-- WHAT IS ASKED OF A SPACE WHOSE FOUND ACTION IS TAKEN OFF.
use Rattle.std.specs.Prelude.{◌≡◌, ◌≢◌, ℕ, ◌≤◌, true, List, Some, None, map}
use Rattle.sg_ops.specs.Table.{Table}
use Rattle.sg_recovery.specs.Chains.{last_of, next_lsn}
use Rattle.sg_recovery.specs.Formed.{IsLog, IsUnfinished}
use Rattle.sg_recovery.specs.Log.{tally, is_in, changes_of}
use Rattle.sg_action.specs.States.{State, all_off}
use Rattle.sg_actions.specs.Changes.{meaning}
use Rattle.sg_actions.specs.Engine.{EngineSeen, EngineView, now_of}
use Rattle.sg_actions.specs.Rows.{last_in, AreApart}
use Rattle.sg_actions.specs.declared.rows.Actor.{Actor}
use Rattle.sg_actions.specs.declared.rows.Row.{Row}

-- the log is formed, who acts is whose action has no end, and the rows are those of the transactions that go on
pub record CanGoOn (e : EngineSeen) (first : ℕ) (table : List Row) (actor : Actor) : Type 0 where
  pub formed : IsLog e.base e.steps
  pub based : e.base ≤ e.tail
  pub below : next_lsn e.steps ≤ e.tail
  pub start : e.base ≡ first
  pub unfinished : IsUnfinished e.steps actor.txn.0
  pub last : actor.last ≡ last_of actor.txn.0 e.steps
  pub rows : (u : ℕ) → is_in u (tally e.steps).live ≡ true → last_in table u ≡ Some (last_of u e.steps)
  pub low : (u : ℕ) → e.tail ≤ u → last_in table u ≡ None
  -- none of them has two rows, and no other has one
  pub apart : AreApart table
  pub known : (u last : ℕ) → u ≢ 0 → last_in table u ≡ Some last → is_in u (tally e.steps).live ≡ true

-- the inverses of the changes that are open all fit, the last first
pub record LeadsOff (t : Table) (e : EngineView) : Type 0 where
  pub end : State
  pub off : all_off t (map meaning (changes_of (tally e.steps).opened)) (now_of t e) ≡ Some end
