-- The engine's state between calls, as the steps of its log have it.
use Rattle.std.specs.Prelude.{◌≡◌, List, ◌++◌}
use Rattle.sg_disk.specs.Disk.{View}
use Rattle.sg_log.specs.Frames.{Numbered}
use Rattle.sg_log.specs.Held.{Tail}
use Rattle.sg_ops.specs.Table.{Table}
use Rattle.sg_pool.specs.declared.pool.Pool.{Pool}
use Rattle.sg_action.specs.States.{State}
use Rattle.sg_engine.specs.Engine.{Origin}
use Rattle.sg_engine.specs.Running.{IsAllowed}
use Rattle.sg_actions.specs.Steps.{repeated}
use Rattle.sg_phys_laws.specs.Formed.{AreFormed}
use Rattle.sg_phys_laws.specs.Known.{AllEnough}
use Rattle.sg_phys_laws.specs.Logged.{IsPhys}
use Rattle.sg_phys_laws.specs.Points.{ArePoints}
use Rattle.sg_phys_laws.specs.Reading.{durable_in, waiting_in}
use Rattle.sg_phys_laws.specs.Recovers.{cut_at}
use Rattle.sg_phys_laws.specs.States.{state_of, steps_of, homes_of}

-- what it holds is what its log's bytes say, and its pages and bands say what the steps of that made
abbrev pub IsNow : Table → Origin → View → Tail → Pool → Type 0
IsNow t o v log pool = IsPhys t o v log (durable_in v log) (waiting_in log) pool

-- These records made of the home area that this life began with what their steps made of what the store first said. That is no function of the
-- home area: pages may have been written home before, and a record that is done isn't done again
abbrev pub AreSaid : Table → (from : State) → Origin → List Numbered → Type 0
AreSaid t from o ns = cut_at o.super (state_of (homes_of o ns)) ≡ repeated t from (steps_of ns)

-- AND THE POINTS of its log are allowed, what a crash leaves of it is a formed log, and enough operations are registered for an opening of that
pub record IsPoised (t : Table) (from : State) (o : Origin) (v : View) (log : Tail) (pool : Pool) : Type 0 where
  pub now : IsNow t o v log pool
  pub points : ArePoints o (IsAllowed o v log pool) (durable_in v log) (durable_in v log ++ waiting_in log)
  pub said : AreSaid t from o (durable_in v log)
  pub formed : AreFormed o.super.base (durable_in v log) (durable_in v log ++ waiting_in log)
  pub enough : AllEnough t o.super.base (durable_in v log) (durable_in v log ++ waiting_in log)
