-- A store that runs again.
use Rattle.std.specs.Prelude.{ℕ, List, [], length}
use Rattle.sg_disk.specs.Disk.{View}
use Rattle.sg_log.specs.Frames.{Numbered}
use Rattle.sg_log.specs.Held.{Tail}
use Rattle.sg_pool.specs.declared.pool.Pool.{Pool}
use Rattle.sg_engine.specs.History.{Homes}
use Rattle.sg_engine.specs.Engine.{Origin}
use Rattle.sg_engine.specs.Running.{IsEngine, IsAllowed}
use Rattle.sg_find.specs.Synced.{redo_point}
use Rattle.sg_places.specs.Placed.{places_in}
use Rattle.sg_reopen.specs.Again.{at_home, MakesSame, ArePoints}

-- THE NEXT LIFE RUNS, with these durable records over this home area, of which they make what they make of the first one of all, and with
-- the points of its log allowed
pub record RunsAgain (o : Origin) (f : Homes) (rs : List Numbered) (v : View) (log : Tail) (pool : Pool) : Type 0 where
  pub engine : IsEngine (at_home o f) v log rs [] pool
  pub same : MakesSame o rs f
  pub points : ArePoints (at_home o f) (IsAllowed (at_home o f) v log pool) rs rs

-- how many of these records are repeated: those from the redo point on that make a change
abbrev pub repeated_count : Origin → List Numbered → ℕ
repeated_count o ns = length (places_in o.super.pages o.super.base (redo_point o.super.base ns) ns)
