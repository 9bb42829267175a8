-- What a session shows of a run.
use Rattle.std.specs.Prelude.{◌≡◌, List, None}
use Rattle.sg_ops.specs.Table.{Table as Operations}
use Rattle.sg_serial.specs.Runs.{Live}
use Rattle.sg_run.specs.Run.{Run}
use Rattle.sg_store.specs.Ground.{Ground, IsLawful}
use Rattle.sg_store.specs.Engine.{View}
use Rattle.sg_store.specs.Store as stores
use Rattle.sg_session.specs.Names.{all_unmarked}

-- a session without its engine: its store without it, and the live transactions by their names, in order of begin
pub record Core : Type 0 where
  pub store : stores.Core
  pub names : List Live

-- A SESSION SHOWS A RUN: its store does, and unless that has stopped the session knows each live transaction by its name. Their marks the
-- store knows alone
pub record Shows (t : Operations) (g : Ground) (v : View g) (k : Core) (x : Run) : Type 0 where
  pub store : stores.Shows t g v k.store x
  pub names : x.stopped ≡ None → k.names ≡ all_unmarked x.so_far.live

-- it shows some run
pub record ShowsSome (k : Core) (t : Operations) (g : Ground) (v : View g) : Type 0 where
  pub lawful : IsLawful t g
  pub run : Run
  pub shows : Shows t g v k run
