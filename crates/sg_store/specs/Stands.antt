-- What an image stands for.
use Rattle.std.specs.Prelude.{◌≡◌, ℕ, ◌≤◌, length, Some}
use Rattle.sg_disk.specs.Disk.{Image}
use Rattle.sg_ops.specs.Table.{Table as Operations}
use Rattle.sg_model.specs.Objects.{Objects}
use Rattle.sg_recovery.specs.Log.{tally}
use Rattle.sg_recovery.specs.Stands.{stands_at, HasPages}
use Rattle.sg_recovery.specs.Claims.{Log}
use Rattle.sg_run.specs.Run.{Run, objects_after}
use Rattle.sg_store.specs.Ground.{Ground, setting}

-- An image stands for these objects: its log, and its pages with history repeated, read as them once the unfinished action is
-- taken off and the standing notes of all losers are undone, the last first; and as many pages are free then as notes want one
pub record StandsFor (t : Operations) (g : Ground) (c : Image) (m : Objects) : Type 0 where
  pub log : Log (setting t g)
  pub pages : g.X
  pub recovers : g.Recovers t c log pages
  pub reading : g.O
  pub stands : stands_at (setting t g) (tally log) pages ≡ Some reading
  pub objects : g.objects reading ≡ m
  pub free : HasPages (setting t g) (tally log) pages

-- an image stands for the objects after the first transactions of a run in order of commit, so many or more
pub record StandsForFirst (t : Operations) (g : Ground) (least : ℕ) (x : Run) (c : Image) : Type 0 where
  pub commits : ℕ
  pub enough : least ≤ commits
  pub most : commits ≤ length x.so_far.commits
  pub stands : StandsFor t g c (objects_after t commits x)
