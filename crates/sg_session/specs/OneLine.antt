-- What one line of a session leaves on the disk.
use Rattle.std.specs.Prelude.{◌≡◌, ◌⊎◌, Option, Some, None}
use Rattle.sg_disk.specs.Disk as disk
use Rattle.sg_serial.specs.Runs.{Live}
use Rattle.sg_ops.specs.Table.{Table as Operations}
use Rattle.sg_model.specs.declared.stop.Stop.{Stop}
use Rattle.sg_words.specs.Requests.Asked.{Of}
use Rattle.sg_words.specs.Requests.Request.{Commit}
use Rattle.sg_run.specs.Run.{Run, live_named, with_commit, committed_objects}
use Rattle.sg_store.specs.Ground.{Ground}
use Rattle.sg_store.specs.Engine.{View}
use Rattle.sg_store.specs.Stands.{StandsFor}
use Rattle.sg_session.specs.Lines.{Line}
use Rattle.sg_session.specs.Lines.Line.{Other}

-- a run with the commit of a live transaction, if there is one
abbrev pub with_commit_of : Run → Option Live → Run
with_commit_of x None = x
with_commit_of x (Some live) = record x { so_far = with_commit x.so_far live.transaction }

-- a run with the commit of a line, if it is one of a live transaction
abbrev pub with_its_commit : Run → Line → Run
with_its_commit x (Other (Of name Commit)) = with_commit_of x (live_named x.so_far.live name)
with_its_commit x other = x

-- Each image of each moment in the line stands for the committed objects as they were, or with the line's own commit.
-- Unless the store has stopped in it, each image behind the line stands for those with its commit
pub record OneLine (t : Operations) (g : Ground) (v : View g) (x : Run) (line : Line) (w : View g) (stopped : Option Stop) : Type 0 where
  pub moments : disk.LeavesOnly v.disk w.disk (λ c. StandsFor t g c (committed_objects t x) ⊎ StandsFor t g c (committed_objects t (with_its_commit x line)))
  pub kept : stopped ≡ None → (c : disk.Image) → disk.Leaves w.disk.now c → StandsFor t g c (committed_objects t (with_its_commit x line))
