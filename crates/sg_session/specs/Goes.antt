-- How a line goes in a session.
use Rattle.std.specs.Prelude.{◌≡◌, Some, None, IsSome}
use Rattle.sg_disk.specs.Disk.{LeavesOnly}
use Rattle.sg_ops.specs.Table.{Table as Operations}
use Rattle.sg_words.specs.Answers.{Answer}
use Rattle.sg_words.specs.Answers.Answer.{Silent, BadSyntax, Stopped}
use Rattle.sg_words.specs.Requests.Asked.{Blank, Wrong, Of}
use Rattle.sg_room.specs.Steps.{RunStock}
use Rattle.sg_run.specs.Run.{Run, live_objects}
use Rattle.sg_run.specs.Serial.{IsSerial}
use Rattle.sg_run.specs.Stocked.{Around}
use Rattle.sg_store.specs.declared.engine.Engine.{Ghosts}
use Rattle.sg_store.specs.Ground.{Ground, IsLawful}
use Rattle.sg_store.specs.Engine.{View, AsMeantBy, pages_of}
use Rattle.sg_store.specs.Stands.{StandsForFirst}
use Rattle.sg_store.specs.Room.{ShowsStock}
use Rattle.sg_store.specs.Stock.{NeedsByStock}
use Rattle.sg_session.specs.Lines.{Line, LineBy}
use Rattle.sg_session.specs.Stocked.{LeadsOn}
use Rattle.sg_session.specs.Lines.Line.{OfStore, OfMarks, Other}
use Rattle.sg_session.specs.Causes.{Caused}
use Rattle.sg_session.specs.Shows.{Core, Shows}

-- what is told of a store around a call, by what its engine shows before and after it
abbrev pub around : {g : Ground} → (v w : View g) → Around
around v w = record { pages = v.free_pages; bands = v.free_bands; begin = v.tail; tail = w.tail; before = v.faults; now = w.faults }

-- A session that shows x answers a line, and then shows a run that goes on so; and each stock that it showed of x is led on with it, from
-- which the numbers of a refusal for want of room follow. In the line and after it a crash leaves what stands for the commits from
-- before it, or with its own
pub record Goes (t : Operations) (g : Ground) (v : View g) (x : Run) (line : Line) (answer : Answer) (w : View g) (m : Core) : Type 0 where
  pub after : Run
  pub line_goes : LineBy t (around v w) x line answer after
  pub stocked : NeedsByStock t g → (r : RunStock) → ShowsStock t g v r → LeadsOn t g (around v w) x line answer after w m.store.stopped r
  pub shows : Shows t g w m after
  pub moments : LeavesOnly v.disk w.disk (StandsForFirst t g x.so_far.answered after)

-- So a line was answered. Unless the store has stopped, the run that the session then shows is serial, and its pages read as
-- the objects of that run's history, from which an abort leaves out what its transaction did
pub record Answers (t : Operations) (g : Ground) (v : View g) (x : Run) (line : Line) (answer : Answer) (w : View g) (m : Core) : Type 0 where
  pub goes : Goes t g v x line answer w m
  pub serial : m.store.stopped ≡ None → IsSerial t goes.after
  pub objects : m.store.stopped ≡ None → (o : g.O) → g.reading (pages_of t g w) ≡ Some o → g.objects o ≡ live_objects t goes.after

-- what a line is answered by a session that has stopped
abbrev pub when_stopped : Line → Answer
when_stopped (OfStore upkeep) = Stopped
when_stopped (OfMarks name marking) = Stopped
when_stopped (Other Blank) = Silent
when_stopped (Other Wrong) = BadSyntax
when_stopped (Other (Of name request)) = Stopped

module _ {E : Type 0} (ghosts : Ghosts E) (t : Operations) where
  -- A LINE WAS ANSWERED, of which a sink takes what Took says. Whatever the engine tells the answer has its cause, and if the session had
  -- stopped it is the one that stands for that; where the engine told, the line went so for each run that the session showed
  pub record IsAnswered (e : E) (k : Core) (line : Line) (Took : Answer → Type 0) (f : E) (m : Core) : Type 0 where
    pub answer : Answer
    pub caused : Caused (ghosts.view e) (ghosts.view f) k.store.stopped m.store.stopped line answer
    pub by_stop : IsSome k.store.stopped → answer ≡ when_stopped line
    pub answers : AsMeantBy t (ghosts.view e) (ghosts.view f) (λ g v w. (x : Run) → IsLawful t g → Shows t g v k x → Answers t g v x line answer w m)
    pub took : Took answer
