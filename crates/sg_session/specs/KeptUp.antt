-- What a line that asks for a flush or a checkpoint leaves of the log and the disk, and which lines commit.
use Rattle.std.specs.Prelude.{◌≤◌, ◌+◌, ℕ, List, Option, Some, None, ⊤}
use Rattle.sg_checkpoints.specs.Checkpoints.{HasMarked, StaysMarked}
use Rattle.sg_words.specs.Requests.{Asked}
use Rattle.sg_words.specs.Requests.Asked.{Blank, Wrong, Of}
use Rattle.sg_words.specs.Requests.Request.{Begin, Commit, Abort, Do}
use Rattle.sg_words.specs.declared.upkeep.Upkeep.TheVariants as upkeeps
use Rattle.sg_store.specs.declared.engine.Engine.{Ghosts}
use Rattle.sg_session.specs.Lines.{Line}
use Rattle.sg_session.specs.Lines.Line.{OfStore, OfMarks, Other}

module _ {E : Type 0} (ghosts : Ghosts E) where
  -- ALL IS HOME, and a log that ended with a checkpoint still does, in each image that a crash leaves now too
  pub record IsHome (e f : E) : Type 0 where
    pub written : (lsn : ℕ) → ghosts.unwritten f lsn → ⊥
    pub marked : (ghosts.view e).Told → StaysMarked (ghosts.marked e) (ghosts.marked f) ghosts.ends_at (ghosts.view f).disk.now

  -- A CHECKPOINT WAS MADE, with which the log ends, and each of these images: only what waited of the log was handed to the disk, and 1,200 bytes at
  -- most
  pub record IsCheckpointed (e f : E) : Type 0 where
    pub marks : (ghosts.view e).Told → HasMarked (ghosts.view e).tail (ghosts.unwritten e) (ghosts.marked f) ghosts.ends_at (ghosts.view f).disk.now
    pub hands : (ghosts.view f).disk.handed ≤ (ghosts.view e).disk.handed + ghosts.waiting e + 1200

  -- behind a line that asks for one of these
  abbrev pub IsKeptUp : Line → (e f : E) → Type 0
  IsKeptUp (OfStore upkeeps.Flush) e f = IsHome e f
  IsKeptUp (OfStore upkeeps.Checkpoint) e f = IsCheckpointed e f
  IsKeptUp (OfStore upkeeps.Truncate) e f = ⊤
  IsKeptUp (OfMarks name marking) e f = ⊤
  IsKeptUp (Other line) e f = ⊤

-- the name of the transaction that a line asks to commit, if it asks for that
abbrev pub name_committed : Asked → Option (List ℕ)
name_committed Blank = None
name_committed Wrong = None
name_committed (Of name Begin) = None
name_committed (Of name Commit) = Some name
name_committed (Of name Abort) = None
name_committed (Of name (Do op)) = None

abbrev pub committed_by : Line → Option (List ℕ)
committed_by (OfStore upkeep) = None
committed_by (OfMarks name marking) = None
committed_by (Other line) = name_committed line

-- behind a line that asks for a truncation this holds
abbrev pub IfTruncates : Line → Type 0 → Type 0
IfTruncates (OfStore upkeeps.Flush) P = ⊤
IfTruncates (OfStore upkeeps.Checkpoint) P = ⊤
IfTruncates (OfStore upkeeps.Truncate) P = P
IfTruncates (OfMarks name marking) P = ⊤
IfTruncates (Other line) P = ⊤
