-- Why a line was answered so, and whether the session has stopped behind it, whatever the engine tells.
use Rattle.std.specs.Prelude.{◌≡◌, ℕ, ◌<◌, Option, Some}
use Rattle.sg_base.specs.Ends.{HasRisen}
use Rattle.sg_model.specs.declared.stop.Stop.{Stop}
use Rattle.sg_model.specs.declared.stop.Stop.TheVariants as stops
use Rattle.sg_words.specs.Answers.{Answer}
use Rattle.sg_words.specs.Answers.Answer.{LogEnd, Memory, Disk}
use Rattle.sg_words.specs.Requests.Asked.{Of}
use Rattle.sg_words.specs.Requests.Request.{Begin, Commit, Abort, Do}
use Rattle.sg_words.specs.declared.marking.Marking.TheVariants as markings
use Rattle.sg_words.specs.declared.upkeep.Upkeep.TheVariants as upkeeps
use Rattle.sg_run.specs.Numbers.{NEW_WORK_END, IsAtEnd, IsListing}
use Rattle.sg_store.specs.Ground.{Ground}
use Rattle.sg_store.specs.Engine.{Sizes, Shown}
use Rattle.sg_store.specs.declared.fault.MarkRefused.{MarkRefused}
use Rattle.sg_store.specs.declared.fault.MarkRefused.TheVariants as marks
use Rattle.sg_store.specs.declared.fault.Refused.{Refused}
use Rattle.sg_store.specs.declared.fault.Refused.TheVariants as refusals
use Rattle.sg_session.specs.Lines.{Line}
use Rattle.sg_session.specs.Lines.Line.{OfStore, OfMarks, Other}

-- what an answer says that went wrong: nothing, or that the disk failed, that the log is at its end, or that memory ran out
pub data Trouble : Type 0 where
  NoTrouble : Trouble
  OfDisk : Trouble
  OfLog : Trouble
  OfMemory : Trouble

abbrev pub trouble_in : Answer → Trouble
trouble_in LogEnd = OfLog
trouble_in Memory = OfMemory
trouble_in Disk = OfDisk
trouble_in other = NoTrouble

-- the same of a refusal
abbrev pub trouble_of : Refused → Trouble
trouble_of refusals.LogEnd = OfLog
trouble_of refusals.Memory = OfMemory
trouble_of refusals.DiskFault = OfDisk
trouble_of other = NoTrouble

-- and of one of a call on marks
abbrev pub trouble_at_mark : MarkRefused → Trouble
trouble_at_mark (marks.Store why) = trouble_of why
trouble_at_mark other = NoTrouble

-- The log is full for a line, with its tail before the line and behind it: for new work, and for a mark, where the tail was above 2^62; for the
-- end of a transaction, for a way back to a mark, and for a checkpoint, where a record of the greatest size might pass 2^63
abbrev pub IsFullFor : (begin tail : ℕ) → Line → Type 0
IsFullFor begin tail (Other (Of name Begin)) = NEW_WORK_END < begin
IsFullFor begin tail (Other (Of name (Do op))) = NEW_WORK_END < begin
IsFullFor begin tail (Other (Of name Commit)) = IsAtEnd tail
IsFullFor begin tail (Other (Of name Abort)) = IsAtEnd tail
IsFullFor begin tail (OfStore upkeeps.Checkpoint) = IsAtEnd begin
IsFullFor begin tail (OfMarks name markings.Save) = NEW_WORK_END < begin
IsFullFor begin tail (OfMarks name (markings.Back mark)) = IsAtEnd tail
IsFullFor begin tail other = ⊥

-- only lists take memory
abbrev pub TakesMemory : Line → Type 0
TakesMemory (Other (Of name (Do op))) = IsListing op
TakesMemory other = ⊥

-- THE CAUSE of what went wrong in a line, with the log's tail and the counts of faults before it and behind it
abbrev pub IsCaused : (begin tail before now : ℕ) → Line → Trouble → Type 0
IsCaused begin tail before now line NoTrouble = Unit {0}
IsCaused begin tail before now line OfDisk = HasRisen before now
IsCaused begin tail before now line OfLog = IsFullFor begin tail line
IsCaused begin tail before now line OfMemory = TakesMemory line

-- at the log's end a line stops the session that ends a transaction, takes one back to a mark or makes a checkpoint, and no other
abbrev pub stop_at_end : Option Stop → Line → Option Stop
stop_at_end before (Other (Of name Commit)) = Some stops.LogEnd
stop_at_end before (Other (Of name Abort)) = Some stops.LogEnd
stop_at_end before (OfStore upkeeps.Checkpoint) = Some stops.LogEnd
stop_at_end before (OfMarks name (markings.Back mark)) = Some stops.LogEnd
stop_at_end before other = before

-- why a session has stopped behind a line, if it has
abbrev pub stop_by : Option Stop → Line → Trouble → Option Stop
stop_by before line NoTrouble = before
stop_by before line OfDisk = Some stops.Disk
stop_by before line OfLog = stop_at_end before line
stop_by before line OfMemory = before

-- A LINE'S ANSWER HAS ITS CAUSE, in an engine that showed this before it and shows that; in one that told, a fault of the disk is one that the
-- disk itself counted. And the session has stopped behind the line exactly for what the answer says
pub record Caused {basis : Sizes → Ground} (old new : Shown basis) (before now : Option Stop) (line : Line) (answer : Answer) : Type 0 where
  pub cause : IsCaused old.tail new.tail old.faults new.faults line (trouble_in answer)
  pub own : old.Told → IsCaused old.tail new.tail old.disk.faults new.disk.faults line (trouble_in answer)
  pub stop : now ≡ stop_by before line (trouble_in answer)
