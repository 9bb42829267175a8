-- When a log may be full, by the bytes that were handed to the disk.
use Rattle.std.specs.Prelude.{◌⊎◌, ◌+◌, ◌<◌, ◌≤◌, ◌^◌, ℕ}
use Rattle.sg_disk.specs.Disk as disk
use Rattle.sg_words.specs.Requests.Asked.{Of}
use Rattle.sg_words.specs.Requests.Request.{Begin, Do}
use Rattle.sg_words.specs.declared.marking.Marking.TheVariants as markings
use Rattle.sg_run.specs.Numbers.{NEW_WORK_END}
use Rattle.sg_session.specs.Lines.{Line}
use Rattle.sg_session.specs.Lines.Line.{OfMarks, Other}

-- no record ends behind this byte
abbrev pub LOG_END : ℕ
LOG_END = 2 ^ 63

-- the byte by which the log has room for a line: new work and marks begin there at the latest, and the records of a checkpoint, of a transaction's
-- end and of a way back to a mark end there
abbrev pub end_for : Line → ℕ
end_for (Other (Of name Begin)) = NEW_WORK_END
end_for (Other (Of name (Do op))) = NEW_WORK_END
end_for (OfMarks name markings.Save) = NEW_WORK_END
end_for other = LOG_END

-- How far behind the end of what is durable a line may come to that byte. What waits to be a frame takes 65,541 bytes at most, and a record
-- of the greatest size 131,072 more
abbrev pub reach_of : Line → ℕ
reach_of (Other (Of name Begin)) = 65541
reach_of (Other (Of name (Do op))) = 65541
reach_of (OfMarks name markings.Save) = 65541
reach_of other = 196613

-- So many bytes were handed to the disk since v that a log that ended there then may be full for a line now
abbrev pub MayBeFull : (log_end : ℕ) → (v w : disk.View) → Line → Type 0
MayBeFull log_end v w line = (disk.FULL ≤ w.handed) ⊎ (end_for line + v.handed < log_end + w.handed + reach_of line)

-- The log's tail is shown by bytes: it is at most where the log ended, what was handed to the disk since, and what waits to be a frame
abbrev pub TailIsShown : (log_end : ℕ) → (v w : disk.View) → (tail : ℕ) → Type 0
TailIsShown log_end v w tail = (disk.FULL ≤ w.handed) ⊎ (tail + v.handed ≤ log_end + w.handed + 65541)
