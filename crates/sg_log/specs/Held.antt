-- What a log in memory knows, and which records it holds on a disk and in its buffer.
use Rattle.std.specs.Prelude.{◌≡◌, ◌⊎◌, ◌+◌, ◌≤◌, ◌<◌, ◌==◌, nat_le, if◌then◌else◌, ℕ, Bool, List, [], ◌∷◌, ◌++◌, length}
use Rattle.sg_base.specs.declared.area.Area.{Area}
use Rattle.sg_disk.specs.Disk.{Image, State, LeavesPart, View}
use Rattle.sg_record.specs.Records.{Record, spelled}
use Rattle.sg_log.specs.Texts.{spelled_all, AreRecords}
use Rattle.sg_log.specs.Frames.{GREATEST_BODY, LOG_END, Numbered, numbered_from, numbered_in, Frames, gate_after, HasRecords}

-- A log as its callers see it: where it stands, the number of its area's first byte, the number of the closed gate
-- behind the last frame, and the bytes that are to be the next frame's body.
pub record Tail : Type 0 where
  pub area : Area
  pub base : ℕ
  pub gate : ℕ
  pub buffer : List ℕ

-- the numbers stay in their ranges
pub record IsTail (base gate used : ℕ) : Type 0 where
  pub front : base ≤ gate
  pub short : used ≤ GREATEST_BODY
  pub gate_within : gate ≤ LOG_END
  pub within : 0 < used → gate + 5 + used ≤ LOG_END

-- the number of the next byte, with the buffer counted: that of the closed gate, where the buffer is empty
abbrev pub tail_of : Tail → ℕ
tail_of log = if length log.buffer == 0 then log.gate else log.gate + 5 + length log.buffer

-- the record still fits the buffer
abbrev pub has_room : Tail → Record → Bool
has_room log r = nat_le (length log.buffer + length (spelled r)) GREATEST_BODY

-- The number of a record's first byte, if it is appended now: it comes after the buffered records, and the gate and the
-- length of their frame. Where it doesn't fit, that frame ends first, and the gate and the length of another follow.
abbrev pub place_of : Tail → Record → ℕ
place_of log r = if has_room log r then log.gate + 5 + length log.buffer else log.gate + 5 + length log.buffer + 5

-- the number of the byte behind it
abbrev pub end_of : Tail → Record → ℕ
end_of log r = place_of log r + length (spelled r)

-- the log once its buffer is a frame
abbrev pub forced : Tail → Tail
forced log = if length log.buffer == 0 then log else record log { gate = log.gate + 5 + length log.buffer; buffer = [] }

-- the log with one record more in its buffer
abbrev pub buffered : Tail → Record → Tail
buffered log r = record log { buffer = log.buffer ++ spelled r }

-- the log after an append
abbrev pub appended : Tail → Record → Tail
appended log r = if has_room log r then buffered log r else buffered (forced log) r

-- The log holds the records ds on the disk, and ps in its buffer: its area has frames of ds from its first byte on,
-- then a closed gate, and nothing in it is pending. The buffered ones are numbered as they are to stand in their frame.
pub record Holds (v : View) (log : Tail) (ds ps : List Numbered) : Type 0 where
  pub frames : List (List Record)
  pub stand : Frames (v.now log.area).seen 0 frames
  pub all : numbered_in log.base frames ≡ ds
  pub settled : (v.now log.area).pending ≡ []
  pub at_gate : log.gate ≡ log.base + gate_after 0 frames
  pub body : List Record
  pub waiting : log.buffer ≡ spelled_all body
  pub fields : AreRecords body
  pub numbers : numbered_from (log.gate + 5) body ≡ ps
  pub within : tail_of log ≤ LOG_END

-- An image of a moment at which the buffer is made a frame: the log's area holds the records from before, up to the
-- gate, or those of the buffer too, up to the tail. The other areas are as a crash could have left them in that state.
pub record IsBeforeOrAfter (s : State) (log : Tail) (before more : List Numbered) (c : Image) : Type 0 where
  pub held : HasRecords (c log.area) log.base log.gate before ⊎ HasRecords (c log.area) log.base (tail_of log) (before ++ more)
  pub others : (b : Area) → (b ≡ log.area → ⊥) → LeavesPart (s b) (c b)

-- a record with the number that it has, if it is appended now
abbrev pub numbered : Tail → Record → Numbered
numbered log r = record { lsn = place_of log r; is = r }

-- the durable records after an append: those that waited come to them where it had to force
abbrev pub durable_after : Tail → Record → List Numbered → List Numbered → List Numbered
durable_after log r ds ps = if has_room log r then ds else ds ++ ps

-- and the waiting ones
abbrev pub waiting_after : Tail → Record → List Numbered → List Numbered
waiting_after log r ps = if has_room log r then ps ++ numbered log r ∷ [] else numbered log r ∷ []
