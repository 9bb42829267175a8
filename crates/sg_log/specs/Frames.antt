-- The frames of a log, and the records that an area's bytes hold.
use Rattle.std.specs.Prelude.{◌≡◌, ◌⊎◌, ◌+◌, ◌^◌, ◌≤◌, ℕ, List, [], ◌∷◌, ◌++◌, length, map}
use Rattle.byteorder.specs.Endian.{little_bytes}
use Rattle.sg_base.specs.declared.area.Area.{Area}
use Rattle.sg_disk.specs.Disk.{Bytes, Image, State, LeavesPart, window}
use Rattle.sg_record.specs.Records.{Record, spelled}
use Rattle.sg_log.specs.Texts.{spelled_all, AreRecords}

-- the most bytes of a frame's body
abbrev pub GREATEST_BODY : ℕ
GREATEST_BODY = 65536

-- no record ends after this byte of the log
abbrev pub LOG_END : ℕ
LOG_END = 2 ^ 63

-- a frame's records: some, with at most so many bytes, and each with its fields in range
pub record IsFrame (rs : List Record) : Type 0 where
  pub some : rs ≡ [] → ⊥
  pub most : length (spelled_all rs) ≤ GREATEST_BODY
  pub fields : AreRecords rs

-- a frame's bytes behind its gate: the length of the body in 4 bytes, and the body
abbrev pub text_of : List ℕ → List ℕ
text_of body = little_bytes 4 (length body) ++ body

-- From this offset on there stand, each behind an open gate, frames of these records, and then a gate that is closed.
-- A gate is one byte, which is open where it is 1.
abbrev pub Frames : Bytes → ℕ → List (List Record) → Type 0
Frames f at [] = f at ≡ 1 → ⊥
Frames f at (rs ∷ frames) = (f at ≡ 1) × IsFrame rs × (window f (at + 1) (length (text_of (spelled_all rs))) ≡ text_of (spelled_all rs)) × Frames f (at + 1 + length (text_of (spelled_all rs))) frames

-- the offset of the closed gate
abbrev pub gate_after : ℕ → List (List Record) → ℕ
gate_after at [] = at
gate_after at (rs ∷ frames) = gate_after (at + 1 + length (text_of (spelled_all rs))) frames

-- a record of a log, and the number of its first byte
pub record Numbered : Type 0 where
  pub lsn : ℕ
  pub is : Record

-- these records one after another, the first of them with this number
abbrev pub numbered_from : ℕ → List Record → List Numbered
numbered_from lsn [] = []
numbered_from lsn (r ∷ rs) = record { lsn = lsn; is = r } ∷ numbered_from (lsn + length (spelled r)) rs

-- The records of frames, of which the first one's gate has this number. 5 bytes stand before a frame's records.
abbrev pub numbered_in : ℕ → List (List Record) → List Numbered
numbered_in gate [] = []
numbered_in gate (rs ∷ frames) = numbered_from (gate + 5) rs ++ numbered_in (gate + 1 + length (text_of (spelled_all rs))) frames

-- each other area is in the same state
abbrev pub SameElsewhere : Area → State → State → Type 0
SameElsewhere area s t = (b : Area) → (b ≡ area → ⊥) → t b ≡ s b

-- these frames stand in the area from its first byte on, with the closed gate at this offset, all of it on the disk
pub record IsAtRest (s : State) (area : Area) (gate : ℕ) (frames : List (List Record)) : Type 0 where
  pub stand : Frames (s area).seen 0 frames
  pub at_gate : gate ≡ gate_after 0 frames
  pub settled : (s area).pending ≡ []

-- these frames, or with one more, and the other areas as a crash could have left them in that state
pub record IsWithOrWithout (s : State) (area : Area) (frames : List (List Record)) (rs : List Record) (c : Image) : Type 0 where
  pub log : Frames (c area) 0 frames ⊎ Frames (c area) 0 (frames ++ rs ∷ [])
  pub others : (b : Area) → (b ≡ area → ⊥) → LeavesPart (s b) (c b)

-- these records without their numbers
abbrev pub records_of : List Numbered → List Record
records_of ns = map (λ n. n.is) ns

-- an area whose first byte has the number base in the log holds exactly these records, and the closed gate behind them
-- has this number
pub record HasRecords (f : Bytes) (base gate : ℕ) (records : List Numbered) : Type 0 where
  pub frames : List (List Record)
  pub stand : Frames f 0 frames
  pub all : numbered_in base frames ≡ records
  pub at_gate : gate ≡ base + gate_after 0 frames
  pub within : gate ≤ LOG_END
