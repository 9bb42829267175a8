-- Where the records of a log stand.
use Rattle.std.specs.Prelude.{◌≡◌, ◌⊎◌, ◌<◌, ◌≤◌, ◌+◌, ◌-◌, ℕ, List, [], ◌∷◌, ◌++◌, length, Option, Some, None}
use Rattle.sg_disk.specs.Disk.{View, window}
use Rattle.sg_record.specs.Records.{Record, spelled}
use Rattle.sg_log.specs.Texts.{spelled_all}
use Rattle.sg_record.specs.Ranges.{IsRecord}
use Rattle.sg_log.specs.Formed.{IsFormed}
use Rattle.sg_log.specs.Frames.{Numbered, text_of, Frames, gate_after}
use Rattle.sg_log.specs.Held.{Tail, Holds}
use Rattle.sg_log.specs.declared.place.Place.{Place}

-- a record, and where it stands
abbrev pub Placed : Type 0
Placed = Place × Record

-- In an area whose first byte has the number base: the records of a frame that ends before the offset end, the first
-- of them at this offset.
abbrev pub places_from : (base end at : ℕ) → List Record → List Placed
places_from base end at [] = []
places_from base end at (r ∷ rs) = (record { lsn = base + at; frame_end = base + end }, r) ∷ places_from base end (at + length (spelled r)) rs

-- The records of frames, of which the first one's gate is at this offset. 5 bytes stand before a frame's records.
abbrev pub places_in : (base at : ℕ) → List (List Record) → List Placed
places_in base at [] = []
places_in base at (rs ∷ frames) = places_from base (at + 1 + length (text_of (spelled_all rs))) (at + 5) rs ++ places_in base (at + 1 + length (text_of (spelled_all rs))) frames

-- The log holds these records, the durable ones and then those in its buffer, at these places. The buffered ones stand
-- where their frame is to stand.
pub record HoldsAt (v : View) (log : Tail) (ds ps : List Numbered) (held : List Placed) : Type 0 where
  pub holds : Holds v log ds ps
  pub places : held ≡ places_in log.base 0 (holds.frames ++ holds.body ∷ [])

-- where the first of them stands, if there is one
abbrev pub first_of : List Placed → Option Place
first_of [] = None
first_of (p ∷ held) = Some p.0

-- the record is among them, and its first byte has this number
abbrev pub StandsAt : List Numbered → ℕ → Record → Type 0
StandsAt [] lsn r = ⊥
StandsAt (n ∷ records) lsn r = ((n.lsn ≡ lsn) × (n.is ≡ r)) ⊎ StandsAt records lsn r

-- these bytes are one record, of so many bytes
pub record IsRecordText (bytes : List ℕ) (size : ℕ) : Type 0 where
  pub is : Record
  pub fields : IsRecord is
  pub text : bytes ≡ spelled is
  pub long : size ≡ length (spelled is)

-- the record stands in the area, before the last gate, and its first byte has this number
pub record IsDurable (v : View) (log : Tail) (lsn : ℕ) (r : Record) : Type 0 where
  pub fields : IsRecord r
  pub front : log.base ≤ lsn
  pub before : lsn + length (spelled r) ≤ log.gate
  pub text : window (v.now log.area).seen (lsn - log.base) (length (spelled r)) ≡ spelled r

-- the record stands in the buffer, and its first byte has this number
pub record IsWaiting (log : Tail) (lsn : ℕ) (r : Record) : Type 0 where
  pub fields : IsRecord r
  pub front : List ℕ
  pub back : List ℕ
  pub buffer : log.buffer ≡ front ++ (spelled r ++ back)
  pub place : lsn ≡ log.gate + 5 + length front

-- in one of the two
abbrev pub IsThere : View → Tail → ℕ → Record → Type 0
IsThere v log lsn r = IsDurable v log lsn r ⊎ IsWaiting log lsn r

-- behind the gate of this number, a frame is formed whose body has so many bytes
pub record IsFormedBehind (v : View) (log : Tail) (gate size : ℕ) : Type 0 where
  pub rs : List Record
  pub front : log.base ≤ gate
  pub before : gate < log.gate
  pub formed : IsFormed (v.now log.area).seen (gate - log.base) rs
  pub long : size ≡ length (spelled_all rs)

-- so many bytes of records stand behind the gate of this number: a frame's, or the buffer's
abbrev pub IsSizeBehind : View → Tail → (gate size : ℕ) → Type 0
IsSizeBehind v log gate size = ((gate ≡ log.gate) × (size ≡ length log.buffer)) ⊎ IsFormedBehind v log gate size

-- these are the records behind the gate of this number, up to the last one in the buffer
pub record StandBehind (v : View) (log : Tail) (gate : ℕ) (rest : List Placed) : Type 0 where
  pub at : ℕ
  pub gate_is : gate ≡ log.base + at
  pub frames : List (List Record)
  pub stand : Frames (v.now log.area).seen at frames
  pub last_gate : log.gate ≡ log.base + gate_after at frames
  pub ps : List Record
  pub waiting : log.buffer ≡ spelled_all ps
  pub are : rest ≡ places_in log.base at (frames ++ ps ∷ [])
