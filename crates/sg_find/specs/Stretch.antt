-- A log's text is read in stretches of whole frames.
use Rattle.std.specs.Prelude.{◌≡◌, ◌≤◌, ◌+◌, ◌*◌, ℕ, List, ◌++◌, length, vec_capacity}
use Rattle.sg_record.specs.Records.{Record}
use Rattle.sg_log.specs.Frames.{gate_after}
use Rattle.sg_places.specs.Text.{IsText}
use Rattle.sg_find.specs.declared.stretch.Room.{Room}

-- the most bytes of a frame: its gate, the length of its body, and the body
abbrev pub GREATEST_FRAME : ℕ
GREATEST_FRAME = 65541

-- A STRETCH WAS READ, of which so many bytes are the text: of the frames from this offset on these are the first, and the others begin
-- behind it
pub record IsRead (at : ℕ) (frames : List (List Record)) (text : List ℕ) (size : ℕ) : Type 0 where
  pub part : List (List Record)
  pub rest : List (List Record)
  pub is_all : frames ≡ part ++ rest
  pub whole : IsText part text
  pub behind : at + size ≡ gate_after at part

-- there is room for a stretch and for the places of all its records
pub record IsRoom (room : Room) : Type 0 where
  pub text : length room.text.items ≡ 1048576
  pub places : 49932 ≤ vec_capacity room.places
