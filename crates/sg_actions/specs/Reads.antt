-- What the bytes of a record say to a take-off, and to an undo.
use Rattle.std.specs.Prelude.{◌≡◌, ℕ, ◌<◌, List, Option, Some, Ok}
use Rattle.sg_record.specs.Changes.{Change}
use Rattle.sg_record.specs.Ranges.{IsRecord}
use Rattle.sg_record.specs.Reading.{parse}
use Rattle.sg_record.specs.Records.{Record}
use Rattle.sg_actions.specs.Changes.{IsChangeOf, IsBrief}
use Rattle.sg_actions.specs.Steps.{step_of}
use Rattle.sg_actions.specs.Undoing.{Hop, hop_in, SeesBy}
use Rattle.sg_actions.specs.declared.undo.Seen.{Seen}

-- THE BYTES ARE OF A RECORD that makes this change, and names this one before it, which is below the record's own number. A record has room
-- for what takes the change off
pub record ReadsChange (bytes : List ℕ) (at : ℕ) (change : Change) (previous : ℕ) : Type 0 where
  pub what : Record
  pub size : ℕ
  pub is : parse bytes ≡ Ok (what, size)
  pub makes : IsChangeOf what change previous
  pub lower : previous < at
  pub brief : IsRecord what → IsBrief change

-- the record that the bytes are of has an encoding
abbrev pub AreOfRecord : List ℕ → Type 0
AreOfRecord bytes = (what : Record) (size : ℕ) → parse bytes ≡ Ok (what, size) → IsRecord what

-- THE BYTES ARE OF A RECORD on a way back over an action, which goes on at a lower one
pub record ReadsHop (bytes : List ℕ) (at : ℕ) (hop : Hop) : Type 0 where
  pub what : Record
  pub size : ℕ
  pub is : parse bytes ≡ Ok (what, size)
  pub hops : Some hop ≡ hop_in (step_of what)
  pub lower : hop.1 < at

-- what an undo sees at the record that the bytes are of
abbrev pub ReadsSeen : (bytes note : List ℕ) → Option Seen → Type 0
ReadsSeen bytes note seen = (what : Record) (size : ℕ) → parse bytes ≡ Ok (what, size) → SeesBy (step_of what) note seen
