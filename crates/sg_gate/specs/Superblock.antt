-- The superblock: two slots of the home area, of which one counts.
use Rattle.std.specs.Prelude.{◌≡◌, ◌≢◌, ◌⊎◌, ◌<◌, ◌≤◌, ◌+◌, ◌-◌, ◌/◌, ◌^◌, ◌==◌, ◌&&◌, nat_le, nat_lt, ℕ, Bool, if◌then◌else◌, Option, Some, None, IfSome, Result, Ok, Err, List, [], ◌∷◌, drop}
use Rattle.byteorder.specs.Endian.{little_number}
use Rattle.sg_base.specs.declared.area.Area.{Area}
use Rattle.sg_base.specs.declared.area.Area.TheVariants.{Home}
use Rattle.sg_base.specs.Forms.{Form, number, pair}
use Rattle.sg_disk.specs.Disk.{Bytes, Image, Part, State, Spoils, LeavesPart, window}
use Rattle.sg_gate.specs.Layout.{HEADER}
use Rattle.sg_gate.specs.Batch.{IsSettled, SameLogs}
use Rattle.sg_gate.specs.declared.fault.GateFault.{GateFault}
use Rattle.sg_gate.specs.declared.fault.GateFault.TheVariants.{NotAStore, Damaged}
use Rattle.sg_gate.specs.declared.slot.Slot.{Slot}
use Rattle.sg_gate.specs.declared.slot.Slot.TheVariants.{First, Second}
use Rattle.sg_gate.specs.declared.superblock.Super.{Super}

-- where a slot begins, with its gate
abbrev pub start_of : Slot → ℕ
start_of First = 0
start_of Second = 4096

-- its bytes: the gate, and then those of a superblock
abbrev pub SLOT : ℕ
SLOT = 44

-- the bytes behind the gate of a slot that begins here
unfoldable pub text_at : Bytes → ℕ → List ℕ
text_at f at = window f (at + 1) 43

-- the number of so many bytes at this offset of the slot. Its text begins at offset 1
abbrev pub field : List ℕ → (at size : ℕ) → ℕ
field text at size = little_number size (drop (at - 1) text)

-- the number that the eight bytes STASISSG spell
abbrev pub MAGIC : ℕ
MAGIC = 0x4753534953415453

-- the fields of a slot behind its gate, one behind another: 43 bytes. They are the magic number, the version, and then those of a
-- superblock in their order
abbrev pub text_form : Form (ℕ × (ℕ × (ℕ × (ℕ × (ℕ × (ℕ × (ℕ × (ℕ × ℕ))))))))
text_form = pair (number 8) (pair (number 2) (pair (number 8) (pair (number 4) (pair (number 4) (pair (number 4) (pair (number 4) (pair (number 1) (number 8))))))))

-- the bytes that a superblock has there
unfoldable pub spelled : Super → List ℕ
spelled s = text_form.spell (MAGIC, (1, (s.sequence, (s.pages, (s.bands, (s.frames, (s.windows, (s.log, s.base))))))))

abbrev pub sequence_of : List ℕ → ℕ
sequence_of text = field text 11 8

-- the superblock that a text says
abbrev pub said : List ℕ → Super
said text = record {
  sequence = sequence_of text;
  pages = field text 19 4;
  bands = field text 23 4;
  frames = field text 27 4;
  windows = field text 31 4;
  log = field text 35 1;
  base = field text 36 8;
}

abbrev pub is_within : (least most x : ℕ) → Bool
is_within least most x = nat_le least x && nat_le x most

-- how many bands the allocation map takes, with a bit for each page and each band
abbrev pub map_bands : (pages bands : ℕ) → ℕ
map_bands pages bands = (pages + bands + 262143) / 262144

-- the fields of a superblock, each with its offset in the slot, and whether it is in its range
abbrev pub fields : Super → List (ℕ × Bool)
fields s = (11, is_within 1 (2 ^ 64 - 2) s.sequence)
    ∷ (19, is_within 64 1048576 s.pages)
    ∷ (23, is_within 4 65536 s.bands && nat_lt (map_bands s.pages s.bands) s.bands)
    ∷ (27, is_within 32 16384 s.frames)
    ∷ (31, is_within 4 256 s.windows)
    ∷ (35, nat_le s.log 1)
    ∷ (36, nat_le s.base (2 ^ 63))
    ∷ []

-- the offset of the first field that is out of its range
abbrev pub first_out : List (ℕ × Bool) → Option ℕ
first_out [] = None
first_out (x ∷ xs) = if x.1 then first_out xs else Some x.0

-- the same of a slot's text, which begins with the magic number and the version
unfoldable pub wrong_in : List ℕ → Option ℕ
wrong_in text = first_out ((1, field text 1 8 == MAGIC) ∷ (9, field text 9 2 == 1) ∷ fields (said text))

-- all fields are in their ranges
abbrev pub IsSuper : Super → Type 0
IsSuper s = first_out (fields s) ≡ None

-- what that says of each field
pub record AreInRange (s : Super) : Type 0 where
  pub sequence : (1 ≤ s.sequence) × (s.sequence ≤ 2 ^ 64 - 2)
  pub pages : (64 ≤ s.pages) × (s.pages ≤ 1048576)
  pub bands : (4 ≤ s.bands) × (s.bands ≤ 65536) × (map_bands s.pages s.bands < s.bands)
  pub frames : (32 ≤ s.frames) × (s.frames ≤ 16384)
  pub windows : (4 ≤ s.windows) × (s.windows ≤ 256)
  pub log : s.log ≤ 1
  pub base : s.base ≤ 2 ^ 63

-- the text says this superblock
pub record IsText (s : Super) (text : List ℕ) : Type 0 where
  pub fits : wrong_in text ≡ None
  pub says : said text ≡ s

-- what a reader makes of the text of a slot that begins here
abbrev pub read_with : ℕ → List ℕ → Option ℕ → Result Super GateFault
read_with at text None = Ok (said text)
read_with at text (Some wrong) = Err (Damaged (at + wrong))

abbrev pub read_text : ℕ → List ℕ → Result Super GateFault
read_text at text = read_with at text (wrong_in text)

-- which slot counts, by their gates and sequences: an open one, of two open ones that with the greater sequence, and the
-- first where these are equal
abbrev pub which : (gate0 gate1 sequence0 sequence1 : ℕ) → Option Slot
which gate0 gate1 sequence0 sequence1 =
    if gate0 == 1 then (if gate1 == 1 && nat_lt sequence0 sequence1 then Some Second else Some First)
    else (if gate1 == 1 then Some Second else None)

abbrev pub counting : Bytes → Option Slot
counting f = which (f 0) (f 4096) (sequence_of (text_at f 0)) (sequence_of (text_at f 4096))

abbrev pub read_in : Bytes → Option Slot → Result Super GateFault
read_in f None = Err NotAStore
read_in f (Some slot) = read_text (start_of slot) (text_at f (start_of slot))

-- THE SUPERBLOCK OF A HOME AREA: what the slot that counts says
abbrev pub superblock : Bytes → Result Super GateFault
superblock f = read_in f (counting f)

-- the slot that doesn't count, and the first where none does
abbrev pub spare : Option Slot → Slot
spare (Some First) = Second
spare (Some Second) = First
spare None = First

-- where that slot begins
abbrev pub spare_of : Bytes → ℕ
spare_of f = start_of (spare (counting f))

-- its sequence is above that of the slot that counts, if one does
abbrev pub IsNewer : Bytes → Super → Type 0
IsNewer f s = IfSome (counting f) (λ slot. sequence_of (text_at f (start_of slot)) < s.sequence)

-- the byte isn't one of the slot that begins here
abbrev pub IsElsewhere : ℕ → ℕ → Type 0
IsElsewhere at i = (i < at) ⊎ (at + SLOT ≤ i)

-- nothing is pending in the two slots
abbrev pub AreSettled : Part → Type 0
AreSettled p = (i : ℕ) → i < HEADER → Spoils p.pending i → ⊥

-- AN IMAGE OF A MOMENT of a renewal of the slot that begins here: the superblock is the old one or the new one, and all else is
-- as a crash could have left it
pub record IsRenewing (s : State) (new : Super) (at : ℕ) (c : Image) : Type 0 where
  pub super : (superblock (c Home) ≡ superblock (s Home).seen) ⊎ (superblock (c Home) ≡ Ok new)
  pub rest : (i : ℕ) → IsElsewhere at i → (Spoils (s Home).pending i → ⊥) → c Home i ≡ (s Home).seen i
  pub fits : (i : ℕ) → c Home i < 256
  pub others : (b : Area) → b ≢ Home → LeavesPart (s b) (c b)

-- the superblock is the new one, nothing is pending, and all but this slot is as before
pub record IsRenewed (s t : State) (new : Super) (at : ℕ) : Type 0 where
  pub super : superblock (t Home).seen ≡ Ok new
  pub settled : IsSettled (t Home)
  pub rest : (i : ℕ) → IsElsewhere at i → (t Home).seen i ≡ (s Home).seen i
  pub others : SameLogs s t

-- the slot that begins here doesn't count: while its gate is closed the superblock is the old one, and with this text behind
-- an open gate it is the new one
pub record IsSpare (f : Bytes) (new : Super) (text : List ℕ) (at : ℕ) : Type 0 where
  pub place : (at ≡ 0) ⊎ (at ≡ 4096)
  pub calm : (c : Bytes) → ((i : ℕ) → i < HEADER → IsElsewhere at i → c i ≡ f i) → c at ≢ 1 → superblock c ≡ superblock f
  pub fresh : (c : Bytes) → ((i : ℕ) → i < HEADER → IsElsewhere at i → c i ≡ f i) → c at ≡ 1 → text_at c at ≡ text → superblock c ≡ Ok new

-- the gate of this slot is closed, nothing is pending in the slots, and elsewhere nothing that wasn't before. All but the slot is
-- as before
pub record IsCalm (s t : State) (at : ℕ) : Type 0 where
  pub shut : (t Home).seen at ≢ 1
  pub same : (i : ℕ) → IsElsewhere at i → (t Home).seen i ≡ (s Home).seen i
  pub settled : AreSettled (t Home)
  pub pending : (i : ℕ) → Spoils (t Home).pending i → Spoils (s Home).pending i
  pub others : SameLogs s t

-- this slot has this text behind an open gate, nothing is pending, and all but the slot is as before
pub record IsWritten (s t : State) (at : ℕ) (text : List ℕ) : Type 0 where
  pub gate : (t Home).seen at ≡ 1
  pub text_there : text_at (t Home).seen at ≡ text
  pub settled : IsSettled (t Home)
  pub same : (i : ℕ) → IsElsewhere at i → (t Home).seen i ≡ (s Home).seen i
  pub others : SameLogs s t

-- how many calls of the disk a renewal makes, and how many bytes it hands over: two reads, and more where the slot that doesn't
-- count is open
abbrev pub renewing_calls : Bytes → ℕ
renewing_calls f = if f (spare_of f) == 1 then 8 else 6

abbrev pub renewing_bytes : Bytes → ℕ
renewing_bytes f = if f (spare_of f) == 1 then 45 else 44
