-- A batch of pages that goes home through the double-write area.
use Rattle.std.specs.Prelude.{◌≡◌, ◌≢◌, ◌⊎◌, ◌<◌, ◌≤◌, ◌+◌, ◌-◌, ◌*◌, ◌==◌, ◌&&◌, ℕ, zero, suc, Bool, nat_le, nat_lt, if◌then◌else◌, List, [], ◌∷◌, length, get_or}
use Rattle.byteorder.specs.Endian.{little_number}
use Rattle.sg_base.specs.declared.area.Area.{Area}
use Rattle.sg_base.specs.declared.area.Area.TheVariants.{Home}
use Rattle.sg_disk.specs.Disk.{Bytes, Image, Part, State, Spoils, LeavesPart, window}
use Rattle.sg_disk.specs.Memory.{bytes_of}
use Rattle.sg_gate.specs.Layout.{PAGE, HEADER, PLACES, HOMES, place_at, home_at, IsStore, IsOutside}

-- so many numbers that stand from this offset on, 4 bytes each
abbrev pub numbers_from : Bytes → ℕ → ℕ → List ℕ
numbers_from f at zero = []
numbers_from f at (suc m) = little_number 4 (window f at 4) ∷ numbers_from f (at + 4) m

-- how many numbers a header says that it has, and what these are. Its count begins at this offset
abbrev pub count_at : Bytes → ℕ → ℕ
count_at f at = little_number 4 (window f at 4)

unfoldable pub numbers_at : Bytes → ℕ → List ℕ
numbers_at f at = numbers_from f (at + 4) (count_at f at)

-- the numbers of the pages in the double-write header of a home area
abbrev pub numbers_of : Bytes → List ℕ
numbers_of f = numbers_at f (HEADER + 1)

-- the byte lies in the page or place that begins here
abbrev pub in_page : ℕ → ℕ → Bool
in_page base i = nat_le base i && nat_lt i (base + PAGE)

-- g with the pages at the places from k on laid over the homes of these pages, one after another
abbrev pub over : List ℕ → ℕ → Bytes → Bytes → Bytes
over [] k f g = g
over (n ∷ ns) k f g = over ns (suc k) f (λ i. if in_page (home_at n) i then f (place_at k + (i - home_at n)) else g i)

-- a home area with the pages at its places laid over the homes of these pages
abbrev pub homed : List ℕ → Bytes → Bytes
homed ns f = over ns 0 f f

-- THE HOME AREA AS OPENING SEES IT: where the header's gate is open, with its batch laid over
unfoldable pub laid : Bytes → Bytes
laid f i = if f HEADER == 1 then homed (numbers_of f) f i else f i

-- these may be a batch's numbers: 1 to 32, of different pages
pub record IsBatch (pages : ℕ) (ns : List ℕ) : Type 0 where
  pub some : 1 ≤ length ns
  pub most : length ns ≤ 32
  pub each : (k : ℕ) → k < length ns → get_or ns k 0 < pages
  pub different : (j k : ℕ) → j < k → k < length ns → get_or ns j 0 ≢ get_or ns k 0

-- the byte lies in the home of one of these pages
abbrev pub InHomes : List ℕ → ℕ → Type 0
InHomes [] i = ⊥
InHomes (n ∷ ns) i = ((home_at n ≤ i) × (i < home_at n + PAGE)) ⊎ InHomes ns i

-- nothing is pending: a crash leaves what reads give
abbrev pub IsSettled : Part → Type 0
IsSettled p = (i : ℕ) → Spoils p.pending i → ⊥

-- READY FOR A BATCH: the header's gate is closed, and nothing is pending but in the places
pub record IsReady (p : Part) : Type 0 where
  pub closed : p.seen HEADER ≢ 1
  pub settled : (i : ℕ) → (i < PLACES) ⊎ (HOMES ≤ i) → Spoils p.pending i → ⊥

-- the gate is open before these numbers
pub record IsOpen (p : Part) (ns : List ℕ) : Type 0 where
  pub gate : p.seen HEADER ≡ 1
  pub numbers : numbers_of p.seen ≡ ns

-- the gate is closed, nothing is pending, and the store and the places have these bytes
pub record IsDone (p : Part) (later : Bytes) : Type 0 where
  pub closed : p.seen HEADER ≢ 1
  pub settled : IsSettled p
  pub bytes : (i : ℕ) → IsOutside i → p.seen i ≡ later i

-- the gate is closed, and the store and the places read as opening saw them. Nothing is pending that wasn't before, and
-- the other areas are in the same state
pub record IsLaid (s t : State) : Type 0 where
  pub closed : (t Home).seen HEADER ≢ 1
  pub bytes : (i : ℕ) → IsOutside i → (t Home).seen i ≡ laid (s Home).seen i
  pub settled : (i : ℕ) → Spoils (t Home).pending i → Spoils (s Home).pending i
  pub logs : (b : Area) → b ≢ Home → t b ≡ s b

-- AN IMAGE OF A MOMENT: opening sees the store with these bytes, the header of an open batch is in range, and the other
-- areas are as a crash could have left them in that state
pub record IsWhole (s : State) (pages : ℕ) (store : Bytes) (c : Image) : Type 0 where
  pub home : (i : ℕ) → IsStore i → laid (c Home) i ≡ store i
  pub header : c Home HEADER ≡ 1 → IsBatch pages (numbers_of (c Home))
  pub fits : (i : ℕ) → c Home i < 256
  pub others : (b : Area) → b ≢ Home → LeavesPart (s b) (c b)

-- with the store's bytes from before, or with all of the later ones
abbrev pub IsEither : State → ℕ → (before later : Bytes) → Image → Type 0
IsEither s pages before later c = IsWhole s pages before c ⊎ IsWhole s pages later c

-- the other areas are in the same state
abbrev pub SameLogs : State → State → Type 0
SameLogs s t = (b : Area) → b ≢ Home → t b ≡ s b

-- the gate has been opened before these numbers: nothing is pending, and the store and the places have the bytes that they had
pub record IsOpened (s t : State) (ns : List ℕ) : Type 0 where
  pub opened : IsOpen (t Home) ns
  pub settled : IsSettled (t Home)
  pub same : (i : ℕ) → IsOutside i → (t Home).seen i ≡ (s Home).seen i
  pub logs : SameLogs s t

-- a header's text, behind its gate, has these numbers
pub record IsHeader (text : List ℕ) (ns : List ℕ) : Type 0 where
  pub long : 4 + 4 * length ns ≤ length text
  pub count : count_at (bytes_of text) 0 ≡ length ns
  pub numbers : numbers_from (bytes_of text) 4 (length ns) ≡ ns

-- number k of a header's numbers. Its count begins at this offset
abbrev pub number_at : Bytes → ℕ → ℕ → ℕ
number_at f at k = little_number 4 (window f (at + 4 + 4 * k) 4)

-- number k is of a page, and none before it is the same
pub record IsFit (pages : ℕ) (f : Bytes) (at k : ℕ) : Type 0 where
  pub below : number_at f at k < pages
  pub fresh : (j : ℕ) → j < k → number_at f at j ≢ number_at f at k

-- number k of the header's numbers is the first that isn't fit
pub record IsFirstUnfit (pages : ℕ) (f : Bytes) (at k : ℕ) : Type 0 where
  pub count : count_at f at ≤ 32
  pub there : k < count_at f at
  pub before : (j : ℕ) → j < k → IsFit pages f at j
  pub unfit : IsFit pages f at k → ⊥

-- THE FIRST FIELD THAT IS OUT OF ITS RANGE, by its offset: the count, which is 1 to 32, or else one of the numbers
abbrev pub IsWrongAt : (pages : ℕ) → Bytes → (at wrong : ℕ) → Type 0
IsWrongAt pages f at wrong = ((wrong ≡ at) × ((count_at f at ≡ 0) ⊎ (32 < count_at f at))) ⊎ ((k : ℕ) × (wrong ≡ at + 4 + 4 * k) × IsFirstUnfit pages f at k)

-- THE GATE IS CLOSED, and each other byte is as it was. Nothing is pending that wasn't before, and the other areas are in the same state
pub record IsShut (s t : State) : Type 0 where
  pub closed : (t Home).seen HEADER ≢ 1
  pub bytes : (i : ℕ) → i ≢ HEADER → (t Home).seen i ≡ (s Home).seen i
  pub settled : (i : ℕ) → Spoils (t Home).pending i → Spoils (s Home).pending i
  pub logs : SameLogs s t
