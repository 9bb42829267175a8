-- The units by what frames and windows hold, and by what reads of the home area give.
use Rattle.std.specs.Prelude.{◌≡◌, ◌⊎◌, ◌<◌, ◌≤◌, ℕ, Option, Some, None, List, [], length, get_or}
use Rattle.sg_disk.specs.Disk.{Bytes, Part}
use Rattle.sg_frames.specs.Held.{Held, NoneLent}
use Rattle.sg_gate.specs.Layout.{home_at}
use Rattle.sg_pool.specs.declared.slot.Slot.{Slot}
use Rattle.sg_pool.specs.declared.windows.Windows.{Windows}
use Rattle.sg_pool.specs.Going.{with_home, IsStored}
use Rattle.sg_pool.specs.Held.{frame_of, page_in, since_of, AreApart, IsIndex, page_of, page_since_of}
use Rattle.sg_pool.specs.Windows.{last_in, marked_in}
use Rattle.sg_pool.specs.Units.{Geometry, Units, page_at, band_byte}
use Rattle.sg_pool.specs.Well.{IsWell}

-- the window that holds the band
abbrev pub window_of : Windows → ℕ → Option ℕ
window_of wins b = frame_of wins.slots.items b

-- what byte i of a band is: the window's, or the home's
abbrev pub byte_in : List (List ℕ) → Option ℕ → ℕ → ℕ → ℕ
byte_in windows None i home = home
byte_in windows (Some w) i home = get_or (get_or windows w []) i 0

-- THE UNITS: a function of what the frames hold and of what a read of the home area gives
abbrev pub units_of : Geometry → Bytes → List Slot → Windows → Held → Units
units_of g seen slots wins frames = record {
  page = λ n. page_of slots frames.pages n (page_at seen (home_at n));
  byte = λ b i. byte_in frames.windows (window_of wins b) i (seen (band_byte g b i));
  page_since = λ n. page_since_of slots n;
  band_since = λ b. since_of wins.slots.items (window_of wins b);
  marked = λ b i. marked_in wins.marks.items (window_of wins b) i;
}

-- the number of each band's last change, 0 of one that is in no window
abbrev pub lasts_of : Windows → ℕ → ℕ
lasts_of wins b = last_in wins.marks.items (window_of wins b)

-- the last change of each band that isn't on the disk is a record below this number
abbrev pub AreBelow : ℕ → Windows → Type 0
AreBelow tail wins = (b o : ℕ) → since_of wins.slots.items (window_of wins b) ≡ Some o → lasts_of wins b < tail

-- THE LAST CHANGES ARE KEPT: each band that has a change which isn't on the disk had one, and its last change is what it was
abbrev pub AreLastsKept : (old new : Windows) → Type 0
AreLastsKept old new = (b o : ℕ) → since_of new.slots.items (window_of new b) ≡ Some o → (since_of old.slots.items (window_of old b) ≡ Some o) × (lasts_of new b ≡ lasts_of old b)

-- each band's oldest change that isn't on the disk still isn't
abbrev pub AreChangesKept : (old new : Windows) → Type 0
AreChangesKept old new = (b o : ℕ) → since_of old.slots.items (window_of old b) ≡ Some o → since_of new.slots.items (window_of new b) ≡ Some o

-- WHAT WENT HOME WAS DURABLE: each band that had a change which wasn't on the disk, and has none now, had its last one below this number
abbrev pub HaveGone : (gate : ℕ) → (old new : Windows) → Type 0
HaveGone gate old new = (b o : ℕ) → since_of old.slots.items (window_of old b) ≡ Some o → since_of new.slots.items (window_of new b) ≡ None → lasts_of old b < gate

-- THE FRAMES AND WHAT THEY HOLD AGREE: none is lent, no page is in two of them, each page is one of the store's, a frame without a page has
-- no change, and the list by page number knows each page. There are as many windows as bands are kept in.
-- Each page in a frame is a page of slots, or zeros
pub record IsShelf (pages bands : ℕ) (slots : List Slot) (index : List (Option ℕ)) (wins : Windows) (frames : Held) : Type 0 where
  pub here : NoneLent frames
  pub many : length frames.pages ≡ length slots
  pub wide : length frames.windows ≡ length wins.slots.items
  pub few : length slots ≤ 16384
  pub apart : AreApart slots
  pub within : (f n : ℕ) → f < length slots → page_in slots f ≡ Some n → n < pages
  pub owned : (f : ℕ) → page_in slots f ≡ None → since_of slots (Some f) ≡ None
  pub most : pages ≤ 1048576
  pub listed : length index ≡ pages
  pub found : IsIndex slots index
  pub most_bands : bands ≤ 65536
  pub listed_bands : length wins.index.items ≡ bands
  pub well : (f n : ℕ) → f < length slots → page_in slots f ≡ Some n → ∥ IsWell (get_or frames.pages f []) ∥₁

-- the frame's page has been written home, or it didn't need to be
pub record IsWritten (slots : List Slot) (frames : Held) (f : ℕ) (p q : Part) : Type 0 where
  pub number : ℕ
  pub holds : page_in slots f ≡ Some number
  pub done : IsStored q (with_home number (get_or frames.pages f []) p.seen)

abbrev pub IsAtHome : List Slot → Held → ℕ → Part → Part → Type 0
IsAtHome slots frames f p q = IsWritten slots frames f p q ⊎ ((q ≡ p) × ((page_in slots f ≡ None) ⊎ (since_of slots (Some f) ≡ None)))
