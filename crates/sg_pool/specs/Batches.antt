-- Changed pages are put at the places, to go home as one batch.
use Rattle.std.specs.Prelude.{◌≡◌, ◌≢◌, ◌⊎◌, ◌<◌, ◌≤◌, ℕ, Some, None, List, [], length, get_or}
use Rattle.sg_base.specs.declared.area.Area.TheVariants.{Home}
use Rattle.sg_disk.specs.Disk.{Bytes, Image, Part, State}
use Rattle.sg_pool.specs.Units.{Geometry, page_at, band_byte}
use Rattle.sg_gate.specs.Layout.{HEADER, place_at, home_at, IsStore}
use Rattle.sg_gate.specs.Batch.{IsReady, IsWhole}
use Rattle.sg_pool.specs.declared.slot.Slot.{Slot}
use Rattle.sg_pool.specs.Held.{page_in, since_of, page_of}

-- number n is that of a frame below f
abbrev pub IsInFrame : List Slot → ℕ → ℕ → Type 0
IsInFrame slots f n = (h : ℕ) × (h < f) × (h < length slots) × (page_in slots h ≡ Some n)

-- frame h needs no write, or its page is one of these
abbrev pub IsCared : List Slot → List ℕ → ℕ → Type 0
IsCared slots ns h = ((since_of slots (Some h) ≡ None) ⊎ (page_in slots h ≡ None)) ⊎ ((j : ℕ) × (j < length ns) × (page_in slots h ≡ Some (get_or ns j 0)))

-- of the frames from `from` on and below f, all changed pages are among these numbers, each once
pub record AreCollected (slots : List Slot) (from f : ℕ) (ns : List ℕ) : Type 0 where
  pub few : length ns ≤ 32
  pub each : (j : ℕ) → j < length ns → IsInFrame slots f (get_or ns j 0)
  pub different : (j k : ℕ) → j < k → k < length ns → get_or ns j 0 ≢ get_or ns k 0
  pub all : (h : ℕ) → from ≤ h → h < f → IsCared slots ns h

-- and they stand at the places; the store is as it was
pub record ArePlaced (slots : List Slot) (frames : List (List ℕ)) (ns : List ℕ) (p q : Part) : Type 0 where
  pub ready : IsReady q
  pub store : (i : ℕ) → IsStore i → q.seen i ≡ p.seen i
  pub pages : (j : ℕ) → j < length ns → page_at q.seen (place_at j) ≡ page_of slots frames (get_or ns j 0) []

-- a frame holds the page
abbrev pub IsHeld : List Slot → ℕ → Type 0
IsHeld slots n = (h : ℕ) × (h < length slots) × (page_in slots h ≡ Some n)

-- THE STORE AS IT WAS, but that pages of frames may be home
pub record IsPartly (g : Geometry) (slots : List Slot) (frames : List (List ℕ)) (before after : Bytes) : Type 0 where
  pub page : (n : ℕ) → n < g.pages → (page_at after (home_at n) ≡ page_at before (home_at n)) ⊎ ((page_at after (home_at n) ≡ page_of slots frames n []) × IsHeld slots n)
  pub band : (b i : ℕ) → after (band_byte g b i) ≡ before (band_byte g b i)
  pub superblock : (i : ℕ) → i < HEADER → after i ≡ before i

-- a moment at which pages of frames go home: each is home as a whole, or not at all
abbrev pub IsBatchMoment : Geometry → List Slot → List (List ℕ) → State → Image → Type 0
IsBatchMoment g slots frames s c = (store : Bytes) × IsPartly g slots frames (s Home).seen store × IsWhole s g.pages store c

-- each changed page of the frames from `from` on and below `to` is home
pub record AreHome (g : Geometry) (slots : List Slot) (frames : List (List ℕ)) (from to : ℕ) (p q : Part) : Type 0 where
  pub ready : IsReady q
  pub partly : IsPartly g slots frames p.seen q.seen
  pub written : (h n : ℕ) → from ≤ h → h < to → page_in slots h ≡ Some n → (since_of slots (Some h) ≡ None) ⊎ (page_at q.seen (home_at n) ≡ page_of slots frames n [])
