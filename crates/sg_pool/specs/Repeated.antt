-- Records of a part of the log are repeated on a page in its frame, or on a band in its window.
use Rattle.std.specs.Prelude.{◌≡◌, ◌≢◌, ◌<◌, ◌-◌, ◌||◌, ℕ, List, Option, Some, None, length, slice_get}
use Rattle.sg_base.specs.declared.page.TheConstants.{BAND_SIZE}
use Rattle.sg_redo.specs.declared.place.Place.{Place}
use Rattle.sg_redo.specs.History.{OnPage, repeated, since_repeated, rewritten, is_covered}
use Rattle.sg_redo.specs.Window.{OnWindow, on_byte, since_replayed}
use Rattle.sg_disk.specs.Disk.{Part}
use Rattle.sg_pool.specs.Units.{Geometry, Units, IsBacked, IsCleaned}

-- the number of the last of some records
abbrev pub lsn_in : Option Place → ℕ
lsn_in None = 0
lsn_in (Some p) = p.lsn

abbrev pub last_lsn : List Place → ℕ
last_lsn places = lsn_in (slice_get places (length places - 1))

-- THE UNITS ONCE RECORDS ARE REPEATED ON PAGE p: it is what they make of it one after another, and the first that was done is its oldest
-- change that isn't on the disk where there was none. Nothing else changes
pub record IsPageRepeated (p : ℕ) (rs : List OnPage) (m m' : Units) : Type 0 where
  pub page : m'.page p ≡ repeated rs (m.page p)
  pub since : m'.page_since p ≡ since_repeated rs (m.page p) (m.page_since p)
  pub other_pages : (n : ℕ) → n ≢ p → m'.page n ≡ m.page n
  pub other_sinces : (n : ℕ) → n ≢ p → m'.page_since n ≡ m.page_since n
  pub byte : (b i : ℕ) → m'.byte b i ≡ m.byte b i
  pub band_since : (b : ℕ) → m'.band_since b ≡ m.band_since b
  pub marked : (b i : ℕ) → m'.marked b i ≡ m.marked b i

-- units may have gone home, where this home area has them, and then the records were repeated on page p
abbrev pub IsCleanedThenPageRepeated : Geometry → Part → (p : ℕ) → List OnPage → Units → Units → Type 0
IsCleanedThenPageRepeated g home p rs m m' = (mid : Units) × IsCleaned g m mid × IsBacked g home mid × IsPageRepeated p rs mid m'

-- THE UNITS ONCE CHANGES ARE REPEATED ON BAND b: each byte is that of the last change that covers it, or as it was; exactly those that are
-- covered are marked besides; and the first change is the band's oldest that isn't on the disk where there was none. Nothing else changes
pub record IsBandRepeated (b : ℕ) (ws : List OnWindow) (m m' : Units) : Type 0 where
  pub byte : (i : ℕ) → i < BAND_SIZE → m'.byte b i ≡ rewritten (on_byte i ws) (m.byte b i)
  pub since : m'.band_since b ≡ since_replayed ws (m.band_since b)
  pub marked : (i : ℕ) → i < BAND_SIZE → m'.marked b i ≡ (m.marked b i || is_covered (on_byte i ws))
  pub other_bytes : (c i : ℕ) → c ≢ b → m'.byte c i ≡ m.byte c i
  pub other_sinces : (c : ℕ) → c ≢ b → m'.band_since c ≡ m.band_since c
  pub other_marks : (c i : ℕ) → c ≢ b → m'.marked c i ≡ m.marked c i
  pub page : (n : ℕ) → m'.page n ≡ m.page n
  pub page_since : (n : ℕ) → m'.page_since n ≡ m.page_since n

-- units may have gone home, where this home area has them, and then the changes were repeated on band b
abbrev pub IsCleanedThenBandRepeated : Geometry → Part → (b : ℕ) → List OnWindow → Units → Units → Type 0
IsCleanedThenBandRepeated g home b ws m m' = (mid : Units) × IsCleaned g m mid × IsBacked g home mid × IsBandRepeated b ws mid m'
