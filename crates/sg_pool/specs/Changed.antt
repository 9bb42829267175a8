-- A record is done to a page in its frame, or to a band in its window.
use Rattle.std.specs.Prelude.{◌≡◌, ◌≢◌, ◌⊎◌, ◌↔◌, ◌<◌, ℕ, Bool, true, false, Some, List, slice_set, unwrap_or, length}
use Rattle.sg_base.specs.declared.page.TheConstants.{BAND_SIZE}
use Rattle.sg_disk.specs.Disk.{Part, put}
use Rattle.sg_segment.specs.Runs.{IsWithin}
use Rattle.sg_redo.specs.History.{OnPage, redone, since_after}
use Rattle.sg_pool.specs.declared.slot.Slot.{Slot}
use Rattle.sg_pool.specs.Held.{page_in, since_of}
use Rattle.sg_pool.specs.Units.{Geometry, Units, IsBacked, IsCleaned}

-- the frames once that was done to the page of one of them, or wasn't
abbrev pub slots_after : (is_done : Bool) → List Slot → (f lsn : ℕ) → List Slot
slots_after true slots f lsn = slice_set slots f (record { number = page_in slots f; since = Some (unwrap_or (since_of slots (Some f)) lsn) })
slots_after false slots f lsn = slots

-- THE UNITS ONCE A RECORD IS DONE TO PAGE p: it is redone there, and it is the page's oldest change that isn't on the disk where it changed
-- the page and there was none. Nothing else changes
pub record IsChanged (p : ℕ) (r : OnPage) (m m' : Units) : Type 0 where
  pub page : m'.page p ≡ redone r (m.page p)
  pub since : m'.page_since p ≡ since_after r (m.page p) (m.page_since p)
  pub other_pages : (n : ℕ) → n ≢ p → m'.page n ≡ m.page n
  pub other_sinces : (n : ℕ) → n ≢ p → m'.page_since n ≡ m.page_since n
  pub byte : (b i : ℕ) → m'.byte b i ≡ m.byte b i
  pub band_since : (b : ℕ) → m'.band_since b ≡ m.band_since b
  pub marked : (b i : ℕ) → m'.marked b i ≡ m.marked b i

-- units may have gone home, where this home area has them, and then the record r was done to page p
abbrev pub IsCleanedThenChanged : Geometry → (home : Part) → (p : ℕ) → OnPage → Units → Units → Type 0
IsCleanedThenChanged g home p r m m' = (mid : Units) × IsCleaned g m mid × IsBacked g home mid × IsChanged p r mid m'

-- THE UNITS ONCE BYTES ARE WRITTEN TO BAND b from byte `at` on, as record `lsn` does: they are there, and marked; the record is the band's
-- oldest change that isn't on the disk where there was none. Nothing else changes
pub record IsWritten (b lsn at : ℕ) (bytes : List ℕ) (m m' : Units) : Type 0 where
  pub byte : (i : ℕ) → i < BAND_SIZE → m'.byte b i ≡ put at bytes (m.byte b) i
  pub since : m'.band_since b ≡ Some (unwrap_or (m.band_since b) lsn)
  pub marked : (i : ℕ) → m'.marked b i ≡ true ↔ ((m.marked b i ≡ true) ⊎ IsWithin at (length bytes) i)
  pub other_bytes : (c i : ℕ) → c ≢ b → m'.byte c i ≡ m.byte c i
  pub other_sinces : (c : ℕ) → c ≢ b → m'.band_since c ≡ m.band_since c
  pub other_marks : (c i : ℕ) → c ≢ b → m'.marked c i ≡ m.marked c i
  pub page : (n : ℕ) → m'.page n ≡ m.page n
  pub page_since : (n : ℕ) → m'.page_since n ≡ m.page_since n

-- other units may have gone home, where this home area has them, and then bytes were written to band b
abbrev pub IsCleanedThenWritten : Geometry → (home : Part) → (b lsn at : ℕ) → List ℕ → Units → Units → Type 0
IsCleanedThenWritten g home b lsn at bytes m m' = (mid : Units) × IsCleaned g m mid × IsBacked g home mid × (mid.band_since b ≡ m.band_since b) × IsWritten b lsn at bytes mid m'
