-- The units of a store: what is in each page and band, whether memory holds it or the home area, and how it stands to the disk.
use Rattle.std.specs.Prelude.{◌≡◌, ◌⊎◌, ◌<◌, ◌+◌, ℕ, Bool, true, false, Option, Some, None, List}
use Rattle.sg_base.specs.Page.{lsn_of}
use Rattle.sg_base.specs.declared.page.TheConstants.{BAND_SIZE}
use Rattle.sg_disk.specs.Disk.{Bytes, Part, window}
use Rattle.sg_gate.specs.Layout.{PAGE, home_at, band_at}
use Rattle.sg_gate.specs.Batch.{IsReady}

-- how many pages and bands a store has
pub record Geometry : Type 0 where
  pub pages : ℕ
  pub bands : ℕ

-- a fact of each page, and of each byte of each band
abbrev pub EachPage : Geometry → (ℕ → Type 0) → Type 0
EachPage g P = (n : ℕ) → n < g.pages → P n

abbrev pub EachByte : Geometry → (ℕ → ℕ → Type 0) → Type 0
EachByte g P = (b i : ℕ) → b < g.bands → i < BAND_SIZE → P b i

-- the bytes of a page that begins here
unfoldable pub page_at : Bytes → ℕ → List ℕ
page_at f from = window f from PAGE

-- where byte i of band b is
abbrev pub band_byte : Geometry → ℕ → ℕ → ℕ
band_byte g b i = band_at g.pages b + i

-- THE UNITS: each page's bytes and each band's; the oldest change of each that isn't on the disk; and which bytes of a band such
-- changes wrote
pub record Units : Type 0 where
  pub page : ℕ → List ℕ
  pub byte : ℕ → ℕ → ℕ
  pub page_since : ℕ → Option ℕ
  pub band_since : ℕ → Option ℕ
  pub marked : ℕ → ℕ → Bool

-- THE DISK BACKS THE UNITS: the header's gate is closed, nothing is pending but in the places, and the home area has each page without a
-- change, and each byte that isn't marked
pub record IsBacked (g : Geometry) (p : Part) (m : Units) : Type 0 where
  pub ready : IsReady p
  pub pages : EachPage g (λ n. m.page_since n ≡ None → page_at p.seen (home_at n) ≡ m.page n)
  pub bytes : EachByte g (λ b i. m.marked b i ≡ false → p.seen (band_byte g b i) ≡ m.byte b i)
  pub clean : (b i : ℕ) → m.band_since b ≡ None → m.marked b i ≡ false

-- THE UNITS ARE WHAT THEY WERE, and some may have gone home: each change that wasn't on the disk still isn't, or now it is
pub record IsCleaned (g : Geometry) (m m' : Units) : Type 0 where
  pub page : EachPage g (λ n. m'.page n ≡ m.page n)
  pub byte : EachByte g (λ b i. m'.byte b i ≡ m.byte b i)
  pub page_since : EachPage g (λ n. (m'.page_since n ≡ m.page_since n) ⊎ (m'.page_since n ≡ None))
  pub band_since : (b : ℕ) → (m'.band_since b ≡ m.band_since b) ⊎ (m'.band_since b ≡ None)
  pub marked : (b i : ℕ) → (m'.marked b i ≡ m.marked b i) ⊎ (m'.marked b i ≡ false)

-- each page with a change that isn't on the disk has a number below this
abbrev pub IsBelow : Geometry → ℕ → Units → Type 0
IsBelow g tail m = (n o : ℕ) → n < g.pages → m.page_since n ≡ Some o → lsn_of (m.page n) < tail

-- UNITS ARE GOING HOME while all records below d are durable: of what opening sees, each page is as it was, or as its unit with the number
-- of its last change below d; and each byte of a band is as it was, or it is marked and its band's last change is below d. No page is torn
pub record IsGoing (g : Geometry) (d : ℕ) (last : ℕ → ℕ) (seen : Bytes) (m : Units) (now : Bytes) : Type 0 where
  pub pages : EachPage g (λ n. (page_at now (home_at n) ≡ page_at seen (home_at n)) ⊎ ((page_at now (home_at n) ≡ m.page n) × (lsn_of (m.page n) < d)))
  pub bytes : EachByte g (λ b i. (now (band_byte g b i) ≡ seen (band_byte g b i)) ⊎ ((m.marked b i ≡ true) × (last b < d)))
