-- HISTORY REPEATED IN PARTS: how the units of a pool stand once some of the records are repeated, and others aren't.
use Rattle.std.specs.Prelude.{◌≡◌, ◌<◌, ◌≤◌, ◌++◌, ℕ, true, Some, List, []}
use Rattle.sg_base.specs.declared.page.TheConstants.{BAND_SIZE}
use Rattle.sg_disk.specs.Disk.{Bytes}
use Rattle.sg_gate.specs.Layout.{home_at}
use Rattle.sg_redo.specs.History.{number_of, repeated, rewritten}
use Rattle.sg_pool.specs.Units.{Geometry, Units, EachPage, EachByte, page_at}
use Rattle.sg_engine.specs.Numbers.{onward, AllUnder, AllFrom}
use Rattle.sg_engine.specs.History.{Entry, Homes, entry_number, byte_number, window_number, of_page, of_band, of_byte, IsCoveredFrom}
use Rattle.sg_engine.specs.Kept.{IsPageVersion}
use Rattle.sg_opening.specs.Opening.{last_number}

-- the records are these, repeated already and below this number, and the rest from there on, which aren't
pub record IsRepeatedTo (all : List Entry) (front back : List Entry) (to : ℕ) : Type 0 where
  pub is_all : all ≡ front ++ back
  pub under : AllUnder entry_number to front
  pub behind : AllFrom entry_number to back

-- THE UNITS BEHIND A FRONT of the records, over a home area of which all are records, and which are durable below d: each page and each byte is
-- what the front makes of it from the redo point r on. A page's oldest change that isn't on the disk is one of these, and the home is a
-- version from that change on. A band's is one of these too, each marked byte is covered from there on, and the band's last change is the
-- last of these
pub record AreRepeated (g : Geometry) (first : Homes) (all front : List Entry) (r to d : ℕ) (seen : Bytes) (last : ℕ → ℕ) (m : Units) : Type 0 where
  pub page : EachPage g (λ n. m.page n ≡ repeated (onward number_of r (of_page n front)) (first.page n))
  pub byte : EachByte g (λ b i. m.byte b i ≡ rewritten (onward byte_number r (of_byte b i front)) (first.byte b i))
  pub page_since : (n l : ℕ) → n < g.pages → m.page_since n ≡ Some l → (r ≤ l) × (l < to)
  pub page_home : (n l : ℕ) → n < g.pages → m.page_since n ≡ Some l → IsPageVersion all d l n (first.page n) (page_at seen (home_at n))
  pub band_since : (b l : ℕ) → b < g.bands → m.band_since b ≡ Some l → (r ≤ l) × (l < to)
  pub marked : (b i l : ℕ) → b < g.bands → i < BAND_SIZE → m.band_since b ≡ Some l → m.marked b i ≡ true → IsCoveredFrom l (of_byte b i all)
  pub lasts : (b l : ℕ) → b < g.bands → m.band_since b ≡ Some l → last b ≡ last_number (onward window_number r (of_band b front))
  pub some : (b l : ℕ) → b < g.bands → m.band_since b ≡ Some l → onward window_number r (of_band b front) ≡ [] → ⊥
