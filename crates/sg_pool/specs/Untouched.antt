-- Where the home area is as it was.
use Rattle.std.specs.Prelude.{◌≡◌, ◌<◌, ℕ, Some}
use Rattle.sg_base.specs.declared.page.TheConstants.{BAND_SIZE}
use Rattle.sg_disk.specs.Disk.{Bytes}
use Rattle.sg_gate.specs.Layout.{HEADER, home_at}
use Rattle.sg_pool.specs.Units.{Geometry, Units, page_at, band_byte}

-- THE HOME AREA IS TOUCHED ONLY WHERE A UNIT WENT HOME: the superblock's slots are as they were, and so is the home of each page and of each
-- band that still has a change which isn't on the disk
pub record IsUntouched (g : Geometry) (before after : Bytes) (m' : Units) : Type 0 where
  pub superblock : (i : ℕ) → i < HEADER → after i ≡ before i
  pub pages : (n o : ℕ) → n < g.pages → m'.page_since n ≡ Some o → page_at after (home_at n) ≡ page_at before (home_at n)
  pub bytes : (b o i : ℕ) → b < g.bands → i < BAND_SIZE → m'.band_since b ≡ Some o → after (band_byte g b i) ≡ before (band_byte g b i)
