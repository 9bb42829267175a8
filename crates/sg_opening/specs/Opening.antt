-- OPENING: what it begins with, and what it ends with.
use Rattle.std.specs.Prelude.{◌≡◌, ◌<◌, ℕ, true, false, Ok, None, List, [], ◌∷◌}
use Rattle.sg_base.specs.declared.area.Area.TheVariants.{Home}
use Rattle.sg_disk.specs.Disk.{Bytes, Image}
use Rattle.sg_log.specs.Frames.{Numbered, HasRecords}
use Rattle.sg_gate.specs.Layout.{HEADER, home_at}
use Rattle.sg_gate.specs.Batch.{laid, IsBatch, numbers_of}
use Rattle.sg_gate.specs.Superblock.{superblock}
use Rattle.sg_redo.specs.History.{AllSetNumber, number_of}
use Rattle.sg_redo.specs.Window.{OnWindow}
use Rattle.sg_pool.specs.Units.{Geometry, Units, EachPage, EachByte, page_at, band_byte}
use Rattle.sg_pool.specs.Redone.{PartRecords}
use Rattle.sg_engine.specs.Numbers.{AllUnder, Rises, onward}
use Rattle.sg_engine.specs.History.{Entry, Homes, entry_number, window_number, of_page, of_band, AllWell, AllThere, IsSound}
use Rattle.sg_engine.specs.Kept.{home_in}
use Rattle.sg_redo.specs.Places.{changed_by}
use Rattle.sg_places.specs.Asked.{is_there}
use Rattle.sg_engine.specs.Engine.{Origin, entries, geometry, log_area}

-- each record is of a page or a band of the store
abbrev pub AreThere : (pages bands : ℕ) → List Numbered → Type 0
AreThere pages bands [] = Unit {0}
AreThere pages bands (n ∷ ns) = (is_there pages bands (changed_by n.is.says) ≡ true) × AreThere pages bands ns

-- AN IMAGE CAN BE OPENED with these records of its log, whose tail is there: its superblock is in range, the header of an open batch is,
-- and its home area, with an open batch laid over, is sound from the redo point on and is the first home of that log. Each record sets its
-- page's number, leaves a page a page, and changes a page or a band of the store, or neither
pub record IsOpenable (o : Origin) (r tail : ℕ) (ds : List Numbered) (c : Image) : Type 0 where
  pub super : superblock (c Home) ≡ Ok o.super
  pub held : HasRecords (c (log_area o.super)) o.super.base tail ds
  pub header : c Home HEADER ≡ 1 → IsBatch o.super.pages (numbers_of (c Home))
  pub there : AreThere o.super.pages o.super.bands ds
  pub first : o.first ≡ home_in (geometry o.super) (laid (c Home))
  pub sound : IsSound (geometry o.super) r tail (entries o ds) o.first
  pub rises : Rises entry_number 1 (entries o ds)
  pub ends : AllUnder entry_number tail (entries o ds)
  pub sets : EachPage (geometry o.super) (λ n. AllSetNumber (of_page n (entries o ds)))
  pub well : EachPage (geometry o.super) (λ n. AllWell (of_page n (entries o ds)) (o.first.page n))
  pub within : AllThere (geometry o.super) (entries o ds)

-- THE UNITS ARE FRESH: each is as this home area has it, and so does the disk; there is no change that isn't on the disk
pub record IsFresh (g : Geometry) (first : Homes) (seen : Bytes) (m : Units) : Type 0 where
  pub page : EachPage g (λ n. m.page n ≡ first.page n)
  pub byte : EachByte g (λ b i. m.byte b i ≡ first.byte b i)
  pub page_home : EachPage g (λ n. page_at seen (home_at n) ≡ first.page n)
  pub byte_home : EachByte g (λ b i. seen (band_byte g b i) ≡ first.byte b i)
  pub page_since : EachPage g (λ n. m.page_since n ≡ None)
  pub band_since : (b : ℕ) → b < g.bands → m.band_since b ≡ None
  pub marked : EachByte g (λ b i. m.marked b i ≡ false)

-- the records of a part are those of each page and each band from the redo point on
pub record AreFrom (g : Geometry) (r : ℕ) (es : List Entry) (rs : PartRecords) : Type 0 where
  pub page : EachPage g (λ n. rs.page n ≡ onward number_of r (of_page n es))
  pub band : (b : ℕ) → b < g.bands → rs.band b ≡ onward window_number r (of_band b es)

-- the number of the last of some changes of a band
abbrev pub last_number : List OnWindow → ℕ
last_number [] = 0
last_number (w ∷ []) = w.lsn
last_number (w ∷ x ∷ ws) = last_number (x ∷ ws)
