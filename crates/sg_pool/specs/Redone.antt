-- The records of a part of the log are repeated on all the units that they change, and images of the moments of that.
use Rattle.std.specs.Prelude.{◌≡◌, ◌⊎◌, ◌<◌, ◌+◌, ◌==◌, ℕ, true, Some, None, List, [], All, filter, map}
use Rattle.std.specs.List.Sorted.{IsStrictlyIncreasing}
use Rattle.sg_base.specs.Page.{lsn_of}
use Rattle.sg_base.specs.declared.area.Area.{Area}
use Rattle.sg_base.specs.declared.area.Area.TheVariants.{Home}
use Rattle.sg_base.specs.declared.page.TheConstants.{BAND_SIZE}
use Rattle.sg_disk.specs.Disk.{Bytes, Image, LeavesPart, Part, View}
use Rattle.sg_gate.specs.Layout.{HEADER, home_at}
use Rattle.sg_gate.specs.Batch.{laid, IsBatch, numbers_of}
use Rattle.sg_log.specs.Frames.{Numbered, HasRecords}
use Rattle.sg_log.specs.Held.{Tail}
use Rattle.sg_ops.specs.Table.{Table}
use Rattle.sg_redo.specs.declared.place.Place.{Place}
use Rattle.sg_redo.specs.History.{OnPage, repeated, since_repeated, rewritten, is_covered}
use Rattle.sg_redo.specs.Places.{page_records, window_records}
use Rattle.sg_redo.specs.Window.{OnWindow, on_byte, since_replayed}
use Rattle.sg_pool.specs.Units.{Geometry, Units, EachPage, EachByte, page_at, band_byte}

-- the numbers of a part's records rise, as they do in a log
abbrev pub AreInOrder : List Place → Type 0
AreInOrder places = IsStrictlyIncreasing (map (λ p. p.lsn) places)

-- each record of a part is one below this number
abbrev pub ArePlacesBelow : ℕ → List Place → Type 0
ArePlacesBelow tail places = All (λ p. p.lsn < tail) places

-- the places of one unit, in their order. A page has its own number, a band the number of pages and its own
abbrev pub places_of : ℕ → List Place → List Place
places_of unit places = filter (λ p. p.unit == unit) places

-- THE RECORDS OF A PART: those of each page and of each band, in their order
pub record PartRecords : Type 0 where
  pub page : ℕ → List OnPage
  pub band : ℕ → List OnWindow

abbrev pub records_of : Geometry → Table → (text : List ℕ) → List Place → PartRecords
records_of g t text places = record {
  page = λ n. page_records t text (places_of n places);
  band = λ b. window_records t text (places_of (g.pages + b) places);
}

-- PAGE n ONCE ITS RECORDS ARE REPEATED: it is what they make of it one after another. Its oldest change that isn't on the disk is the one
-- that it had, or else the first record that was done to it; or it is that record, where the page had gone home before; or there is none,
-- where it went home since
pub record IsPageRedone (n : ℕ) (rs : List OnPage) (m m' : Units) : Type 0 where
  pub page : m'.page n ≡ repeated rs (m.page n)
  pub since : (m'.page_since n ≡ since_repeated rs (m.page n) (m.page_since n)) ⊎ ((m'.page_since n ≡ since_repeated rs (m.page n) None) ⊎ (m'.page_since n ≡ None))

-- these are all the changes of band b that aren't on the disk
pub record HasOnly (b : ℕ) (ws : List OnWindow) (m' : Units) : Type 0 where
  pub since : m'.band_since b ≡ since_replayed ws None
  pub marked : (i : ℕ) → i < BAND_SIZE → m'.marked b i ≡ true → is_covered (on_byte i ws) ≡ true

-- BAND b ONCE ITS CHANGES ARE REPEATED: each byte is that of the last change that covers it, or as it was, and no byte is marked but those
-- that were, and those that are covered. Its oldest change that isn't on the disk is the one that it had, or else the first of these; or
-- these are all, where the band had gone home before; or there is none, where it went home since
pub record IsBandRedone (b : ℕ) (ws : List OnWindow) (m m' : Units) : Type 0 where
  pub byte : (i : ℕ) → i < BAND_SIZE → m'.byte b i ≡ rewritten (on_byte i ws) (m.byte b i)
  pub marked : (i : ℕ) → i < BAND_SIZE → m'.marked b i ≡ true → (m.marked b i ≡ true) ⊎ (is_covered (on_byte i ws) ≡ true)
  pub since : (m'.band_since b ≡ since_replayed ws (m.band_since b)) ⊎ (HasOnly b ws m' ⊎ (m'.band_since b ≡ None))

-- THE UNITS ONCE A PART IS REPEATED: each page and each band is what its own records make of it
pub record IsRedone (g : Geometry) (rs : PartRecords) (m m' : Units) : Type 0 where
  pub pages : EachPage g (λ n. IsPageRedone n (rs.page n) m m')
  pub bands : (b : ℕ) → b < g.bands → IsBandRedone b (rs.band b) m m'

-- each unit has all of its records among these, or none
pub record AreWhole (some rs : PartRecords) : Type 0 where
  pub page : (n : ℕ) → (some.page n ≡ rs.page n) ⊎ (some.page n ≡ [])
  pub band : (b : ℕ) → (some.band b ≡ rs.band b) ⊎ (some.band b ≡ [])

-- SOME UNITS ARE REPEATED, each with all of its records, and the others are as they were
abbrev pub ArePartlyRedone : Geometry → PartRecords → (m m' : Units) → Type 0
ArePartlyRedone g rs m m' = (some : PartRecords) × AreWhole some rs × IsRedone g some m m'

-- the page as it was before its records, or as they make it
abbrev pub IsVersion : List OnPage → (was page : List ℕ) → Type 0
IsVersion rs was page = (page ≡ was) ⊎ (page ≡ repeated rs was)

-- THE HOMES OF PAGES: where a page's oldest change isn't the one that it had, its home has it as it was, or as its records make it
abbrev pub AreHomesKnown : Geometry → (home : Part) → PartRecords → (m m' : Units) → Type 0
AreHomesKnown g home rs m m' = EachPage g (λ n. (m'.page_since n ≡ m.page_since n) ⊎ IsVersion (rs.page n) (m.page n) (page_at home.seen (home_at n)))

-- THE HOME AREA BEHIND REDO: the superblock's slots are as they were. The home of a page that has a change which isn't on the disk is as it was,
-- and the change may be the one that it had; or it has the page as it was before its records, and the change is the first of these that was
-- done. The same of a band
pub record AreHomesExact (g : Geometry) (before after : Bytes) (rs : PartRecords) (m m' : Units) : Type 0 where
  pub superblock : (i : ℕ) → i < HEADER → after i ≡ before i
  pub pages : (n o : ℕ) → n < g.pages → m'.page_since n ≡ Some o →
      (page_at after (home_at n) ≡ page_at before (home_at n)) ⊎ ((m'.page_since n ≡ since_repeated (rs.page n) (m.page n) None) × (page_at after (home_at n) ≡ m.page n))
  pub bands : (b o : ℕ) → b < g.bands → m'.band_since b ≡ Some o →
      ((i : ℕ) → i < BAND_SIZE → after (band_byte g b i) ≡ before (band_byte g b i)) ⊎ ((m'.band_since b ≡ since_replayed (rs.band b) None) × ((i : ℕ) → i < BAND_SIZE → after (band_byte g b i) ≡ m.byte b i))

-- each of these changes is a record below d
abbrev pub AreChangesBelow : ℕ → List OnWindow → Type 0
AreChangesBelow d ws = All (λ w. w.lsn < d) ws

-- UNITS ARE REPEATED while all records below d are durable: of what opening sees, each page is as it was, or as its unit was or is made by
-- its records, with a number below d; and each byte of a band is as it was, or it was marked and its band's last change is below d, or a
-- record covers it and all records of its band are below d. No page is torn
pub record IsRedoing (g : Geometry) (d : ℕ) (last : ℕ → ℕ) (rs : PartRecords) (seen : Bytes) (m : Units) (now : Bytes) : Type 0 where
  pub pages : EachPage g (λ n. (page_at now (home_at n) ≡ page_at seen (home_at n)) ⊎ (IsVersion (rs.page n) (m.page n) (page_at now (home_at n)) × (lsn_of (page_at now (home_at n)) < d)))
  pub bytes : EachByte g (λ b i. (now (band_byte g b i) ≡ seen (band_byte g b i)) ⊎ (((m.marked b i ≡ true) × (last b < d)) ⊎ ((is_covered (on_byte i (rs.band b)) ≡ true) × AreChangesBelow d (rs.band b))))

-- AN IMAGE OF A MOMENT OF REDO: the log has the durable records, the header of an open batch is in range, the units are being repeated, and
-- the third area is as a crash could have left it before. The superblock's slots are as they were
pub record IsRedoMoment (g : Geometry) (v : View) (log : Tail) (ds : List Numbered) (last : ℕ → ℕ) (rs : PartRecords) (m : Units) (c : Image) : Type 0 where
  pub held : HasRecords (c log.area) log.base log.gate ds
  pub header : c Home HEADER ≡ 1 → IsBatch g.pages (numbers_of (c Home))
  pub going : IsRedoing g log.gate last rs (v.now Home).seen m (laid (c Home))
  pub superblock : (i : ℕ) → i < HEADER → c Home i ≡ (v.now Home).seen i
  pub others : (b : Area) → (b ≡ Home → ⊥) → (b ≡ log.area → ⊥) → LeavesPart (v.now b) (c b)
