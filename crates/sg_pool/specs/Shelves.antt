-- The units of a shelf.
use Rattle.std.specs.Prelude.{◌≡◌, ◌<◌, ℕ, Bool, IsTrue, Some, [], Result, Ok, Err, length, get_or}
use Rattle.sg_base.specs.Page.{lsn_of}
use Rattle.sg_base.specs.Ends.{HasRisen}
use Rattle.sg_base.specs.declared.area.Area.{Area}
use Rattle.sg_base.specs.declared.area.Area.TheVariants.{Home}
use Rattle.sg_disk.specs.Disk.{Bytes, View}
use Rattle.sg_gate.specs.Layout.{home_at}
use Rattle.sg_pool.specs.Units.{page_at, Geometry, Units, IsBacked}
use Rattle.sg_pool.specs.Frames.{AreBelow, units_of, lasts_of}
use Rattle.sg_pool.specs.Well.{IsWell}
use Rattle.sg_pool.specs.declared.fault.PoolFault.{PoolFault}
use Rattle.sg_pool.specs.declared.fault.PoolFault.TheVariants.{Disk, Damaged, Memory}
use Rattle.sg_pool.specs.declared.shelf.Shelf.{Shelf}
use Rattle.sg_pool.specs.Held.{page_in, since_of}
use Rattle.sg_pool.specs.Windows.{last_in}

abbrev pub geometry_of : Shelf → Geometry
geometry_of s = record { pages = s.pages; bands = s.bands }

abbrev pub units : Bytes → Shelf → Units
units seen s = units_of (geometry_of s) seen s.slots.items s.wins s.frames

abbrev pub lasts : Shelf → ℕ → ℕ
lasts s = lasts_of s.wins

-- the last change of each band that isn't on the disk is a record below this number
abbrev pub AreLogged : ℕ → Shelf → Type 0
AreLogged tail s = AreBelow tail s.wins

-- the change of the page in frame f that isn't on the disk is durable in the log, if there is one: its number is below this
abbrev pub IsFrameDurable : (gate : ℕ) → Shelf → ℕ → Type 0
IsFrameDurable gate s f = (o : ℕ) → since_of s.slots.items (Some f) ≡ Some o → lsn_of (get_or s.frames.pages f []) < gate

-- and the last one of the band in window w
abbrev pub IsWindowDurable : (gate : ℕ) → Shelf → ℕ → Type 0
IsWindowDurable gate s w = (o : ℕ) → since_of s.wins.slots.items (Some w) ≡ Some o → last_in s.wins.marks.items (Some w) < gate

-- in a state of the disk
abbrev pub units_at : View → Shelf → Units
units_at v s = units (v.now Home).seen s

abbrev pub IsBackedAt : Geometry → View → Shelf → Type 0
IsBackedAt g v s = IsBacked g (v.now Home) (units_at v s)

-- the pool is told on: the call didn't answer Disk
abbrev pub OnTold : {T : Type 0} → Result T PoolFault → Type 0 → Type 0
OnTold (Ok x) P = P
OnTold (Err Disk) P = Unit {0}
OnTold (Err (Damaged n)) P = P
OnTold (Err Memory) P = P

-- a read of a page into a frame fails where the disk does, or where the page isn't one
abbrev pub LoadFails : Bool → (n : ℕ) → View → View → PoolFault → Type 0
LoadFails told n old new Disk = HasRisen old.faults new.faults
LoadFails told n old new (Damaged page) = (page.0 ≡ n) × (IsTrue told → IsWell (page_at (old.now Home).seen (home_at n)) → ⊥)
LoadFails told n old new Memory = ⊥

-- and a page is brought into a frame: it fails so, said of the unit
abbrev pub BringFails : Bool → Area → (n : ℕ) → View → View → Shelf → PoolFault → Type 0
BringFails told area n old new s Disk = HasRisen old.faults new.faults
BringFails told area n old new s (Damaged page) = (page.0 ≡ n) × (IsTrue told → (area ≡ Home → ⊥) → IsBacked (geometry_of s) (old.now Home) (units (old.now Home).seen s) → IsWell ((units (old.now Home).seen s).page n) → ⊥)
BringFails told area n old new s Memory = ⊥

-- the frames hold the same pages, with the same bytes, and nothing else has changed but the sinces of pages
pub record IsSameShelf (old new : Shelf) : Type 0 where
  pub geometry : geometry_of new ≡ geometry_of old
  pub count : length new.slots.items ≡ length old.slots.items
  pub pages : (h : ℕ) → page_in new.slots.items h ≡ page_in old.slots.items h
  pub frames : new.frames ≡ old.frames
  pub wins : new.wins ≡ old.wins
