-- A pool as its callers see it.
use Rattle.std.specs.Prelude.{◌≡◌, ◌≢◌, ◌⊎◌, ◌<◌, ℕ, Bool, Option, Some, List, length}
use Rattle.sg_base.specs.declared.area.Area.TheVariants.{Home}
use Rattle.sg_disk.specs.Disk.{Image, View}
use Rattle.sg_log.specs.Frames.{Numbered}
use Rattle.sg_log.specs.Held.{Tail}
use Rattle.sg_pool.specs.declared.pool.Pool.{Pool}
use Rattle.sg_pool.specs.Held.{frame_of, page_in, since_of, page_since_of}
use Rattle.sg_pool.specs.Frames.{window_of}
use Rattle.sg_pool.specs.Moments.{IsMoment}
use Rattle.sg_pool.specs.Shelves.{geometry_of, units, lasts, AreLogged}
use Rattle.sg_pool.specs.Units.{Geometry, Units, IsBacked, IsCleaned, IsBelow}

-- how many pages and bands its store has
abbrev pub sizes : Pool → Geometry
sizes pool = geometry_of pool.shelf

-- THE CONTENTS OF THE STORE: what is in each page and band, whether memory or the disk has it
abbrev pub contents : View → Pool → Units
contents v pool = units (v.now Home).seen pool.shelf

-- the frame that holds a page, and the page that a frame holds
abbrev pub frame_holding : Pool → ℕ → Option ℕ
frame_holding pool n = frame_of pool.shelf.slots.items n

abbrev pub page_held : Pool → ℕ → Option ℕ
page_held pool f = page_in pool.shelf.slots.items f

-- the frames by their last use, the most recently used first, each with whether it is pinned
abbrev pub uses : Pool → List (ℕ × Bool)
uses pool = pool.order.entries

-- the frames but this one keep their pages
abbrev pub OthersKeep : ℕ → (old new : Pool) → Type 0
OthersKeep f old new = (k : ℕ) → k ≢ f → page_held new k ≡ page_held old k

-- the disk has what memory doesn't, of a store of this size
abbrev pub Backs : Geometry → View → Pool → Type 0
Backs g v pool = IsBacked g (v.now Home) (contents v pool)

-- the contents are the same, and some may have gone home
abbrev pub SameContents : (v : View) → (old : Pool) → (w : View) → (new : Pool) → Type 0
SameContents v old w new = IsCleaned (sizes old) (contents v old) (contents w new)

-- the last change of each page and band that isn't on the disk is a record below this number
pub record IsLogged (tail : ℕ) (v : View) (pool : Pool) : Type 0 where
  pub pages : IsBelow (sizes pool) tail (contents v pool)
  pub bands : AreLogged tail pool.shelf

-- an image of a moment of a call of a pool that was so before it
abbrev pub IsPoolMoment : View → Pool → Tail → (ds ps : List Numbered) → Image → Type 0
IsPoolMoment v pool log ds ps c = IsMoment (sizes pool) v log ds ps (lasts pool.shelf) (contents v pool) c

-- this is the oldest change of some page or band that isn't on the disk
abbrev pub IsUnwritten : Pool → ℕ → Type 0
IsUnwritten pool lsn = ((n : ℕ) × (n < pool.shelf.pages) × (page_since_of pool.shelf.slots.items n ≡ Some lsn))
    ⊎ ((b : ℕ) × (b < pool.shelf.bands) × (since_of pool.shelf.wins.slots.items (window_of pool.shelf.wins b) ≡ Some lsn))

-- the window that holds a band, and the band that a window holds
abbrev pub window_holding : Pool → ℕ → Option ℕ
window_holding pool b = window_of pool.shelf.wins b

abbrev pub band_held : Pool → ℕ → Option ℕ
band_held pool w = page_in pool.shelf.wins.slots.items w

-- how many windows there are, and the one into which the next band comes that is in none
abbrev pub window_count : Pool → ℕ
window_count pool = length pool.shelf.wins.slots.items

abbrev pub next_window : Pool → ℕ
next_window pool = pool.shelf.wins.next

-- the number of a band's last change that isn't on the disk
abbrev pub last_of : Pool → ℕ → ℕ
last_of pool b = lasts pool.shelf b

-- the number of a band's oldest change that isn't on the disk
abbrev pub band_since_of : Pool → ℕ → Option ℕ
band_since_of pool b = since_of pool.shelf.wins.slots.items (window_of pool.shelf.wins b)

-- each band but this one that has a change which isn't on the disk had that change, and its last one is what it was
abbrev pub OthersKeepLasts : ℕ → (old new : Pool) → Type 0
OthersKeepLasts b old new = (c o : ℕ) → c ≢ b → band_since_of new c ≡ Some o → (band_since_of old c ≡ Some o) × (last_of new c ≡ last_of old c)

-- the windows are as they were
pub record SameWindows (old new : Pool) : Type 0 where
  pub windows : new.shelf.wins ≡ old.shelf.wins
  pub bytes : new.shelf.frames.windows ≡ old.shelf.frames.windows

-- the page frames are as they were, and their order
pub record SameFrames (old new : Pool) : Type 0 where
  pub slots : new.shelf.slots.items ≡ old.shelf.slots.items
  pub bytes : new.shelf.frames.pages ≡ old.shelf.frames.pages
  pub uses : uses new ≡ uses old

-- BAND b IS IN WINDOW w, and the other windows keep their bands
pub record IsBandBrought (b : ℕ) (old new : Pool) (w : ℕ) : Type 0 where
  pub held : window_holding new b ≡ Some w
  pub others : (v : ℕ) → v ≢ w → band_held new v ≡ band_held old v
