-- What an image stands for, over any engine's pages.
use Rattle.std.specs.Prelude.{◌≡◌, ◌⊎◌, ℕ, ◌≤◌, length, Bool, IsTrue, false}
use Rattle.sg_base.specs.Ends.{HasRisen}
use Rattle.sg_base.specs.declared.area.Area.{Area}
use Rattle.sg_disk.specs.Disk as disk
use Rattle.sg_disk.specs.Disk.{Image}
use Rattle.sg_geometry.specs.declared.geometry.Geometry.{Geometry}
use Rattle.sg_ops.specs.Table.{Table as Operations}
use Rattle.sg_model.specs.Objects.{Objects}
use Rattle.sg_run.specs.Run.{Run, objects_after}
use Rattle.sg_store.specs.Ground.{Ground}
use Rattle.sg_store.specs.Engine.{Sizes}
use Rattle.sg_store.specs.Stands as stores

-- the image that reads give
abbrev pub reads_of : disk.View → Image
reads_of v a = (v.now a).seen

-- WHAT AN IMAGE SAYS of the store that it is of: how many pages and bands that has, all of the sizes that it was made with, and where its log ends;
-- when an operation that it needs isn't registered, with the code that is; when what begins at a byte of an area isn't a store's; when there is
-- no store in it, and when one of these sizes can be made; and that the last record of its log is a checkpoint
pub record Says : Type 1 where
  pub sizes : Image → Sizes
  pub geometry : Image → Geometry
  pub log_end : Image → ℕ
  pub unknown : Operations → Image → ℕ → Type 0
  pub damaged : Operations → Image → Area → ℕ → Type 0
  pub no_store : Image → Type 0
  pub blank : Geometry → Image → Type 0
  pub checkpointed : Image → Type 0

module _ (basis : Sizes → Ground) (says : Says) where
  -- AN IMAGE STANDS FOR THESE OBJECTS, as a store of the sizes that it says itself
  abbrev pub StandsFor : Operations → Image → Objects → Type 0
  StandsFor t c m = stores.StandsFor t (basis (says.sizes c)) c m

  -- for none
  abbrev pub StandsForNone : Operations → Image → Type 0
  StandsForNone t c = (m : Objects) → StandsFor t c m → ⊥

  -- for the objects after the first transactions of a run in order of commit, so many or more
  pub record StandsForFirst (t : Operations) (least : ℕ) (x : Run) (c : Image) : Type 0 where
    pub commits : ℕ
    pub enough : least ≤ commits
    pub most : commits ≤ length x.so_far.commits
    pub stands : StandsFor t c (objects_after t commits x)

  -- THE IMAGE THAT READS GIVE IS THAT OF A STORE, for a proof alone: it stands for these objects by these operations
  abbrev pub IsOfStore : Operations → disk.View → Type 0
  IsOfStore t v = (m : Objects) × StandsFor t (reads_of v) m

  -- WHAT IS ASKED OF A CALLER: where the disk tells what it holds, and what is presumed of it, the image that reads give is that of a store. Of any
  -- other disk nothing is asked
  abbrev pub IsPresumed : Operations → (told : Bool) → (presumed : Type 0) → disk.View → Type 0
  IsPresumed t told presumed v = IsTrue told → presumed → IsOfStore t v

-- The disk tells what it holds, and what is presumed of it holds: so its contents are known
abbrev pub IsKnown : (told : Bool) → (presumed : Type 0) → Type 0
IsKnown told presumed = IsTrue told × presumed

-- A FAULT WAS COUNTED: the disk's own count rose, or the disk doesn't tell what it holds, or what is presumed of it, that the image which
-- reads give is that of a store, doesn't hold
abbrev pub CountRose : (told : Bool) → (presumed : Type 0) → (v w : disk.View) → Type 0
CountRose told presumed v w = HasRisen v.faults w.faults ⊎ ((told ≡ false) ⊎ (presumed → ⊥))
