-- What one knows before the first call of an action: what the pages read as, how many are free, and that nothing was freed.
use Rattle.std.specs.Prelude.{◌≡◌, ℕ, ◌+◌, ◌*◌, ◌<◌, ◌≤◌, ◌++◌, List, [], ◌∷◌, length, map, Bool, true, false, Some, None, Result, IfErr, OnOk}
use Rattle.sg_base.specs.Page.{bytes_of}
use Rattle.sg_array.specs.Array.{Array}
use Rattle.sg_base.specs.declared.page.TheConstants.{BAND_SIZE}
use Rattle.sg_blob.specs.Blob.{Blob, IsBlob, OwnsBand}
use Rattle.sg_bucket.specs.Bucket.{Bucket}
use Rattle.sg_bucket.specs.Calls.{IsSound}
use Rattle.sg_catalog.specs.Catalog.{Catalog, IsCatalog, rows, there}
use Rattle.sg_hash.specs.Table.{HashTable, value_at}
use Rattle.sg_space.specs.Memory.{space_of}
use Rattle.sg_space.specs.View.{View, WritesIn}
use Rattle.sg_space.specs.declared.space.SpaceFault.{SpaceFault}
use Rattle.sg_space.specs.declared.space.SpaceFault.TheVariants.{Disk}
use Rattle.sg_tests_steps.specs.Steps.{steps_view}
use Rattle.sg_tests_steps.specs.declared.steps.StepSpace.{StepSpace}

-- so many pages are free, and nothing was freed
pub record HasRoom (v : View) (pages : ℕ) : Type 0 where
  pub free : pages ≤ v.space.pages.free
  pub may_take : v.MayTake

-- an item of this size may be pushed: two pages are free for it
pub record KnowsPush (v : View) (size : ℕ) (a : Array) : Type 0 where
  pub fits : size ≡ a.size
  pub few : length a.items < 1048576
  pub room : HasRoom v 2

-- there are bands for a blob of this length
pub record KnowsBands (v : View) (size : ℕ) (b : Blob) : Type 0 where
  pub free : size ≤ BAND_SIZE * (length b.bands + v.space.bands.free)
  pub may_take : v.MayTake

-- so many bytes may be written from byte `at` on
pub record KnowsPlace (v : View) (at count : ℕ) (b : Blob) : Type 0 where
  pub from : at ≤ length b.bytes
  pub bands : KnowsBands v (at + count) b

-- an object may get this name: none has it, and a page is free
pub record KnowsAdd (v : View) (name : List ℕ) (c : Catalog) : Type 0 where
  pub absent : there name (rows c) ≡ None
  pub room : HasRoom v 1

-- An entry may be put: so many pages are free. The catalogue is there, which begins in page 0.
pub record KnowsPut (v : View) (key : List ℕ) (split : Bool) (t : HashTable) : Type 0 where
  pub catalog : Catalog
  pub stands : IsCatalog v.space.pages.at catalog
  pub room : HasRoom v 1
  pub room_split : split ≡ true → value_at t key ≡ None → HasRoom v 11

-- An entry may be put into a bucket: a page is free. The catalogue is there, which begins in page 0.
pub record KnowsEntry (v : View) (b : Bucket) : Type 0 where
  pub sound : IsSound b
  pub catalog : Catalog
  pub stands : IsCatalog v.space.pages.at catalog
  pub room : HasRoom v 1

-- A bucket's entries may be divided: as many pages are free as it has.
pub record KnowsDivision (v : View) (b : Bucket) : Type 0 where
  pub sound : IsSound b
  pub catalog : Catalog
  pub stands : IsCatalog v.space.pages.at catalog
  pub room : HasRoom v (length b.pages)

-- the page of a list has the bytes for one item more
pub record KnowsItem (item : List ℕ) (items : List (List ℕ)) : Type 0 where
  pub short : length item ≤ 4068
  pub fits : bytes_of (map Some (items ++ item ∷ [])) ≤ 4072

-- no record was written, and all is as it was
pub record Stays {T : Type 0} (old new : StepSpace) (result : Result T SpaceFault) : Type 0 where
  pub records : new.records ≡ old.records
  pub only_disk : IfErr result (λ e. e ≡ Disk)
  pub still : OnOk result (old.changed ≡ false → new.changed ≡ false)
  pub same : OnOk result (space_of new.space ≡ space_of old.space)

-- each band that was written since is one of the blob's
pub record WritesOwn (old new : StepSpace) (root : ℕ) : Type 0 where
  pub blob : Blob
  pub stands : IsBlob (space_of new.space).pages.at (space_of new.space).bands.at root blob
  pub own : WritesIn (OwnsBand blob.bands) (steps_view old) (steps_view new)
