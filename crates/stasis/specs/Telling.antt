-- WHAT IS KNOWN OF A STORE over a disk that tells its contents.
use Rattle.std.specs.Prelude.{ℕ, List}
use Rattle.sg_disk.specs.Disk.{View}
use Rattle.sg_ops.specs.Table.{Table}
use Rattle.sg_model.specs.Objects.{Objects}
-- handed on, for definitions that speak of a store
pub use Rattle.sg_store.specs.declared.engine.Engine.{Ghosts}
pub use Rattle.sg_store.specs.declared.store.Store.{Store}
use Rattle.sg_store.specs.Engine.{Shown}
use Rattle.sg_store.specs.Rests.{Has}

-- A store tells its contents: these transactions are live, these are its objects, with what live transactions did, and these are the durable
-- ones, for which each image stands that a crash may leave now
pub record TellsObjects {E : Type 0} {ghosts : Ghosts E} (t : Table) (s : Store E ghosts) (live : List ℕ) (objects durable : Objects) : Type 0 where
  pub tells : (ghosts.view s.engine).Told
  pub has : Has t s live objects durable

-- what a store shows of its engine, on any disk
abbrev pub shown_of : {E : Type 0} {ghosts : Ghosts E} → Store E ghosts → Shown ghosts.basis
shown_of {ghosts = ghosts} s = ghosts.view s.engine

-- the disk of a store
abbrev pub disk_of : {E : Type 0} {ghosts : Ghosts E} → Store E ghosts → View
disk_of s = (shown_of s).disk
