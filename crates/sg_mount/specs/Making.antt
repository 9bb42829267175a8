-- A STORE THAT IS MADE, as one of objects.
use Rattle.std.specs.Prelude.{◌≡◌, ◌⊎◌, []}
use Rattle.std.specs.FinMap.{empty}
use Rattle.sg_disk.specs.Disk.{Image}
use Rattle.sg_ops.specs.Table.{Table}
use Rattle.sg_gate.specs.declared.superblock.Super.{Super}
use Rattle.sg_action.specs.States.{State}
use Rattle.sg_making.specs.Making.{IsNoStore}
use Rattle.sg_phys_laws.specs.Recovers.{RecoversBy, super_in}
use Rattle.sg_store.specs.Engine.{Sizes}
use Rattle.sg_store.specs.Ground.{Ground}
use Rattle.sg_store.specs.Stands.{StandsFor}
use Rattle.sg_shown.specs.Shown.{basis}
use Rattle.sg_attach.specs.Attached.{IsStoreImage}

-- how many pages and bands a superblock says
abbrev pub sizes_of : Super → Sizes
sizes_of s = record { pages = s.pages; bands = s.bands }

-- what a store on a disk rests on, by how many pages and bands it has
abbrev pub ground_of_sizes : Sizes → Ground
ground_of_sizes z = basis RecoversBy z

-- and by its superblock
abbrev pub ground_at : Super → Ground
ground_at s = ground_of_sizes (sizes_of s)

-- AN IMAGE IS A NEW STORE, whatever operations it will be opened with: it has this superblock, it is one of a store whose log has no record, as which it can be
-- opened, and it stands for no objects
pub record IsNewStore (t : Table) (s : Super) (c : Image) : Type 0 where
  pub super : super_in c ≡ s
  pub from : State
  pub image : IsStoreImage t from [] [] c
  pub stands : StandsFor t (ground_at s) c empty

-- AN IMAGE OF A MOMENT of making one: there is no store, or the whole new one
abbrev pub MakesStore : Table → Super → Image → Type 0
MakesStore t s c = IsNoStore c ⊎ IsNewStore t s c
