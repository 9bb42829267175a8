-- The store over pages: what it rests on, and what images say of such stores.
use Rattle.std.specs.Prelude.{◌⊎◌}
use Rattle.sg_store.specs.Ground.{Ground}
use Rattle.sg_store.specs.Engine.{Sizes}
use Rattle.sg_disk.specs.Disk.{Image}
use Rattle.sg_find.specs.declared.fault.OpenFault.TheVariants.{Damaged, UnknownOperation}
use Rattle.sg_gate.specs.declared.superblock.Super.{Super}
use Rattle.sg_geometry.specs.declared.geometry.Geometry.{Geometry}
use Rattle.sg_geometry.specs.Fit.{super_of}
use Rattle.sg_phys_laws.specs.Recovers.{super_in}
use Rattle.sg_open.specs.Refusals.{IsCause}
use Rattle.sg_reopen.specs.Making.{IsBlank}
use Rattle.sg_making.specs.Making.{IsNoStore}
use Rattle.sg_making.specs.declared.making.InitFault.{InitFault}
use Rattle.sg_making.specs.declared.making.InitFault.TheVariants as makes
use Rattle.sg_mount.specs.Making.{ground_of_sizes}
use Rattle.sg_mount.specs.Opening.{IsInHome, sizes_in}
use Rattle.sg_mount.specs.declared.fault.MountFault.{MountFault}
use Rattle.sg_mount.specs.declared.fault.MountFault.TheVariants as faults
use Rattle.sg_pages.specs.Marks.{EndsWithCheckpoint}
use Rattle.sg_attach.specs.Ended.{end_in}
use Rattle.sg_commands.specs.declared.opens.InitRefused.{InitRefused}
use Rattle.sg_commands.specs.declared.opens.InitRefused.TheVariants as inits
use Rattle.sg_commands.specs.declared.opens.OpenRefused.{OpenRefused}
use Rattle.sg_commands.specs.declared.opens.OpenRefused.TheVariants as refusals
use Rattle.sg_commands.specs.Images.{Says}

-- what a store of so many pages and bands rests on
abbrev pub grounds : Sizes → Ground
grounds z = ground_of_sizes z

-- the sizes that a superblock says, and those of an image, by the one that counts
abbrev pub geometry_of : Super → Geometry
geometry_of s = record { pages = s.pages; bands = s.bands; frames = s.frames; windows = s.windows }

abbrev pub geometry_in : Image → Geometry
geometry_in c = geometry_of (super_in c)

-- WHAT IMAGES SAY: which sizes their store has, by the superblock, and where its log ends. The first code of an operation that isn't
-- registered, of those that opening needs. Where it is damaged: the first field of the superblock that is out of its range, the first frame of the
-- log that isn't formed, or whose records may not follow or are of a page or a band that the store doesn't have, or else a page in home, or the
-- first field out of its range in the header of a batch of pages. That neither slot of the superblock is open; and that what isn't written
-- by making a store of these sizes is 0 there. And that the last record of the log is a checkpoint
abbrev pub says : Says
says = record {
  sizes = sizes_in;
  geometry = geometry_in;
  log_end = end_in;
  unknown = λ t c code. IsCause t c (UnknownOperation code);
  damaged = λ t c area at. IsCause t c (Damaged area at) ⊎ IsInHome c area at;
  no_store = IsNoStore;
  blank = λ g c. IsBlank (super_of g) c;
  checkpointed = EndsWithCheckpoint;
}

-- why a store isn't opened, in the program's words
abbrev pub refused_for : MountFault → OpenRefused
refused_for faults.Disk = refusals.DiskFault
refused_for faults.Memory = refusals.Memory
refused_for faults.LogEnd = refusals.LogEnd
refused_for faults.NotAStore = refusals.NotAStore
refused_for (faults.Damaged area at) = refusals.Damaged area at
refused_for (faults.UnknownOperation code) = refusals.UnknownOperation code

-- why no store is made
abbrev pub making_refused_for : InitFault → InitRefused
making_refused_for makes.Exists = inits.Exists
making_refused_for makes.Disk = inits.DiskFault
making_refused_for makes.BadGeometry = inits.DiskFault
