use Rattle.std.proofs.Common.{true}
use Rattle.sg_ops.specs.Table.{table_of}
use Rattle.sg_commands.specs.Images.{IsOfStore}
use Rattle.sg_commands.specs.Stores.{grounds, says}
use Rattle.sg_commands.specs.Words.{stop_after}
use Rattle.sg_top.proofs.top.stasis.Given as goal

abbrev pub ghosts-serve_pages-O-Origin : goal.ghosts-serve_pages-O-Origin
ghosts-serve_pages-O-Origin g a = record { known = true; passes = stop_after a.words.now; calls = (g.D.Disk.view a.disk).calls; faults = (g.D.Disk.view a.disk).faults }

-- what is presumed of the disk: that the image which reads give at the call stands for objects
abbrev pub ghosts-serve_pages-O-Presumes : goal.ghosts-serve_pages-O-Presumes
ghosts-serve_pages-O-Presumes g a = record {
  presumed = IsOfStore grounds says (table_of (λ z. (g.dyn-1.0.entry z.0).1.record_meaning z.1) (λ z. (g.dyn-2.0.entry z.0).1.range_meaning z.1) a.ops) (g.D.Disk.view a.disk);
}
