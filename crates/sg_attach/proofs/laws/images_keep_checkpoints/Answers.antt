use Rattle.sg_phys.specs.Phys.{IsGiven}
use Rattle.sg_pages.specs.Parts.{parts}
use Rattle.sg_attach.proofs.Repeats.{images_marked}
use Rattle.sg_attach.proofs.laws.images_keep_checkpoints.Goals as goal

pub returns : goal.returns
returns g c tell i lsn estimate leaves is = images_marked (IsGiven g.D.Disk.told g.D.Presumed.presumed) (parts g.D.Disk.view c.args.pages.now) c.args.pages.now.some tell i leaves lsn estimate is
