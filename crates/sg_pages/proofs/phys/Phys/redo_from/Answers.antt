use Rattle.sg_phys.specs.Phys.{IsGiven}
use Rattle.sg_pages.specs.Parts.{parts}
use Rattle.std.proofs.Common.{◌∙◌, sym}
use Rattle.sg_pages.proofs.Marking.{at_tail, at_change}
use Rattle.sg_pages.proofs.phys.Phys.redo_from.Goals as goal

pub returns-then-point-end : goal.returns-then-point-end
returns-then-point-end g c = λ told. at_tail (IsGiven g.D.Disk.told g.D.Presumed.presumed) (parts g.D.Disk.view c.args.self.now) c.args.self.now.some c.redo_point-point.result c.redo_point-point.ensures.exact c.args.lsn
    (c.if-point-end.true ∙ c.tail-end.ensures) told

pub returns-else-point-end : goal.returns-else-point-end
returns-else-point-end g c = λ told. at_change (IsGiven g.D.Disk.told g.D.Presumed.presumed) (parts g.D.Disk.view c.args.self.now) c.args.self.now.some c.redo_point-point.result c.redo_point-point.ensures.exact c.args.lsn
    (λ e. c.if-point-end.false (e ∙ sym c.tail-end.ensures)) c.redo_point-point.ensures.least
