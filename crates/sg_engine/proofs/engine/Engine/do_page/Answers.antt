use Rattle.sg_base.specs.Op.{op_of}
use Rattle.sg_record.specs.Shown.{shown, shown_page}
use Rattle.sg_ops.specs.Table.{Table, table_of}
use Rattle.sg_engine.proofs.Says.{fits_said, says_page}
use Rattle.sg_engine.proofs.engine.Engine.do_page.Goals as goal

pub page_op-op-requires : goal.page_op-op-requires
page_op-op-requires g c = fits_said (shown c.args.r.now) (shown_page c.args.change.now) c.requires.range c.requires.says

pub returns-clause-goes_on : goal.returns-clause-goes_on
returns-clause-goes_on g c o ds ps told e may =
    let t : Table = table_of (λ p. (goal.RecordOp-dyn g p).record_meaning p.1) (λ p. (goal.RangeOp-dyn g p).range_meaning p.1) c.args.ops.now in
    c.change_page.ensures.goes_on o ds ps told e
    (says_page o (g.D.Disk.view c.args.self.now.disk) c.args.self.now.log ds ps c.args.self.now.pool t (shown c.args.r.now) e may.0 (shown_page c.args.change.now) (op_of c.page_op-op.result) c.requires.range c.requires.says c.page_op-op.ensures c.requires.page may.1)

pub returns-clause-moments : goal.returns-clause-moments
returns-clause-moments g c o ds ps k told e early may =
    let t : Table = table_of (λ p. (goal.RecordOp-dyn g p).record_meaning p.1) (λ p. (goal.RangeOp-dyn g p).range_meaning p.1) c.args.ops.now in
    c.change_page.ensures.moments o ds ps k told e early
    (says_page o (g.D.Disk.view c.args.self.now.disk) c.args.self.now.log ds ps c.args.self.now.pool t (shown c.args.r.now) e may.0 (shown_page c.args.change.now) (op_of c.page_op-op.result) c.requires.range c.requires.says c.page_op-op.ensures c.requires.page may.1)
