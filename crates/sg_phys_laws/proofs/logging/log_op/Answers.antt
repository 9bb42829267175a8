use Rattle.std.proofs.Common.{Option, subst}
use Rattle.sg_pool.specs.Pooled.{sizes}
use Rattle.sg_record.specs.Changes.{Change as Changing}
use Rattle.sg_phys_laws.specs.Counted.{LiesIn}
use Rattle.sg_ops.specs.Table.{Table, table_of}
use Rattle.sg_record.specs.Shown.{shown, shown_op}
use Rattle.sg_phys_laws.proofs.Lies.{op_asked}
use Rattle.sg_phys_laws.proofs.logging.log_op.Goals as goal

pub returns-clause-logs : goal.returns-clause-logs
returns-clause-logs g c own o ds ps told a =
    let t : Table = table_of (λ p. (goal.RecordOp-dyn g p).record_meaning p.1) (λ p. (goal.RangeOp-dyn g p).range_meaning p.1) c.args.ops.now in
    c.log_to_band.ensures.logs own o ds ps told (op_asked own t o _ _ ds ps _ (shown c.args.r.now) (shown_op c.args.change.now) c.render.new.into a c.requires.says c.laws.ensures c.render.ensures.text)

pub returns-clause-runs : goal.returns-clause-runs
returns-clause-runs g c own o ds ps told a =
    let t : Table = table_of (λ p. (goal.RecordOp-dyn g p).record_meaning p.1) (λ p. (goal.RangeOp-dyn g p).range_meaning p.1) c.args.ops.now in
    c.log_to_band.ensures.runs own o ds ps told (op_asked own t o _ _ ds ps _ (shown c.args.r.now) (shown_op c.args.change.now) c.render.new.into a c.requires.says c.laws.ensures c.render.ensures.text)

pub returns-clause-failed : goal.returns-clause-failed
returns-clause-failed g c o ds ps told e lies is = c.log_to_band.ensures.failed (subst (λ (x : Option Changing). LiesIn (sizes c.args.engine.now.pool) x) c.requires.says lies) is
