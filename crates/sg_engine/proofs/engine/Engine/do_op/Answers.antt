use Rattle.std.proofs.Common.{rules, ◌≡◌}
use Rattle.sg_record.specs.Shown.{shown, shown_op}
use Rattle.sg_ops.specs.Table.{Table, table_of, range_at, rendered}
use Rattle.sg_engine.proofs.Says.{op_lies, says_op}
use Rattle.sg_engine.proofs.engine.Engine.do_op.Goals as goal

pub returns-clause-goes_on : goal.returns-clause-goes_on
returns-clause-goes_on g c o ds ps told e is =
    let t : Table = table_of (λ p. (goal.RecordOp-dyn g p).record_meaning p.1) (λ p. (goal.RangeOp-dyn g p).range_meaning p.1) c.args.ops.now in
    let lies = op_lies (shown c.args.r.now) (shown_op c.args.change.now) c.requires.range c.requires.says in
    let low = lies.0 in
    let text : c.render.new.into ≡ rendered (range_at t c.args.change.now.code) c.args.change.now.arg.now c.args.change.now.position c.args.change.now.count = search rules in
    c.change_band.ensures.goes_on o ds ps told e
    (says_op o (g.D.Disk.view c.args.self.now.disk) c.args.self.now.log ds ps c.args.self.now.pool t (shown c.args.r.now) e is (shown_op c.args.change.now) c.render.new.into c.requires.says c.requires.band text)

pub returns-clause-moments : goal.returns-clause-moments
returns-clause-moments g c o ds ps k told e early is =
    let t : Table = table_of (λ p. (goal.RecordOp-dyn g p).record_meaning p.1) (λ p. (goal.RangeOp-dyn g p).range_meaning p.1) c.args.ops.now in
    let lies = op_lies (shown c.args.r.now) (shown_op c.args.change.now) c.requires.range c.requires.says in
    let low = lies.0 in
    let text : c.render.new.into ≡ rendered (range_at t c.args.change.now.code) c.args.change.now.arg.now c.args.change.now.position c.args.change.now.count = search rules in
    c.change_band.ensures.moments o ds ps k told e early
    (says_op o (g.D.Disk.view c.args.self.now.disk) c.args.self.now.log ds ps c.args.self.now.pool t (shown c.args.r.now) e is (shown_op c.args.change.now) c.render.new.into c.requires.says c.requires.band text)
