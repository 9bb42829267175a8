use Rattle.sg_disk.proofs.Moments.{seen_image}
use Rattle.sg_ops.specs.Table.{Table, table_of}
use Rattle.sg_find.specs.Synced.{reads}
use Rattle.sg_engine.specs.Cut.{cut_at}
use Rattle.sg_reopen.specs.Again.{origin_at}
use Rattle.sg_reopen.proofs.OpenedOver as again
use Rattle.sg_reopen.proofs.OpenedOver.{both_ok}
use Rattle.sg_reopen.proofs.reopening.reopen.Goals as goal

pub returns-clause-runs : goal.returns-clause-runs
returns-clause-runs g c o ds all told is over =
    let t : Table = table_of (λ p. (goal.RecordOp-dyn g p).record_meaning p.1) (λ p. (goal.RangeOp-dyn g p).range_meaning p.1) c.args.ops.now in
    let v = g.D.Disk.view c.args.disk.now in
    let opens = again.opens t o ds all v is over in
    both_ok c.open.result
    (c.open.ensures.opens (origin_at (cut_at o over.stand over.gone) (reads v)) over.again.stands.tail over.again.stands.records told is.says opens)
    (c.open.ensures.allowed (origin_at (cut_at o over.stand over.gone) (reads v)) over.again.stands.tail over.again.stands.records told is.says opens (again.within t o ds all v is over))
    (λ e engine allowed. again.runs t o ds all v is over (g.D.Disk.view c.open.new.disk) e.log e.pool engine allowed)

pub returns-clause-refused : goal.returns-clause-refused
returns-clause-refused g c o ds all told is over =
    let t : Table = table_of (λ p. (goal.RecordOp-dyn g p).record_meaning p.1) (λ p. (goal.RangeOp-dyn g p).range_meaning p.1) c.args.ops.now in
    let v = g.D.Disk.view c.args.disk.now in
    c.open.ensures.refused (origin_at (cut_at o over.stand over.gone) (reads v)) over.again.stands.tail over.again.stands.records told is.says (again.opens t o ds all v is over)

pub returns-clause-moments : goal.returns-clause-moments
returns-clause-moments g c o ds all told is each =
    let t : Table = table_of (λ p. (goal.RecordOp-dyn g p).record_meaning p.1) (λ p. (goal.RangeOp-dyn g p).range_meaning p.1) c.args.ops.now in
    let v = g.D.Disk.view c.args.disk.now in
    let over = each (reads v) (seen_image v (g.met.D.Disk.reads c.args.disk.now told)) in
    again.opening_over t o ds all v is over (g.D.Disk.view c.open.new.disk) each
    (c.open.ensures.moments (origin_at (cut_at o over.stand over.gone) (reads v)) over.again.stands.tail over.again.stands.records told is.says (again.opens t o ds all v is over))

pub returns-clause-steps : goal.returns-clause-steps
returns-clause-steps g c o ds all told is over =
    let t : Table = table_of (λ p. (goal.RecordOp-dyn g p).record_meaning p.1) (λ p. (goal.RangeOp-dyn g p).range_meaning p.1) c.args.ops.now in
    let v = g.D.Disk.view c.args.disk.now in
    c.open.ensures.steps (origin_at (cut_at o over.stand over.gone) (reads v)) over.again.stands.tail over.again.stands.records told is.says (again.opens t o ds all v is over)
