use Rattle.std.proofs.Common.{◌<◌, ◌≤◌, arith}
use Rattle.sg_base.specs.Op.{op_of}
use Rattle.sg_base.specs.Page.{lsn_of}
use Rattle.sg_ops.specs.Table.{Table, table_of}
use Rattle.sg_redo.proofs.Redone.{had, unfit, done}
use Rattle.sg_redo.proofs.page.apply_page.Goals as goal

pub returns-then-page_lsn-lsn-clause-redone : goal.returns-then-page_lsn-lsn-clause-redone
returns-then-page_lsn-lsn-clause-redone g c =
    let t : Table = table_of (λ p. (goal.RecordOp-dyn g p).record_meaning p.1) (λ p. (goal.RangeOp-dyn g p).range_meaning p.1) c.args.ops.now in
    let le : c.args.lsn ≤ lsn_of c.args.page.now = omega arith in
    had t c.args.lsn (op_of c.args.op.now) c.args.page.now le

pub returns-then-not-change-clause-redone : goal.returns-then-not-change-clause-redone
returns-then-not-change-clause-redone g c =
    let t : Table = table_of (λ p. (goal.RecordOp-dyn g p).record_meaning p.1) (λ p. (goal.RangeOp-dyn g p).range_meaning p.1) c.args.ops.now in
    unfit t c.args.lsn (op_of c.args.op.now) c.args.page.now c.change.new.page c.if-not-change.ensures.fits c.if-not-change.ensures.same

pub returns-clause-redone : goal.returns-clause-redone
returns-clause-redone g c =
    let t : Table = table_of (λ p. (goal.RecordOp-dyn g p).record_meaning p.1) (λ p. (goal.RangeOp-dyn g p).range_meaning p.1) c.args.ops.now in
    let due : lsn_of c.args.page.now < c.args.lsn = omega arith in
    done t c.args.lsn (op_of c.args.op.now) c.args.page.now c.change.new.page c.set_lsn.new.page c.if-not-change.ensures.fits due c.if-not-change.ensures.bytes c.set_lsn.ensures.bytes
