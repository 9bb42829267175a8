use Rattle.std.proofs.Common.{Some, length}
use Rattle.sg_ops.specs.Shipped.{ramp_meaning}
use Rattle.sg_ops.specs.Table.{byte_of}
use Rattle.sg_ops.proofs.Rendering.{rendered_is}
use Rattle.sg_ops.proofs.entries.entry_render.Goals as goal

pub returns-in-Ramp : goal.returns-in-Ramp
unfolding byte_of
returns-in-Ramp g c =
    rw c.in-Ramp.is (rendered_is (Some ramp_meaning) c.args.arg.now c.args.pos (length c.args.into.now) c.render.new.into c.render.auto.into c.render.ensures)

pub returns-in-Brought : goal.returns-in-Brought
unfolding byte_of
returns-in-Brought g c =
    let op = c.in-Brought.op in
    rw c.in-Brought.is (rendered_is (Some ((goal.RangeOp-dyn g (op.vtable, op.value)).range_meaning op.value)) c.args.arg.now c.args.pos (length c.args.into.now) c.box_render.new.into c.box_render.auto.into c.box_render.ensures)
