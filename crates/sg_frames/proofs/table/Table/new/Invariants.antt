use Rattle.std.proofs.Common.{◌≤◌, vec_capacity}
use Rattle.sg_frames.proofs.Cutting.{AreCut}
use Rattle.sg_frames.proofs.table.Table.new.Given as goal

abbrev pub invariant-slots : goal.invariant-slots
invariant-slots l = (l.count ≤ vec_capacity l.slots) × AreCut l.start l.at l.size l.fn.run l.k l.slots.items l.rest
