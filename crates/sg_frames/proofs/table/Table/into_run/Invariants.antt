use Rattle.std.proofs.Common.{◌+◌, ◌*◌, length, vec_len}
use Rattle.sg_frames.specs.Pieces.{start_of}
use Rattle.sg_frames.proofs.Cutting.{MakeRun}
use Rattle.sg_frames.proofs.table.Table.into_run.Given as goal

abbrev pub invariant-slots : goal.invariant-slots
invariant-slots l = MakeRun l.size (start_of l.fn.self.spots l.fn.run.ptr) (length l.fn.run.items + length l.fn.self.spots * l.size) l.slots.items l.run

abbrev pub decreases-slots : goal.decreases-slots
decreases-slots l = vec_len l.slots
