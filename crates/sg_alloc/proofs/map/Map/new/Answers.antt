use Rattle.std.proofs.Common.{◌+◌, ◌*◌, ◌/◌, ◌<◌, ◌≤◌, ◌^◌, arith}
use Rattle.sg_alloc.proofs.Marks.{new_row}
use Rattle.sg_alloc.proofs.map.Map.new.Goals as goal

pub invariant_of-result : goal.invariant_of-result
invariant_of-result c = (new_row _ (c.args.count / 64 + 1) c.args.count c.in_ok-new.ensures c.ranges.count.fits (omega arith)).kept

pub returns : goal.returns
returns c = (new_row _ (c.args.count / 64 + 1) c.args.count c.in_ok-new.ensures c.ranges.count.fits (omega arith)).flags
