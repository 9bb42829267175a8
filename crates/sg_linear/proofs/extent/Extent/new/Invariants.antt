use Rattle.std.proofs.Common.{◌≡◌, ◌^◌}
use Rattle.sg_linear.proofs.extent.Extent.new.Given as goal

abbrev pub invariant-loop-doubled : goal.invariant-loop-doubled
invariant-loop-doubled l = l.low ≡ 2 ^ l._doubled
