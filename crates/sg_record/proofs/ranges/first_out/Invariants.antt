use Rattle.std.proofs.Common.{◌≡◌, length}
use Rattle.sg_record.specs.Ranges.{first_out}
use Rattle.sg_record.proofs.ranges.first_out.Given as goal

-- the fields before the rest are in their ranges
abbrev pub invariant-loop-field : goal.invariant-loop-field
invariant-loop-field l = first_out l.rest ≡ first_out l.fields

abbrev pub decreases-loop-field : goal.decreases-loop-field
decreases-loop-field l = length l.rest
