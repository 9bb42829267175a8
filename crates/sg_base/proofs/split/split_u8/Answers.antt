use Rattle.std.proofs.Common.{arith}
use Rattle.std.specs.Prelude.{slice_index}
use Rattle.sg_base.proofs.Splits.{number_none, number_some}
use Rattle.sg_base.proofs.split.split_u8.Goals as goal

pub returns-then-bytes-lt1 : goal.returns-then-bytes-lt1
returns-then-bytes-lt1 c = number_none 1 c.args.bytes.now c.if-bytes-lt1.true

pub returns : goal.returns
returns c = number_some 1 (slice_index c.args.bytes.now 0) c.args.bytes.now c.if-bytes-lt1.false (omega arith)
