use Rattle.sg_base.proofs.Splits.{number_none, number_some}
use Rattle.sg_base.proofs.split.split_u32.Goals as goal

pub returns-then-bytes-lt4 : goal.returns-then-bytes-lt4
returns-then-bytes-lt4 c = number_none 4 c.args.bytes.now c.if-bytes-lt4.true

pub returns : goal.returns
returns c = number_some 4 c.read_u32.result c.args.bytes.now c.if-bytes-lt4.false c.read_u32.ensures.value
