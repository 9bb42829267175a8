use Rattle.sg_base.proofs.Splits.{number_none, number_some}
use Rattle.sg_base.proofs.split.split_u64.Goals as goal

pub returns-then-bytes-lt8 : goal.returns-then-bytes-lt8
returns-then-bytes-lt8 c = number_none 8 c.args.bytes.now c.if-bytes-lt8.true

pub returns : goal.returns
returns c = number_some 8 c.read_u64.result c.args.bytes.now c.if-bytes-lt8.false c.read_u64.ensures.value
