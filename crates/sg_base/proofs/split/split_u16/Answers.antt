use Rattle.sg_base.proofs.Splits.{number_none, number_some}
use Rattle.sg_base.proofs.split.split_u16.Goals as goal

pub returns-then-bytes-lt2 : goal.returns-then-bytes-lt2
returns-then-bytes-lt2 c = number_none 2 c.args.bytes.now c.if-bytes-lt2.true

pub returns : goal.returns
returns c = number_some 2 c.read_u16.result c.args.bytes.now c.if-bytes-lt2.false c.read_u16.ensures.value
