use Rattle.sg_base.proofs.Splits.{text_none, text_some}
use Rattle.sg_base.proofs.split.split_text.Goals as goal

pub returns-then-bytes-size : goal.returns-then-bytes-size
returns-then-bytes-size c = text_none c.args.size c.args.bytes.now c.if-bytes-size.true

pub returns : goal.returns
returns c = text_some c.args.size c.args.bytes.now c.if-bytes-size.false
