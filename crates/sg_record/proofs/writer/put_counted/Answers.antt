use Rattle.std.proofs.Common.{arith}
use Rattle.sg_base.proofs.Overwriting.{wrote_on}
use Rattle.sg_record.proofs.writer.put_counted.Goals as goal

pub returns : goal.returns
returns c = wrote_on (omega arith) c.put_u16-at.ensures c.put_text.ensures
