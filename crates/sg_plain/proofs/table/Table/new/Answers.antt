use Rattle.std.proofs.Common.{ap}
use Rattle.sg_plain.specs.Tables.{entries_of}
use Rattle.sg_plain.proofs.table.Table.new.Goals as goal

pub returns : goal.returns
returns c = ap entries_of c.new.ensures.empty
