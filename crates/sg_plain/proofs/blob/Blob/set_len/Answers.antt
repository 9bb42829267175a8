use Rattle.std.proofs.Common.{rules}
use Rattle.sg_plain.proofs.blob.Blob.set_len.Goals as goal

pub returns-clause-ok : goal.returns-clause-ok
returns-clause-ok c = search rules
