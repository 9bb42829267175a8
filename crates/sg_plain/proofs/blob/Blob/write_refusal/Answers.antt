use Rattle.std.proofs.Common.{rules}
use Rattle.sg_plain.proofs.blob.Blob.write_refusal.Goals as goal

pub returns-then-at-len : goal.returns-then-at-len
returns-then-at-len c = search rules
