use Rattle.std.proofs.Common.{◌∙◌, arith}
use Rattle.sg_base.proofs.Overwriting.{wrote_on}
use Rattle.sg_objects.proofs.Checks.{wrote_taken}
use Rattle.sg_objects.proofs.note.note_drop.Goals as goal

pub returns : goal.returns
returns c = c.set.ensures ∙ wrote_taken (wrote_on (omega arith) c.put_head-at.ensures.wrote c.put_u32-size.ensures)
