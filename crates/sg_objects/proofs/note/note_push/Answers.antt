use Rattle.std.proofs.Common.{◌∙◌}
use Rattle.sg_objects.proofs.Checks.{wrote_taken}
use Rattle.sg_objects.proofs.note.note_push.Goals as goal

pub returns : goal.returns
returns c = c.set.ensures ∙ wrote_taken c.put_head-size.ensures.wrote
