use Rattle.std.proofs.Common.{◌∙◌}
use Rattle.sg_slotted.proofs.Layouts.{compacted_is}
use Rattle.sg_slotted.proofs.compaction.compact.Goals as goal

pub returns-clause-bytes : goal.returns-clause-bytes
returns-clause-bytes c = compacted_is c.args.page.now c.new.result.page.now c.rebuild.new.page (c.new.ensures ∙ c.copy_from_slice.ensures.after) c.rebuild.ensures.bytes
