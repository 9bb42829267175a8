use Rattle.sg_index.proofs.Padding.{padded_text}
use Rattle.sg_index.proofs.text.Text.new.Goals as goal

pub invariant_of-result : goal.invariant_of-result
invariant_of-result c = padded_text _ c.args.text.now _ c.requires c.put_text-len.ensures
