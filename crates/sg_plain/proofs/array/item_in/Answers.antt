use Rattle.sg_plain.proofs.Chunks.{item_cut}
use Rattle.sg_plain.proofs.array.item_in.Goals as goal

pub returns-clause-item : goal.returns-clause-item
returns-clause-item c = item_cut c.args.size c.args.count c.args.index c.args.bytes.now c.requires.there c.requires.whole
