use Rattle.sg_plain.proofs.Chunks.{within}
use Rattle.sg_plain.proofs.array.Array.is_accepted.Goals as goal

pub item_in-requires-clause-there : goal.item_in-requires-clause-there
item_in-requires-clause-there g c = within c.self.inside.size c.self.inside.count c.args.index c.self.inside.bytes.items c.args.self.now c.self.view_is c.requires.there
