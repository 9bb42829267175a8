use Rattle.sg_plain.proofs.Chunks.{within}
use Rattle.sg_plain.proofs.array.Array.replace.Goals as goal

pub replace_in-requires-clause-there : goal.replace_in-requires-clause-there
replace_in-requires-clause-there c = within c.self.inside.size c.self.inside.count c.args.index c.self.inside.bytes.items c.args.self.now c.self.view_is c.requires.there
