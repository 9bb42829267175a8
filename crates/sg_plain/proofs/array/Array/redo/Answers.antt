use Rattle.sg_plain.proofs.Chunks.{within}
use Rattle.sg_plain.proofs.array.Array.redo.Goals as goal

pub redo_in-requires-clause-there : goal.redo_in-requires-clause-there
redo_in-requires-clause-there g c = within c.self.inside.size c.self.inside.count c.args.index c.self.inside.bytes.items c.args.self.now c.self.view_is c.requires.there
