use Rattle.std.proofs.Common.{◌∙◌, arith}
use Rattle.sg_frames.proofs.Entries.{some_below, below_slots, bytes_there}
use Rattle.sg_frames.proofs.table.Table.bytes.Goals as goal

pub index-requires : goal.index-requires
index-requires c =
    let t = c.self.inside in let below = below_slots t.start t.size t.slots.items c.args.self.now c.self.view_is c.args.i (some_below c.args.self.now.bytes c.args.i c.requires) in
    omega (arith, below, t.slots.ok.0)

pub returns : goal.returns
returns c =
    let t = c.self.inside in let below = below_slots t.start t.size t.slots.items c.args.self.now c.self.view_is c.args.i (some_below c.args.self.now.bytes c.args.i c.requires) in
    c.bytes.ensures ∙ bytes_there t.start t.size t.slots.items c.args.self.now c.self.view_is c.args.i c.index.result.now c.requires below c.index.ensures
