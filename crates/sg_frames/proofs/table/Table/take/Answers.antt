use Rattle.std.proofs.Common.{get_or, ◌∙◌, arith}
use Rattle.std.specs.Ptr.{null_ptr}
use Rattle.sg_frames.specs.Pieces.{with_entry, bytes_on}
use Rattle.sg_frames.proofs.Lying.{on-none}
use Rattle.sg_frames.proofs.Entries.{some_below, below_slots, table_of-set, spot_there, bytes_there}
use Rattle.sg_frames.proofs.table.Table.take.Goals as goal

pub index_mut-slot-requires : goal.index_mut-slot-requires
index_mut-slot-requires c =
    let t = c.self.inside in let below = below_slots t.start t.size t.slots.items c.args.self.now c.self.view_is c.args.i (some_below c.args.self.now.bytes c.args.i c.requires) in
    omega (arith, below, t.slots.ok.0)

pub returns-clause-spot : goal.returns-clause-spot
returns-clause-spot c =
    let t = c.self.inside in let now = c.args.self.now in let old = c.index_mut-slot.result.now in
    let below = below_slots t.start t.size t.slots.items now c.self.view_is c.args.i (some_below now.bytes c.args.i c.requires) in
    c.take.ensures.spot ∙ spot_there t.start t.size t.slots.items now c.self.view_is c.args.i old c.requires below c.index_mut-slot.ensures.value

pub returns-clause-bytes : goal.returns-clause-bytes
returns-clause-bytes c =
    let t = c.self.inside in let now = c.args.self.now in let old = c.index_mut-slot.result.now in
    let below = below_slots t.start t.size t.slots.items now c.self.view_is c.args.i (some_below now.bytes c.args.i c.requires) in
    c.take.ensures.bytes ∙ bytes_there t.start t.size t.slots.items now c.self.view_is c.args.i old c.requires below c.index_mut-slot.ensures.value

pub returns-clause-left : goal.returns-clause-left
returns-clause-left c =
    let t = c.self.inside in let i = c.args.i in let now = c.args.self.now in let new = c.take.new.self in
    table_of-set t.start t.size t.slots.items i new
    ∙ λ k. with_entry (c.self.view_is k) i (((λ j. bytes_on (get_or (c.self.view_is j).spots i null_ptr) new.spot (c.take.ensures.left j)) ∙ on-none (get_or now.spots i null_ptr) new.spot) k)
