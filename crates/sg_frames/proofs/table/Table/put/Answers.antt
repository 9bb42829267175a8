use Rattle.std.proofs.Common.{ap, sym, get_or, ◌∙◌, arith}
use Rattle.std.specs.Ptr.{Ptr, null_ptr}
use Rattle.std.specs.Vec.{vec_ptr}
use Rattle.sg_frames.specs.Pieces.{with_entry, bytes_on}
use Rattle.sg_frames.proofs.Lying.{on-same}
use Rattle.sg_frames.proofs.Entries.{below_slots, table_of-set}
use Rattle.sg_frames.proofs.table.Table.put.Goals as goal

pub index_mut-slot-requires : goal.index_mut-slot-requires
index_mut-slot-requires c =
    let t = c.self.inside in let below = below_slots t.start t.size t.slots.items c.args.self.now c.self.view_is c.args.i c.requires.some in
    omega (arith, below, t.slots.ok.0)

pub returns : goal.returns
returns c =
    let t = c.self.inside in let i = c.args.i in let memory = c.args.memory in
    table_of-set t.start t.size t.slots.items i c.put.new.self
    ∙ λ k. with_entry (c.self.view_is k) i (((λ j. bytes_on (get_or (c.self.view_is j).spots i null_ptr) (c.put.ensures j).spot (c.put.ensures j).bytes)
    ∙ ap (λ (p : Ptr). bytes_on p (vec_ptr memory) memory.items) (sym c.requires.spot) ∙ on-same (vec_ptr memory) memory.items) k)
