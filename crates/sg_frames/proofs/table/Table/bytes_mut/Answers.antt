use Rattle.std.proofs.Common.{refl, [], get_or, ◌∙◌, arith}
use Rattle.std.specs.Ptr.{null_ptr}
use Rattle.sg_frames.specs.Pieces.{rewritten, with_entry, bytes_on}
use Rattle.sg_frames.specs.Slots.{with_new}
use Rattle.sg_frames.proofs.Lying.{on-same}
use Rattle.sg_frames.proofs.Entries.{some_below, below_slots, table_of-set, spot_there, bytes_there}
use Rattle.sg_frames.proofs.table.Table.bytes_mut.Goals as goal

pub index_mut-requires : goal.index_mut-requires
index_mut-requires c =
    let t = c.self.inside in let below = below_slots t.start t.size t.slots.items c.args.self.now c.self.view_is c.args.i (some_below c.args.self.now.bytes c.args.i c.requires) in
    omega (arith, below, t.slots.ok.0)

pub returns : goal.returns
returns c =
    let t = c.self.inside in let now = c.args.self.now in let i = c.args.i in let old = c.index_mut.result.now in
    let below = below_slots t.start t.size t.slots.items now c.self.view_is i (some_below now.bytes i c.requires) in
    let spot = spot_there t.start t.size t.slots.items now c.self.view_is i old c.requires below c.index_mut.ensures.value in
    let there = bytes_there t.start t.size t.slots.items now c.self.view_is i old c.requires below c.index_mut.ensures.value in (
      (
        refl,
        λ w. table_of-set t.start t.size t.slots.items i (with_new old w)
            ∙ λ k. with_entry (c.self.view_is k) i (((λ j. bytes_on (get_or (c.self.view_is j).spots i null_ptr) (spot j) (rewritten (there j) w)) ∙ on-same (get_or now.spots i null_ptr) (rewritten (get_or now.bytes i []) w)) k),
      ),
      record { writes_back = tt; value = c.bytes_mut.ensures.value ∙ there },
    )
