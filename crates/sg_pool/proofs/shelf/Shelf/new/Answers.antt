use Rattle.std.proofs.Common.{List, length, sym, ◌∙◌, ap}
use Rattle.std.proofs.lemmas.List.{length-replicate}
use Rattle.sg_pool.specs.Held.{no_slot, frame_of}
use Rattle.sg_pool.specs.declared.slot.Slot.{Slot}
use Rattle.sg_pool.proofs.Fresh.{shelf_new, frame_none}
use Rattle.sg_pool.proofs.shelf.Shelf.new.Goals as goal

pub invariant_of-result : goal.invariant_of-result
invariant_of-result c = record {
  shelf = shelf_new c.args.frames c.args.pages c.args.bands c.in_ok-slots.slots.items c.in_ok-slots.index.items c.in_ok-wins.wins c.in_ok-frames.frames
      c.requires.pages c.requires.bands c.requires.frames.1 c.in_ok-slots.ensures.slots c.in_ok-slots.ensures.index c.in_ok-frames.ensures.pages (c.in_ok-frames.ensures.windows ∙ sym (ap length c.in_ok-wins.ensures.slots ∙ length-replicate c.args.windows no_slot)) c.in_ok-wins.ensures.bands c.in_ok-frames.ensures.none_lent;
}

pub returns-clause-wins : goal.returns-clause-wins
returns-clause-wins c b = ap (λ (t : List Slot). frame_of t b) c.in_ok-wins.ensures.slots ∙ frame_none c.args.windows b

pub returns-clause-windows : goal.returns-clause-windows
returns-clause-windows c = ap length c.in_ok-wins.ensures.slots ∙ length-replicate c.args.windows no_slot
