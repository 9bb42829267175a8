use Rattle.std.proofs.Common.{sym, arith}
use Rattle.sg_base.specs.Page.{slots_of}
use Rattle.sg_bucket.proofs.Listed.{key_more, key_past}
use Rattle.sg_bucket.proofs.listing.list_keys.Goals as goal

pub loop-slot-preserved-in_default : goal.loop-slot-preserved-in_default
loop-slot-preserved-in_default c = key_past (slots_of c.args.view.now.page.now) c.loop-slot.slot c.args.keys.now.items (omega arith) (sym c.in_default.ensures) c.loop-slot.invariant

pub loop-slot-preserved : goal.loop-slot-preserved
loop-slot-preserved c = key_more (slots_of c.args.view.now.page.now) c.loop-slot.slot c.in-Some.cell.now c.args.keys.now.items (omega arith) (sym c.in-Some.ensures) c.loop-slot.invariant c.in-Ok.ensures.keys
