use Rattle.sg_slotted.proofs.Layouts.{stored_is}
use Rattle.sg_slotted.proofs.calls.store.Goals as goal

pub returns-clause-bytes : goal.returns-clause-bytes
returns-clause-bytes c = stored_is c.args.page.now c.make_room.new.page c.fill.new.page c.args.slot c.args.bytes.now c.make_room.ensures.bytes c.fill.ensures.bytes
