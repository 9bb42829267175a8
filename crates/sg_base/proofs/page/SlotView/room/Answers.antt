use Rattle.sg_base.proofs.Slots.{room_by_fields}
use Rattle.sg_base.proofs.page.SlotView.room.Goals as goal

pub returns : goal.returns
returns c = rw (c.u16_at.ensures, c.u16_at-2.ensures, c.u16_at-3.ensures) (room_by_fields c.args.self.now.page.now c.args.self.now.slotted)
