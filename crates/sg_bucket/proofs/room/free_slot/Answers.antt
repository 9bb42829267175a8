use Rattle.sg_bucket.proofs.Rooms.{put_empty}
use Rattle.sg_bucket.proofs.room.free_slot.Goals as goal

pub returns-in-Some : goal.returns-in-Some
returns-in-Some c = put_empty c.args.view.now.page.now c.room-room.result c.args.size c.in-Some.slot c.args.view.now.slotted c.room-room.ensures c.if-room-size.false (c.in-Some.ensures).0 (c.in-Some.ensures).1
