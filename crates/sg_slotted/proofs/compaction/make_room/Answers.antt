use Rattle.std.proofs.Common.{◌≡◌, ap, arith}
use Rattle.sg_base.specs.Page.{slots_of, bytes_of}
use Rattle.sg_slotted.proofs.Layouts.{roomy_small, roomy_enough}
use Rattle.sg_slotted.proofs.Room.{room_in_one_place}
use Rattle.sg_slotted.proofs.compaction.make_room.Goals as goal

pub returns-then-start-directory-clause-room : goal.returns-then-start-directory-clause-room
returns-then-start-directory-clause-room c =
    let e = c.compact.ensures in
    let same : bytes_of (slots_of c.compact.new.page) ≡ bytes_of (slots_of c.args.page.now) = ap bytes_of e.slots in
    let enough = c.requires.enough in
    room_in_one_place c.compact.new.page c.args.need e.slotted e.lost (omega arith)

pub returns-then-start-directory-clause-bytes : goal.returns-then-start-directory-clause-bytes
returns-then-start-directory-clause-bytes c = roomy_small c.args.page.now c.compact.new.page c.args.need (omega arith) c.compact.ensures.bytes

pub returns-else-start-directory-clause-bytes : goal.returns-else-start-directory-clause-bytes
returns-else-start-directory-clause-bytes c = roomy_enough c.args.page.now c.args.need (omega arith)
