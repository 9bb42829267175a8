use Rattle.std.proofs.Common.{sym}
use Rattle.sg_objects.proofs.Touching.{touch_as}
use Rattle.sg_objects.proofs.touch.touch_verb.Goals as goal

pub returns-in-MakeArray : goal.returns-in-MakeArray
returns-in-MakeArray c = touch_as c.args.seen _ (sym c.in-MakeArray.is) c.only.ensures

pub returns-in-MakeTable : goal.returns-in-MakeTable
returns-in-MakeTable c = touch_as c.args.seen _ (sym c.in-MakeTable.is) c.only-in-MakeTable.ensures

pub returns-in-MakeBlob : goal.returns-in-MakeBlob
returns-in-MakeBlob c = touch_as c.args.seen _ (sym c.in-MakeBlob.is) c.only-in-MakeBlob.ensures

pub returns-in-Discard : goal.returns-in-Discard
returns-in-Discard c = touch_as c.args.seen _ (sym c.in-Discard.is) c.only-in-Discard.ensures

pub returns-in-Push : goal.returns-in-Push
returns-in-Push c = touch_as c.args.seen _ (sym c.in-Push.is) c.of_push.ensures

pub returns-in-Pop : goal.returns-in-Pop
returns-in-Pop c = touch_as c.args.seen _ (sym c.in-Pop.is) c.of_pop.ensures

pub returns-in-Set : goal.returns-in-Set
returns-in-Set c = touch_as c.args.seen _ (sym c.in-Set.is) c.of_item.ensures

pub returns-in-Get : goal.returns-in-Get
returns-in-Get c = touch_as c.args.seen _ (sym c.in-Get.is) c.of_item-in-Get.ensures

pub returns-in-Len : goal.returns-in-Len
returns-in-Len c = touch_as c.args.seen _ (sym c.in-Len.is) c.of_len.ensures

pub returns-in-Apply : goal.returns-in-Apply
returns-in-Apply c = touch_as c.args.seen _ (sym c.in-Apply.is) c.of_item-in-Apply.ensures

pub returns-in-Put : goal.returns-in-Put
returns-in-Put c = touch_as c.args.seen _ (sym c.in-Put.is) c.of_key.ensures

pub returns-in-Del : goal.returns-in-Del
returns-in-Del c = touch_as c.args.seen _ (sym c.in-Del.is) c.of_key-in-Del.ensures

pub returns-in-Find : goal.returns-in-Find
returns-in-Find c = touch_as c.args.seen _ (sym c.in-Find.is) c.of_key-in-Find.ensures

pub returns-in-Write : goal.returns-in-Write
returns-in-Write c = touch_as c.args.seen _ (sym c.in-Write.is) c.of_body.ensures

pub returns-in-Read : goal.returns-in-Read
returns-in-Read c = touch_as c.args.seen _ (sym c.in-Read.is) c.of_body-in-Read.ensures

pub returns-in-Size : goal.returns-in-Size
returns-in-Size c = touch_as c.args.seen _ (sym c.in-Size.is) c.of_body-in-Size.ensures

pub returns-in-Paint : goal.returns-in-Paint
returns-in-Paint c = touch_as c.args.seen _ (sym c.in-Paint.is) c.of_body-in-Paint.ensures
