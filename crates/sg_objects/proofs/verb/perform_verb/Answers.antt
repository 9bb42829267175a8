use Rattle.std.proofs.Common.{sym, refl}
use Rattle.sg_objects.proofs.Performing.{ok_any, as_op, room_as}
use Rattle.sg_objects.proofs.Writing.{on_no_bytes, wrote_as, not_looking}
use Rattle.sg_objects.proofs.verb.perform_verb.Goals as goal
use Rattle.sg_objects.proofs.Shaping.{shapes_as, neither}

pub make_array-requires-clause-there : goal.make_array-requires-clause-there
make_array-requires-clause-there g c = room_as c.in-MakeArray.is c.requires.there

pub returns-in-MakeArray-clause-did : goal.returns-in-MakeArray-clause-did
returns-in-MakeArray-clause-did g c = as_op _ _ _ _ _ _ _ _ _ (sym c.in-MakeArray.is) (ok_any _ _ _ _ _ _ _ _ _ _ _ _ c.args.by.0 tt c.make_array.ensures.did)

pub make_table-requires-clause-there : goal.make_table-requires-clause-there
make_table-requires-clause-there g c = room_as c.in-MakeTable.is c.requires.there

pub returns-in-MakeTable-clause-did : goal.returns-in-MakeTable-clause-did
returns-in-MakeTable-clause-did g c = as_op _ _ _ _ _ _ _ _ _ (sym c.in-MakeTable.is) (ok_any _ _ _ _ _ _ _ _ _ _ _ _ c.args.by.0 tt c.make_table.ensures.did)

pub discard-requires-clause-there : goal.discard-requires-clause-there
discard-requires-clause-there g c = room_as c.in-Discard.is c.requires.there

pub returns-in-Discard-clause-did : goal.returns-in-Discard-clause-did
returns-in-Discard-clause-did g c = as_op _ _ _ _ _ _ _ _ _ (sym c.in-Discard.is) (c.discard.ensures.did)

pub push-requires-clause-there : goal.push-requires-clause-there
push-requires-clause-there g c = room_as c.in-Push.is c.requires.there

pub returns-in-Push-clause-did : goal.returns-in-Push-clause-did
returns-in-Push-clause-did g c = as_op _ _ _ _ _ _ _ _ _ (sym c.in-Push.is) (ok_any _ _ _ _ _ _ _ _ _ _ _ _ c.args.by.0 tt c.push.ensures.did)

pub pop-requires-clause-there : goal.pop-requires-clause-there
pop-requires-clause-there g c = room_as c.in-Pop.is c.requires.there

pub returns-in-Pop-clause-did : goal.returns-in-Pop-clause-did
returns-in-Pop-clause-did g c = as_op _ _ _ _ _ _ _ _ _ (sym c.in-Pop.is) (ok_any _ _ _ _ _ _ _ _ _ _ _ _ c.args.by.0 tt c.pop.ensures.did)

pub set-requires-clause-there : goal.set-requires-clause-there
set-requires-clause-there g c = room_as c.in-Set.is c.requires.there

pub returns-in-Set-clause-did : goal.returns-in-Set-clause-did
returns-in-Set-clause-did g c = as_op _ _ _ _ _ _ _ _ _ (sym c.in-Set.is) (ok_any _ _ _ _ _ _ _ _ _ _ _ _ c.args.by.0 tt c.set.ensures.did)

pub get-requires-clause-there : goal.get-requires-clause-there
get-requires-clause-there g c = room_as c.in-Get.is c.requires.there

pub returns-in-Get-clause-did : goal.returns-in-Get-clause-did
returns-in-Get-clause-did g c = as_op _ _ _ _ _ _ _ _ _ (sym c.in-Get.is) (ok_any _ _ _ _ _ _ _ _ _ _ _ _ c.args.by.0 tt c.get.ensures.did)

pub len-requires-clause-there : goal.len-requires-clause-there
len-requires-clause-there g c = room_as c.in-Len.is c.requires.there

pub returns-in-Len-clause-did : goal.returns-in-Len-clause-did
returns-in-Len-clause-did g c = as_op _ _ _ _ _ _ _ _ _ (sym c.in-Len.is) (ok_any _ _ _ _ _ _ _ _ _ _ _ _ c.args.by.0 tt c.len.ensures.did)

pub apply-requires-clause-there : goal.apply-requires-clause-there
apply-requires-clause-there g c = room_as c.in-Apply.is c.requires.there

pub returns-in-Apply-clause-did : goal.returns-in-Apply-clause-did
returns-in-Apply-clause-did g c = as_op _ _ _ _ _ _ _ _ _ (sym c.in-Apply.is) (ok_any _ _ _ _ _ _ _ _ _ _ _ _ c.args.by.0 tt c.apply.ensures.did)

pub put-requires-clause-there : goal.put-requires-clause-there
put-requires-clause-there g c = room_as c.in-Put.is c.requires.there

pub returns-in-Put-clause-did : goal.returns-in-Put-clause-did
returns-in-Put-clause-did g c = as_op _ _ _ _ _ _ _ _ _ (sym c.in-Put.is) (ok_any _ _ _ _ _ _ _ _ _ _ _ _ c.args.by.0 tt c.put.ensures.did)

pub del-requires-clause-there : goal.del-requires-clause-there
del-requires-clause-there g c = room_as c.in-Del.is c.requires.there

pub returns-in-Del-clause-did : goal.returns-in-Del-clause-did
returns-in-Del-clause-did g c = as_op _ _ _ _ _ _ _ _ _ (sym c.in-Del.is) (ok_any _ _ _ _ _ _ _ _ _ _ _ _ c.args.by.0 tt c.del.ensures.did)

pub find-requires-clause-there : goal.find-requires-clause-there
find-requires-clause-there g c = room_as c.in-Find.is c.requires.there

pub returns-in-Find-clause-did : goal.returns-in-Find-clause-did
returns-in-Find-clause-did g c = as_op _ _ _ _ _ _ _ _ _ (sym c.in-Find.is) (ok_any _ _ _ _ _ _ _ _ _ _ _ _ c.args.by.0 tt c.find.ensures.did)

pub make_blob-requires-clause-there : goal.make_blob-requires-clause-there
make_blob-requires-clause-there g c = room_as c.in-MakeBlob.is c.requires.there

pub returns-in-MakeBlob-clause-did : goal.returns-in-MakeBlob-clause-did
returns-in-MakeBlob-clause-did g c = as_op _ _ _ _ _ _ _ _ _ (sym c.in-MakeBlob.is) (ok_any _ _ _ _ _ _ _ _ _ _ _ _ c.args.by.0 tt c.make_blob.ensures.did)

pub write-requires-clause-there : goal.write-requires-clause-there
write-requires-clause-there g c = room_as c.in-Write.is c.requires.there

pub returns-in-Write-clause-did : goal.returns-in-Write-clause-did
returns-in-Write-clause-did g c = as_op _ _ _ _ _ _ _ _ _ (sym c.in-Write.is) (ok_any _ _ _ _ _ _ _ _ _ _ _ _ c.args.by.0 tt c.write.ensures.did)

pub read-requires-clause-there : goal.read-requires-clause-there
read-requires-clause-there g c = room_as c.in-Read.is c.requires.there

pub returns-in-Read-clause-did : goal.returns-in-Read-clause-did
returns-in-Read-clause-did g c = as_op _ _ _ _ _ _ _ _ _ (sym c.in-Read.is) (ok_any _ _ _ _ _ _ _ _ _ _ _ _ c.args.by.0 tt c.read.ensures.did)

pub resize-requires-clause-there : goal.resize-requires-clause-there
resize-requires-clause-there g c = room_as c.in-Size.is c.requires.there

pub returns-in-Size-clause-did : goal.returns-in-Size-clause-did
returns-in-Size-clause-did g c = as_op _ _ _ _ _ _ _ _ _ (sym c.in-Size.is) (ok_any _ _ _ _ _ _ _ _ _ _ _ _ c.args.by.0 tt c.resize.ensures.did)

pub paint-requires-clause-there : goal.paint-requires-clause-there
paint-requires-clause-there g c = room_as c.in-Paint.is c.requires.there

pub returns-in-Paint-clause-did : goal.returns-in-Paint-clause-did
returns-in-Paint-clause-did g c = as_op _ _ _ _ _ _ _ _ _ (sym c.in-Paint.is) (ok_any _ _ _ _ _ _ _ _ _ _ _ _ c.args.by.0 tt c.paint.ensures.did)

pub returns-in-MakeArray-clause-splits : goal.returns-in-MakeArray-clause-splits
returns-in-MakeArray-clause-splits g c = shapes_as _ _ _ _ _ (sym c.in-MakeArray.is) (neither _ _ _ _ _ _ _ tt)

pub returns-in-MakeTable-clause-splits : goal.returns-in-MakeTable-clause-splits
returns-in-MakeTable-clause-splits g c = shapes_as _ _ _ _ _ (sym c.in-MakeTable.is) (neither _ _ _ _ _ _ _ tt)

pub returns-in-MakeBlob-clause-splits : goal.returns-in-MakeBlob-clause-splits
returns-in-MakeBlob-clause-splits g c = shapes_as _ _ _ _ _ (sym c.in-MakeBlob.is) (neither _ _ _ _ _ _ _ tt)

pub returns-in-Discard-clause-splits : goal.returns-in-Discard-clause-splits
returns-in-Discard-clause-splits g c = shapes_as _ _ _ _ _ (sym c.in-Discard.is) (neither _ _ _ _ _ _ _ tt)

pub returns-in-Push-clause-splits : goal.returns-in-Push-clause-splits
returns-in-Push-clause-splits g c = shapes_as _ _ _ _ _ (sym c.in-Push.is) (neither _ _ _ _ _ _ _ tt)

pub returns-in-Pop-clause-splits : goal.returns-in-Pop-clause-splits
returns-in-Pop-clause-splits g c = shapes_as _ _ _ _ _ (sym c.in-Pop.is) (neither _ _ _ _ _ _ _ tt)

pub returns-in-Set-clause-splits : goal.returns-in-Set-clause-splits
returns-in-Set-clause-splits g c = shapes_as _ _ _ _ _ (sym c.in-Set.is) (neither _ _ _ _ _ _ _ tt)

pub returns-in-Get-clause-splits : goal.returns-in-Get-clause-splits
returns-in-Get-clause-splits g c = shapes_as _ _ _ _ _ (sym c.in-Get.is) (neither _ _ _ _ _ _ _ tt)

pub returns-in-Len-clause-splits : goal.returns-in-Len-clause-splits
returns-in-Len-clause-splits g c = shapes_as _ _ _ _ _ (sym c.in-Len.is) (neither _ _ _ _ _ _ _ tt)

pub returns-in-Apply-clause-splits : goal.returns-in-Apply-clause-splits
returns-in-Apply-clause-splits g c = shapes_as _ _ _ _ _ (sym c.in-Apply.is) (neither _ _ _ _ _ _ _ tt)

pub returns-in-Put-clause-splits : goal.returns-in-Put-clause-splits
returns-in-Put-clause-splits g c = shapes_as _ _ _ _ _ (sym c.in-Put.is) c.put.ensures.splits

pub returns-in-Del-clause-splits : goal.returns-in-Del-clause-splits
returns-in-Del-clause-splits g c = shapes_as _ _ _ _ _ (sym c.in-Del.is) c.del.ensures.splits

pub returns-in-Find-clause-splits : goal.returns-in-Find-clause-splits
returns-in-Find-clause-splits g c = shapes_as _ _ _ _ _ (sym c.in-Find.is) (neither _ _ _ _ _ _ _ tt)

pub returns-in-Write-clause-splits : goal.returns-in-Write-clause-splits
returns-in-Write-clause-splits g c = shapes_as _ _ _ _ _ (sym c.in-Write.is) (neither _ _ _ _ _ _ _ tt)

pub returns-in-Read-clause-splits : goal.returns-in-Read-clause-splits
returns-in-Read-clause-splits g c = shapes_as _ _ _ _ _ (sym c.in-Read.is) (neither _ _ _ _ _ _ _ tt)

pub returns-in-Size-clause-splits : goal.returns-in-Size-clause-splits
returns-in-Size-clause-splits g c = shapes_as _ _ _ _ _ (sym c.in-Size.is) (neither _ _ _ _ _ _ _ tt)

pub returns-in-Paint-clause-splits : goal.returns-in-Paint-clause-splits
returns-in-Paint-clause-splits g c = shapes_as _ _ _ _ _ (sym c.in-Paint.is) (neither _ _ _ _ _ _ _ tt)

pub returns-in-MakeArray-clause-wrote : goal.returns-in-MakeArray-clause-wrote
returns-in-MakeArray-clause-wrote g c = wrote_as _ _ _ _ _ (sym c.in-MakeArray.is) (on_no_bytes _ _ _ _ _ _ _ tt)

pub returns-in-MakeTable-clause-wrote : goal.returns-in-MakeTable-clause-wrote
returns-in-MakeTable-clause-wrote g c = wrote_as _ _ _ _ _ (sym c.in-MakeTable.is) (on_no_bytes _ _ _ _ _ _ _ tt)

pub returns-in-MakeBlob-clause-wrote : goal.returns-in-MakeBlob-clause-wrote
returns-in-MakeBlob-clause-wrote g c = wrote_as _ _ _ _ _ (sym c.in-MakeBlob.is) (on_no_bytes _ _ _ _ _ _ _ tt)

pub returns-in-Discard-clause-wrote : goal.returns-in-Discard-clause-wrote
returns-in-Discard-clause-wrote g c = wrote_as _ _ _ _ _ (sym c.in-Discard.is) (on_no_bytes _ _ _ _ _ _ _ tt)

pub returns-in-Push-clause-wrote : goal.returns-in-Push-clause-wrote
returns-in-Push-clause-wrote g c = wrote_as _ _ _ _ _ (sym c.in-Push.is) (on_no_bytes _ _ _ _ _ _ _ tt)

pub returns-in-Pop-clause-wrote : goal.returns-in-Pop-clause-wrote
returns-in-Pop-clause-wrote g c = wrote_as _ _ _ _ _ (sym c.in-Pop.is) (on_no_bytes _ _ _ _ _ _ _ tt)

pub returns-in-Set-clause-wrote : goal.returns-in-Set-clause-wrote
returns-in-Set-clause-wrote g c = wrote_as _ _ _ _ _ (sym c.in-Set.is) (on_no_bytes _ _ _ _ _ _ _ tt)

pub returns-in-Get-clause-wrote : goal.returns-in-Get-clause-wrote
returns-in-Get-clause-wrote g c = wrote_as _ _ _ _ _ (sym c.in-Get.is) (on_no_bytes _ _ _ _ _ _ _ tt)

pub returns-in-Len-clause-wrote : goal.returns-in-Len-clause-wrote
returns-in-Len-clause-wrote g c = wrote_as _ _ _ _ _ (sym c.in-Len.is) (on_no_bytes _ _ _ _ _ _ _ tt)

pub returns-in-Apply-clause-wrote : goal.returns-in-Apply-clause-wrote
returns-in-Apply-clause-wrote g c = wrote_as _ _ _ _ _ (sym c.in-Apply.is) (on_no_bytes _ _ _ _ _ _ _ tt)

pub returns-in-Put-clause-wrote : goal.returns-in-Put-clause-wrote
returns-in-Put-clause-wrote g c = wrote_as _ _ _ _ _ (sym c.in-Put.is) (on_no_bytes _ _ _ _ _ _ _ tt)

pub returns-in-Del-clause-wrote : goal.returns-in-Del-clause-wrote
returns-in-Del-clause-wrote g c = wrote_as _ _ _ _ _ (sym c.in-Del.is) (on_no_bytes _ _ _ _ _ _ _ tt)

pub returns-in-Find-clause-wrote : goal.returns-in-Find-clause-wrote
returns-in-Find-clause-wrote g c = wrote_as _ _ _ _ _ (sym c.in-Find.is) (on_no_bytes _ _ _ _ _ _ _ tt)

pub returns-in-Write-clause-wrote : goal.returns-in-Write-clause-wrote
returns-in-Write-clause-wrote g c = wrote_as _ _ _ _ _ (sym c.in-Write.is) c.write.ensures.wrote

pub returns-in-Read-clause-wrote : goal.returns-in-Read-clause-wrote
returns-in-Read-clause-wrote g c = wrote_as _ _ _ _ _ (sym c.in-Read.is) (on_no_bytes _ _ _ _ _ _ _ tt)

pub returns-in-Size-clause-wrote : goal.returns-in-Size-clause-wrote
returns-in-Size-clause-wrote g c = wrote_as _ _ _ _ _ (sym c.in-Size.is) c.resize.ensures.wrote

pub returns-in-Paint-clause-wrote : goal.returns-in-Paint-clause-wrote
returns-in-Paint-clause-wrote g c = wrote_as _ _ _ _ _ (sym c.in-Paint.is) c.paint.ensures.wrote

pub returns-in-MakeArray-clause-looks : goal.returns-in-MakeArray-clause-looks
returns-in-MakeArray-clause-looks g c = not_looking _ _ c.in-MakeArray.is refl

pub returns-in-MakeTable-clause-looks : goal.returns-in-MakeTable-clause-looks
returns-in-MakeTable-clause-looks g c = not_looking _ _ c.in-MakeTable.is refl

pub returns-in-MakeBlob-clause-looks : goal.returns-in-MakeBlob-clause-looks
returns-in-MakeBlob-clause-looks g c = not_looking _ _ c.in-MakeBlob.is refl

pub returns-in-Discard-clause-looks : goal.returns-in-Discard-clause-looks
returns-in-Discard-clause-looks g c = not_looking _ _ c.in-Discard.is refl

pub returns-in-Push-clause-looks : goal.returns-in-Push-clause-looks
returns-in-Push-clause-looks g c = not_looking _ _ c.in-Push.is refl

pub returns-in-Pop-clause-looks : goal.returns-in-Pop-clause-looks
returns-in-Pop-clause-looks g c = not_looking _ _ c.in-Pop.is refl

pub returns-in-Set-clause-looks : goal.returns-in-Set-clause-looks
returns-in-Set-clause-looks g c = not_looking _ _ c.in-Set.is refl

pub returns-in-Get-clause-looks : goal.returns-in-Get-clause-looks
returns-in-Get-clause-looks g c = λ _. c.get.ensures.looks

pub returns-in-Len-clause-looks : goal.returns-in-Len-clause-looks
returns-in-Len-clause-looks g c = λ _. c.len.ensures.looks

pub returns-in-Apply-clause-looks : goal.returns-in-Apply-clause-looks
returns-in-Apply-clause-looks g c = not_looking _ _ c.in-Apply.is refl

pub returns-in-Put-clause-looks : goal.returns-in-Put-clause-looks
returns-in-Put-clause-looks g c = not_looking _ _ c.in-Put.is refl

pub returns-in-Del-clause-looks : goal.returns-in-Del-clause-looks
returns-in-Del-clause-looks g c = not_looking _ _ c.in-Del.is refl

pub returns-in-Find-clause-looks : goal.returns-in-Find-clause-looks
returns-in-Find-clause-looks g c = λ _. c.find.ensures.looks

pub returns-in-Write-clause-looks : goal.returns-in-Write-clause-looks
returns-in-Write-clause-looks g c = not_looking _ _ c.in-Write.is refl

pub returns-in-Read-clause-looks : goal.returns-in-Read-clause-looks
returns-in-Read-clause-looks g c = λ _. c.read.ensures.looks

pub returns-in-Size-clause-looks : goal.returns-in-Size-clause-looks
returns-in-Size-clause-looks g c = not_looking _ _ c.in-Size.is refl

pub returns-in-Paint-clause-looks : goal.returns-in-Paint-clause-looks
returns-in-Paint-clause-looks g c = not_looking _ _ c.in-Paint.is refl
