use Rattle.std.proofs.Common.{sym}
use Rattle.sg_objects.proofs.Needing.{need_as}
use Rattle.sg_objects.proofs.need.needs_verb.Goals as goal

pub returns-in-MakeArray-clause-read : goal.returns-in-MakeArray-clause-read
returns-in-MakeArray-clause-read g c = need_as (g.P.PageSpace.view c.args.space.now) _ _ (sym c.in-MakeArray.is) c.needs_make_array.ensures.read

pub returns-in-MakeTable-clause-read : goal.returns-in-MakeTable-clause-read
returns-in-MakeTable-clause-read g c = need_as (g.P.PageSpace.view c.args.space.now) _ _ (sym c.in-MakeTable.is) c.needs_make_table.ensures.read

pub returns-in-Discard-clause-read : goal.returns-in-Discard-clause-read
returns-in-Discard-clause-read g c = need_as (g.P.PageSpace.view c.args.space.now) _ _ (sym c.in-Discard.is) c.needs_discard.ensures.read

pub returns-in-Push-clause-read : goal.returns-in-Push-clause-read
returns-in-Push-clause-read g c = need_as (g.P.PageSpace.view c.args.space.now) _ _ (sym c.in-Push.is) c.needs_push.ensures.read

pub returns-in-Pop-clause-read : goal.returns-in-Pop-clause-read
returns-in-Pop-clause-read g c = need_as (g.P.PageSpace.view c.args.space.now) _ _ (sym c.in-Pop.is) c.needs_pop.ensures.read

pub returns-in-Set-clause-read : goal.returns-in-Set-clause-read
returns-in-Set-clause-read g c = need_as (g.P.PageSpace.view c.args.space.now) _ _ (sym c.in-Set.is) c.needs_set.ensures.read

pub returns-in-Get-clause-read : goal.returns-in-Get-clause-read
returns-in-Get-clause-read g c = need_as (g.P.PageSpace.view c.args.space.now) _ _ (sym c.in-Get.is) c.needs_get.ensures.read

pub returns-in-Len-clause-read : goal.returns-in-Len-clause-read
returns-in-Len-clause-read g c = need_as (g.P.PageSpace.view c.args.space.now) _ _ (sym c.in-Len.is) c.needs_len.ensures.read

pub returns-in-Apply-clause-read : goal.returns-in-Apply-clause-read
returns-in-Apply-clause-read g c = need_as (g.P.PageSpace.view c.args.space.now) _ _ (sym c.in-Apply.is) c.needs_apply.ensures.read

pub returns-in-Put-clause-read : goal.returns-in-Put-clause-read
returns-in-Put-clause-read g c = need_as (g.P.PageSpace.view c.args.space.now) _ _ (sym c.in-Put.is) c.needs_put.ensures.read

pub returns-in-Del-clause-read : goal.returns-in-Del-clause-read
returns-in-Del-clause-read g c = need_as (g.P.PageSpace.view c.args.space.now) _ _ (sym c.in-Del.is) c.needs_del.ensures.read

pub returns-in-Find-clause-read : goal.returns-in-Find-clause-read
returns-in-Find-clause-read g c = need_as (g.P.PageSpace.view c.args.space.now) _ _ (sym c.in-Find.is) c.needs_find.ensures.read

pub returns-in-MakeBlob-clause-read : goal.returns-in-MakeBlob-clause-read
returns-in-MakeBlob-clause-read g c = need_as (g.P.PageSpace.view c.args.space.now) _ _ (sym c.in-MakeBlob.is) c.needs_make_blob.ensures.read

pub returns-in-Write-clause-read : goal.returns-in-Write-clause-read
returns-in-Write-clause-read g c = need_as (g.P.PageSpace.view c.args.space.now) _ _ (sym c.in-Write.is) c.needs_write.ensures.read

pub returns-in-Read-clause-read : goal.returns-in-Read-clause-read
returns-in-Read-clause-read g c = need_as (g.P.PageSpace.view c.args.space.now) _ _ (sym c.in-Read.is) c.needs_read.ensures.read

pub returns-in-Size-clause-read : goal.returns-in-Size-clause-read
returns-in-Size-clause-read g c = need_as (g.P.PageSpace.view c.args.space.now) _ _ (sym c.in-Size.is) c.needs_size.ensures.read

pub returns-in-Paint-clause-read : goal.returns-in-Paint-clause-read
returns-in-Paint-clause-read g c = need_as (g.P.PageSpace.view c.args.space.now) _ _ (sym c.in-Paint.is) c.needs_paint.ensures.read
