use Rattle.std.proofs.Common.{ap, ◌∙◌}
use Rattle.sg_disk.specs.Disk as disk
use Rattle.sg_commands.specs.declared.objects.Listing.TheVariants.{Text, Summary}
use Rattle.sg_commands.specs.Top.{outside}
use Rattle.sg_commands.proofs.Endings.{account_of, never_usage}
use Rattle.sg_commands.proofs.Making.{said_none}
use Rattle.sg_commands.proofs.Logged.{lists_none}
use Rattle.sg_commands.proofs.Written as objects
use Rattle.sg_commands.proofs.Sized.{makes_none}
use Rattle.sg_commands.proofs.Wanting.{not_begun, not_drawn, not_spent}
use Rattle.sg_commands.proofs.top.serve.Goals as goal

pub returns-in-Ok-Run-clause-run : goal.returns-in-Ok-Run-clause-run
returns-in-Ok-Run-clause-run g c are_run =
    account_of g.E.Engine.basis g.E.Opens.says _ g.D.Disk.told g.O.Presumes.presumed _ _ c.run_behind_fuse.result.refused c.run_behind_fuse.result.status
    c.run_behind_fuse.ensures.run

pub returns-in-Ok-Run-clause-usage : goal.returns-in-Ok-Run-clause-usage
returns-in-Ok-Run-clause-usage g c is =
    absurd (never_usage g.E.Engine.basis g.E.Opens.says _ g.D.Disk.told g.O.Presumes.presumed _ _ c.run_behind_fuse.result.refused c.run_behind_fuse.result.status
    c.run_behind_fuse.ensures.run is)

pub returns-clause-run : goal.returns-clause-run
returns-clause-run g c are_run =
    let it = c.ended_beside-in-Err-Memory.ensures in
    not_begun g.E.Engine.basis g.E.Opens.says _ g.D.Disk.told g.O.Presumes.presumed
    (outside (g.D.Disk.view c.args.disk) (g.S.Source.left c.args.script.now) (g.S.Source.faults c.args.script.now) (g.K.Sink.taken c.args.out.now)
    (g.K.Sink.faults c.args.out.now))
    _ _ _ (ap (λ d. g.D.Disk.view d) it.1) it.2 it.0

pub returns-clause-drawn : goal.returns-clause-drawn
returns-clause-drawn g c = not_drawn _ _ _ c.ended_beside-in-Err-Memory.ensures.0

pub returns-clause-spent : goal.returns-clause-spent
returns-clause-spent g c =
    let it = c.ended_beside-in-Err-Memory.ensures in
    not_spent _ _ _ _ (ap (λ d. (g.D.Disk.view d).calls) it.1) it.2

pub returns-clause-made : goal.returns-clause-made
returns-clause-made g c are_init =
    let it = c.ended_beside-in-Err-Memory.ensures in
    makes_none g.E.Engine.basis g.E.Opens.says g.D.Disk.told _
    (outside (g.D.Disk.view c.args.disk) (g.S.Source.left c.args.script.now) (g.S.Source.faults c.args.script.now) (g.K.Sink.taken c.args.out.now)
    (g.K.Sink.faults c.args.out.now))
    _ _ _ g.met.E.Opens.bare it.0 (ap (λ d. g.D.Disk.view d) it.1) it.2

pub returns-clause-said : goal.returns-clause-said
returns-clause-said g c are_init = said_none _ _ c.ended_beside-in-Err-Memory.ensures.0

pub returns-clause-listed : goal.returns-clause-listed
returns-clause-listed g c are_log =
    let it = c.ended_beside-in-Err-Memory.ensures in
    lists_none g.D.Disk.told (g.D.Disk.view c.args.disk) _ _ _ it.0 (ap (λ d. g.D.Disk.view d) it.1)

pub returns-in-Ok-Dump-clause-usage : goal.returns-in-Ok-Dump-clause-usage
returns-in-Ok-Dump-clause-usage g c is =
    absurd (objects.never_usage g.E.Engine.basis g.E.Opens.says Text _ g.D.Disk.told g.O.Presumes.presumed _ _ _ _ c.objects_behind_fuse.result.status c.objects_behind_fuse.ensures.writes is)

pub returns-in-Ok-Check-clause-usage : goal.returns-in-Ok-Check-clause-usage
returns-in-Ok-Check-clause-usage g c is =
    let it = c.objects_behind_fuse-in-Ok-Check in
    absurd (objects.never_usage g.E.Engine.basis g.E.Opens.says Summary _ g.D.Disk.told g.O.Presumes.presumed _ _ _ _ it.result.status it.ensures.writes is)

pub returns-clause-objects : goal.returns-clause-objects
returns-clause-objects g c =
    let it = c.ended_beside-in-Err-Memory.ensures in
    objects.not_written g.E.Engine.basis g.E.Opens.says _ _ g.D.Disk.told g.O.Presumes.presumed (disk.refusing (g.D.Disk.view c.args.disk) 0) _ _ _ it.0
    (ap (λ d. disk.refusing (g.D.Disk.view d) c.ended_beside-in-Err-Memory.result.refused) it.1 ∙ ap (disk.refusing (g.D.Disk.view c.args.disk)) it.2)
