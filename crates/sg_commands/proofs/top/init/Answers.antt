use Rattle.std.proofs.Common.{ap, ◌∙◌}
use Rattle.sg_commands.specs.Top.{Outside, outside}
use Rattle.sg_commands.proofs.Sized.{makes_sized, makes_unsized, said_unsized}
use Rattle.sg_commands.proofs.Wanting.{not_spent}
use Rattle.sg_commands.proofs.top.init.Goals as goal

pub returns-in-Ok-clause-makes : goal.returns-in-Ok-clause-makes
returns-in-Ok-clause-makes g c =
    let old : Outside = outside (g.D.Disk.view c.args.disk) (g.S.Source.left c.args.source.now) (g.S.Source.faults c.args.source.now)
    (g.K.Sink.taken c.args.out.now) (g.K.Sink.faults c.args.out.now) in
    let new : Outside = outside (g.D.Disk.view c.init_behind_fuse.result.disk) (g.S.Source.left c.asked_sizes.new.source)
    (g.S.Source.faults c.asked_sizes.new.source) (g.K.Sink.taken c.init_behind_fuse.new.out) (g.K.Sink.faults c.init_behind_fuse.new.out) in
    makes_sized g.E.Engine.basis g.E.Opens.says g.D.Disk.told c.args.by_file old new c.init_behind_fuse.result.refused c.in-Ok.sizes
    c.init_behind_fuse.result.status c.in-Ok.ensures.asked c.in-Ok.ensures.whole c.in-Ok.ensures.quiet c.asked_sizes.ensures.read
    c.init_behind_fuse.ensures.makes c.init_behind_fuse.ensures.said

pub returns-in-Err-clause-makes : goal.returns-in-Err-clause-makes
returns-in-Err-clause-makes g c =
    let it = c.ended_beside.ensures in
    let old : Outside = outside (g.D.Disk.view c.args.disk) (g.S.Source.left c.args.source.now) (g.S.Source.faults c.args.source.now)
    (g.K.Sink.taken c.args.out.now) (g.K.Sink.faults c.args.out.now) in
    let new : Outside = outside (g.D.Disk.view c.ended_beside.result.disk) (g.S.Source.left c.asked_sizes.new.source)
    (g.S.Source.faults c.asked_sizes.new.source) (g.K.Sink.taken c.args.out.now) (g.K.Sink.faults c.args.out.now) in
    makes_unsized g.E.Engine.basis g.E.Opens.says g.D.Disk.told c.args.by_file old new c.ended_beside.result.refused g.met.E.Opens.bare c.in-Err.why
    c.ended_beside.result.status (it.0 ∙ c.status_of_sizes-status.ensures)
    (record { bad = c.in-Err.ensures.bad; failed = c.in-Err.ensures.failed; heeded = c.in-Err.ensures.heeded })
    c.asked_sizes.ensures.read (ap (λ d. g.D.Disk.view d) it.1) it.2

pub returns-in-Err-clause-said : goal.returns-in-Err-clause-said
returns-in-Err-clause-said g c = said_unsized c.in-Err.why _ _ (c.ended_beside.ensures.0 ∙ c.status_of_sizes-status.ensures)

pub returns-in-Err-clause-spent : goal.returns-in-Err-clause-spent
returns-in-Err-clause-spent g c =
    let it = c.ended_beside.ensures in
    not_spent _ _ _ _ (ap (λ d. (g.D.Disk.view d).calls) it.1) it.2
