use Rattle.std.proofs.Common.{sym, subst}
use Rattle.std.specs.Prelude.{IfSome}
use Rattle.sg_disk.specs.Disk.{refusing}
use Rattle.sg_ops.specs.Table.{Table as Operations}
use Rattle.sg_commands.specs.Drawing.{sunk}
use Rattle.sg_commands.specs.Images.{IsOfStore}
use Rattle.sg_commands.specs.Written.{WritesObjects, text_for}
use Rattle.sg_commands.specs.Stores.{grounds, says}
use Rattle.sg_commands.specs.Top.{Outside, outside, Account}
use Rattle.sg_commands.specs.Words.{listing_asked}
use Rattle.sg_main.proofs.ended.Ended.of_shipped.Goals as goal

pub returns-clause-run : goal.returns-clause-run
returns-clause-run g c are_run =
    let old : Outside = outside (g.D.Disk.view c.args.disk) (g.S.Source.left c.args.script.now) (g.S.Source.faults c.args.script.now)
    (g.K.Sink.taken c.args.out.now) (g.K.Sink.faults c.args.out.now) in
    rw c.beside.ensures.left
    (subst (λ (t : Operations). Account grounds says t g.D.Disk.told (IsOfStore grounds says t old.disk) old
    (outside (g.D.Disk.view c.stasis.result.disk) (g.S.Source.left c.stasis.new.script) (g.S.Source.faults c.stasis.new.script) (g.K.Sink.taken c.stasis.new.out)
    (g.K.Sink.faults c.stasis.new.out)) c.stasis.result.refused c.stasis.result.status) c.requires.shipped (c.stasis.ensures.run are_run))

pub returns-clause-objects : goal.returns-clause-objects
returns-clause-objects g c =
    rw c.beside.ensures.left
    (subst (λ (t : Operations). IfSome (listing_asked c.args.words.now) (λ listing. WritesObjects grounds says (text_for listing) t g.D.Disk.told
    (IsOfStore grounds says t (g.D.Disk.view c.args.disk)) (refusing (g.D.Disk.view c.args.disk) 0) (refusing (g.D.Disk.view c.stasis.result.disk) c.stasis.result.refused)
    (sunk (g.K.Sink.taken c.args.out.now) (g.K.Sink.faults c.args.out.now)) (sunk (g.K.Sink.taken c.stasis.new.out) (g.K.Sink.faults c.stasis.new.out)) c.stasis.result.status))
    c.requires.shipped c.stasis.ensures.objects)
