use Rattle.std.proofs.Common.{ap}
use Rattle.sg_disk.specs.Disk.{refusing}
use Rattle.sg_ops.specs.Table.{shipped_table}
use Rattle.sg_commands.specs.Images.{IsOfStore}
use Rattle.sg_commands.specs.Stores.{grounds, says}
use Rattle.sg_commands.specs.Top.{Outside, outside}
use Rattle.sg_commands.proofs.Logged.{lists_none}
use Rattle.sg_commands.proofs.Making.{said_none}
use Rattle.sg_commands.proofs.Written.{not_written}
use Rattle.sg_commands.proofs.OverPages.{none_where_blank}
use Rattle.sg_commands.proofs.Sized.{makes_none}
use Rattle.sg_commands.proofs.Wanting.{not_begun, not_drawn, not_spent}
use Rattle.sg_main.proofs.ended.Ended.of_run.Goals as goal

pub returns-in-Err-clause-run : goal.returns-in-Err-clause-run
returns-in-Err-clause-run g c are_run =
    let old : Outside = outside (g.D.Disk.view c.args.disk) (g.S.Source.left c.args.script.now) (g.S.Source.faults c.args.script.now) (g.K.Sink.taken c.args.out.now) (g.K.Sink.faults c.args.out.now) in
    not_begun grounds says shipped_table g.D.Disk.told (IsOfStore grounds says shipped_table old.disk) old _ _ _
    (ap (λ f. g.D.Disk.view f.disk) c.beside.ensures.left) (ap (λ f. f.refused) c.beside.ensures.left) (ap (λ f. f.status) c.beside.ensures.left)

pub returns-in-Err-clause-drawn : goal.returns-in-Err-clause-drawn
returns-in-Err-clause-drawn g c = not_drawn _ _ _ (ap (λ f. f.status) c.beside.ensures.left)

pub returns-in-Err-clause-spent : goal.returns-in-Err-clause-spent
returns-in-Err-clause-spent g c = not_spent _ _ _ _ (ap (λ f. (g.D.Disk.view f.disk).calls) c.beside.ensures.left) (ap (λ f. f.refused) c.beside.ensures.left)

pub returns-in-Err-clause-made : goal.returns-in-Err-clause-made
returns-in-Err-clause-made g c are_init =
    let old : Outside = outside (g.D.Disk.view c.args.disk) (g.S.Source.left c.args.script.now) (g.S.Source.faults c.args.script.now) (g.K.Sink.taken c.args.out.now) (g.K.Sink.faults c.args.out.now) in
    makes_none grounds says g.D.Disk.told _ old _ _ _ none_where_blank (ap (λ f. f.status) c.beside.ensures.left)
    (ap (λ f. g.D.Disk.view f.disk) c.beside.ensures.left) (ap (λ f. f.refused) c.beside.ensures.left)

pub returns-in-Err-clause-said : goal.returns-in-Err-clause-said
returns-in-Err-clause-said g c are_init = said_none _ _ (ap (λ f. f.status) c.beside.ensures.left)

pub returns-in-Err-clause-listed : goal.returns-in-Err-clause-listed
returns-in-Err-clause-listed g c are_log =
    lists_none g.D.Disk.told (g.D.Disk.view c.args.disk) _ _ _ (ap (λ f. f.status) c.beside.ensures.left) (ap (λ f. g.D.Disk.view f.disk) c.beside.ensures.left)

pub returns-in-Err-clause-objects : goal.returns-in-Err-clause-objects
returns-in-Err-clause-objects g c =
    not_written grounds says _ shipped_table g.D.Disk.told (IsOfStore grounds says shipped_table (g.D.Disk.view c.args.disk)) (refusing (g.D.Disk.view c.args.disk) 0) _ _ _
    (ap (λ f. f.status) c.beside.ensures.left) (ap (λ f. refusing (g.D.Disk.view f.disk) f.refused) c.beside.ensures.left)
