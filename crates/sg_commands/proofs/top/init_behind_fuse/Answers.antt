use Rattle.std.proofs.Common.{Ok, Err, refl, ap, ◌∙◌, arith}
use Rattle.sg_disk.specs.Disk as disk
use Rattle.sg_commands.specs.Statuses.{status_of_making}
use Rattle.sg_commands.proofs.Endings.{along}
use Rattle.sg_commands.proofs.Making.{Inits, makes_ok, makes_err, said_ok, said_err}
use Rattle.sg_commands.proofs.top.init_behind_fuse.Goals as goal

pub returns-in-Ok-clause-makes : goal.returns-in-Ok-clause-makes
returns-in-Ok-clause-makes g c =
    makes_ok g.E.Engine.basis g.E.Opens.says g.D.Disk.told c.args.sizes.now (g.D.Disk.view c.args.disk)
    (g.D.Disk.view c.finished.result.disk) c.finished.result.refused c.finished.result.status c.say_made-status.result c.finished.ensures.status
    c.say_made-status.ensures.made
    (along (λ u x. Inits g.E.Engine.basis g.E.Opens.says g.D.Disk.told c.args.sizes.now u x (Ok c.in-Ok.field-0)) _ _ _ _ c.marked-fuse.ensures.view c.finished.ensures.view
    (record {
      exists = c.in-Ok.ensures.exists;
      unwritten = c.in-Ok.ensures.unwritten;
      refused = c.in-Ok.ensures.refused;
      failed = c.in-Ok.ensures.failed;
      heeded = c.in-Ok.ensures.heeded;
      moments =
          c.in-Ok.ensures.moments;
      done = c.in-Ok.ensures.done;
    }))

pub returns-in-Err-clause-makes : goal.returns-in-Err-clause-makes
returns-in-Err-clause-makes g c =
    makes_err g.E.Engine.basis g.E.Opens.says g.D.Disk.told c.args.sizes.now (g.D.Disk.view c.args.disk)
    (g.D.Disk.view c.finished-in-Err.result.disk) c.finished-in-Err.result.refused c.in-Err.why c.finished-in-Err.result.status
    (c.finished-in-Err.ensures.status ∙ c.status_of_making-status.ensures)
    (along (λ u x. Inits g.E.Engine.basis g.E.Opens.says g.D.Disk.told c.args.sizes.now u x
    (Err c.in-Err.why)) _ _ _ _ c.marked-fuse.ensures.view c.finished-in-Err.ensures.view
    (record {
      exists = c.in-Err.ensures.exists;
      unwritten = c.in-Err.ensures.unwritten;
      refused = c.in-Err.ensures.refused;
      failed = c.in-Err.ensures.failed;
      heeded = c.in-Err.ensures.heeded;
      moments = c.in-Err.ensures.moments;
      done = c.in-Err.ensures.done;
    }))

pub returns-in-Ok-clause-said : goal.returns-in-Ok-clause-said
returns-in-Ok-clause-said g c = said_ok _ _ _ _ c.finished.ensures.status c.say_made-status.ensures.said

pub returns-in-Err-clause-said : goal.returns-in-Err-clause-said
returns-in-Err-clause-said g c = said_err c.in-Err.why _ _ (c.finished-in-Err.ensures.status ∙ c.status_of_making-status.ensures)
