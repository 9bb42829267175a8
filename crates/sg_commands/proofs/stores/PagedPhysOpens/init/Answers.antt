use Rattle.sg_base.specs.Ends.{HasRisen}
use Rattle.sg_making.specs.Making.{super_of}
use Rattle.sg_commands.specs.Making.{HasOpenGate}
use Rattle.sg_commands.proofs.OverPages.{init_moments, init_done, failed_for, not_done}
use Rattle.sg_commands.proofs.stores.PagedPhysOpens.init.Goals as goal

pub returns-in-Ok-clause-moments : goal.returns-in-Ok-clause-moments
returns-in-Ok-clause-moments g c = init_moments c.args.sizes.now (super_of c.numbers.result) c.numbers.ensures g.D.Disk.told _ _ c.init_store.ensures.moments

pub returns-in-Err-clause-moments : goal.returns-in-Err-clause-moments
returns-in-Err-clause-moments g c = init_moments c.args.sizes.now (super_of c.numbers.result) c.numbers.ensures g.D.Disk.told _ _ c.init_store.ensures.moments

pub returns-in-Ok-clause-done : goal.returns-in-Ok-clause-done
returns-in-Ok-clause-done g c = init_done c.args.sizes.now (super_of c.numbers.result) c.numbers.ensures g.D.Disk.told (g.D.Disk.view c.args.disk.now) (g.D.Disk.view c.init_store.new.disk) c.in-Ok.ensures.done

pub returns-in-Ok-clause-refused : goal.returns-in-Ok-clause-refused
returns-in-Ok-clause-refused g c told there e =
    not_done c.args.sizes.now (super_of c.numbers.result) c.numbers.ensures c.requires.fit c.in-Ok.field-0 (HasOpenGate (g.D.Disk.view c.args.disk.now))
    (c.in-Ok.ensures.refused told) there

pub returns-in-Err-clause-failed : goal.returns-in-Err-clause-failed
returns-in-Err-clause-failed g c =
    failed_for c.args.sizes.now (super_of c.numbers.result) c.numbers.ensures c.requires.fit c.in-Err.fault c.not_made.result
    (HasRisen (g.D.Disk.view c.args.disk.now).faults (g.D.Disk.view c.init_store.new.disk).faults) c.not_made.ensures c.in-Err.ensures.bad c.in-Err.ensures.failed
