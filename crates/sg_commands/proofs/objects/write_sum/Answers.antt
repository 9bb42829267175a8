use Rattle.sg_store.specs.Seen.{core_of}
use Rattle.sg_commands.specs.Drawing.{sunk}
use Rattle.sg_commands.proofs.Written.{sum_written, unchecked}
use Rattle.sg_commands.proofs.objects.write_sum.Goals as goal

pub returns-in-Ok-clause-writes : goal.returns-in-Ok-clause-writes
returns-in-Ok-clause-writes g c =
    let h = c.in-Ok.ensures in
    sum_written (g.E.Engine.view c.args.store.now.engine) (g.E.Engine.view c.check.new.self.engine) (core_of c.args.store.now) (core_of c.check.new.self)
    (sunk (g.K.Sink.taken c.args.out.now) (g.K.Sink.faults c.args.out.now)) (sunk (g.K.Sink.taken c.write_summary.new.out) (g.K.Sink.faults c.write_summary.new.out))
    h.means h.heeds c.requires.first c.in-Ok.all c.write_summary.result c.status_of_writing.result c.status_of_writing.ensures h.causes c.write_summary.ensures h.checks

pub returns-in-Err-clause-writes : goal.returns-in-Err-clause-writes
returns-in-Err-clause-writes g c =
    let h = c.in-Err.ensures in
    let same = sunk (g.K.Sink.taken c.args.out.now) (g.K.Sink.faults c.args.out.now) in
    unchecked (g.E.Engine.view c.args.store.now.engine) (g.E.Engine.view c.check.new.self.engine) (core_of c.args.store.now) (core_of c.check.new.self)
    same same h.means h.heeds c.requires.first c.in-Err.why c.status_of_check.result c.status_of_check.ensures h.causes h.checks
