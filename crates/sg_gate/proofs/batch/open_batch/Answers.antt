use Rattle.sg_gate.proofs.Headers.{staging, opening, opened_ok}
use Rattle.sg_gate.proofs.batch.open_batch.Goals as goal

pub returns-in_err-stage_header-clause-any_moment : goal.returns-in_err-stage_header-clause-any_moment
returns-in_err-stage_header-clause-any_moment g c pages told ready batch =
    staging (g.D.Disk.view c.args.disk.now) c.args.numbers.now c.requires.most c.stage_header.new.text c.stage_header.ensures.header pages ready batch (c.stage_header.ensures.any_moment told)

pub returns-clause-any_moment : goal.returns-clause-any_moment
returns-clause-any_moment g c pages told ready batch =
    opening (g.D.Disk.view c.args.disk.now) c.args.numbers.now c.requires.most c.stage_header.new.text c.stage_header.ensures.header pages ready batch
    (c.stage_header.ensures.any_moment told) (c.in_ok-stage_header.ensures.done told) (c.open_gate.ensures.any_moment told)

pub returns-clause-done : goal.returns-clause-done
returns-clause-done g c told =
    opened_ok (g.D.Disk.view c.args.disk.now) c.args.numbers.now c.requires.most c.stage_header.new.text c.stage_header.ensures.header
    (g.D.Disk.view c.stage_header.new.disk).now (c.in_ok-stage_header.ensures.done told) c.open_gate.result (g.D.Disk.view c.open_gate.new.disk).now (c.open_gate.ensures.done told)
