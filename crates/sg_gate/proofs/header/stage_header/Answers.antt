use Rattle.sg_gate.proofs.Settling.{in_write, in_sync}
use Rattle.sg_gate.proofs.header.stage_header.Goals as goal

pub returns-in_err-write_at-clause-any_moment : goal.returns-in_err-write_at-clause-any_moment
returns-in_err-write_at-clause-any_moment g c told = search (in_write, c.write_at.ensures.does told)

pub returns-clause-any_moment : goal.returns-clause-any_moment
returns-clause-any_moment g c told = search (in_sync, c.in_ok-write_at.ensures.does told, c.sync.ensures.does told)
