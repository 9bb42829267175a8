use Rattle.sg_gate.proofs.Renewing.{after_close, after_closed, closed_calm}
use Rattle.sg_gate.proofs.slot.close_slot.Goals as goal

pub returns-in_err-write_at-clause-any_moment : goal.returns-in_err-write_at-clause-any_moment
returns-in_err-write_at-clause-any_moment g c new text told spare rest is_open = after_close (g.D.Disk.view c.args.disk.now) c.args.at new text spare rest is_open (c.write_at.ensures.does told)

pub returns-in_err-sync-clause-any_moment : goal.returns-in_err-sync-clause-any_moment
returns-in_err-sync-clause-any_moment g c new text told spare rest is_open = after_closed (g.D.Disk.view c.args.disk.now) c.args.at new text spare rest is_open (c.in_ok-write_at.ensures.does told) (c.sync.ensures.does told)

pub returns-clause-any_moment : goal.returns-clause-any_moment
returns-clause-any_moment g c new text told spare rest is_open = after_closed (g.D.Disk.view c.args.disk.now) c.args.at new text spare rest is_open (c.in_ok-write_at.ensures.does told) (c.sync.ensures.does told)

pub returns-clause-done : goal.returns-clause-done
returns-clause-done g c told = closed_calm (g.D.Disk.view c.args.disk.now).now (g.D.Disk.view c.write_at.new.self).now (g.D.Disk.view c.sync.new.self).now c.args.at ((c.in_ok-write_at.ensures.does told).ok) ((c.in_ok-sync.ensures.does told).ok)
