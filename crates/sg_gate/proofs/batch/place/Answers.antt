use Rattle.std.proofs.Common.{ℕ, ◌∙◌, ap}
use Rattle.sg_base.specs.declared.area.Area.TheVariants.{Home}
use Rattle.sg_disk.specs.Disk.{written}
use Rattle.sg_gate.specs.Layout.{place_at}
use Rattle.sg_gate.proofs.Placing.{wrote_at, ready_after, placed}
use Rattle.sg_gate.proofs.batch.place.Goals as goal

pub returns-in_err-write_at-clause-any_moment : goal.returns-in_err-write_at-clause-any_moment
returns-in_err-write_at-clause-any_moment g c pages told ready = placed c.args.k c.place_start.result c.args.page.now pages c.requires.place c.requires.size ready c.place_start.ensures (c.write_at.ensures.does told)

pub returns-clause-does : goal.returns-clause-does
returns-clause-does g c told = wrote_at c.place_start.result (place_at c.args.k) c.args.page.now c.place_start.ensures (c.in_ok-write_at.ensures.does told)

pub returns-clause-ready : goal.returns-clause-ready
returns-clause-ready g c told ready =
    let s = (g.D.Disk.view c.args.disk.now).now in
    ready_after s c.args.k c.args.page.now c.requires.place c.requires.size ready (g.D.Disk.view c.write_at.new.self).now
    ((c.in_ok-write_at.ensures.does told).ok ∙ ap (λ (a : ℕ). written Home a c.args.page.now s) c.place_start.ensures)

pub returns-clause-any_moment : goal.returns-clause-any_moment
returns-clause-any_moment g c pages told ready = placed c.args.k c.place_start.result c.args.page.now pages c.requires.place c.requires.size ready c.place_start.ensures (c.write_at.ensures.does told)
