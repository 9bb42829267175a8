use Rattle.std.proofs.Common.{ℕ, length, ap, ◌∙◌}
use Rattle.sg_base.specs.declared.area.Area.TheVariants.{Home}
use Rattle.sg_disk.specs.Disk.{window}
use Rattle.sg_gate.specs.Layout.{place_at, home_at}
use Rattle.sg_gate.proofs.Copies.{read_fails, read_then}
use Rattle.sg_gate.proofs.batch.copy_page.Goals as goal

pub returns-in_err-read_at-clause-any_moment : goal.returns-in_err-read_at-clause-any_moment
returns-in_err-read_at-clause-any_moment g c told = read_fails (home_at c.args.n) (window ((g.D.Disk.view c.args.disk.now).now Home).seen (place_at c.args.k) (length c.args.page.now)) (c.read_at.ensures.does told)

pub returns-clause-any_moment : goal.returns-clause-any_moment
returns-clause-any_moment g c told =
    read_then (home_at c.args.n) c.page_start.result (window ((g.D.Disk.view c.args.disk.now).now Home).seen (place_at c.args.k) (length c.args.page.now)) c.read_at.new.into
    (c.in_ok-read_at.ensures.does told) (c.in_ok-read_at.ensures.unchanged told) (c.in_ok-read_at.ensures.bytes told ∙ ap (λ (a : ℕ). window ((g.D.Disk.view c.args.disk.now).now Home).seen a (length c.args.page.now)) c.place_start.ensures) c.page_start.ensures (c.write_at.ensures.does told)
