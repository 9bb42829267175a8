use Rattle.std.proofs.Common.{◌≡◌, ◌+◌, ◌-◌, arith}
use Rattle.sg_ops.specs.Table.{Table, table_of}
use Rattle.sg_pool.specs.Pooled.{sizes}
use Rattle.sg_pool.proofs.RedoRuns.{page_run, band_run}
use Rattle.sg_pool.proofs.pool.Pool.redo_unit.Goals as goal

pub returns-then-unit-pages-clause-run : goal.returns-then-unit-pages-clause-run
returns-then-unit-pages-clause-run g c =
    let t : Table = table_of (λ p. (goal.RecordOp-dyn g p).record_meaning p.1) (λ p. (goal.RangeOp-dyn g p).range_meaning p.1) c.args.ops.now in
    let it = c.redo_page.ensures in
    let pages = c.pages-pages.ensures in
    let below = c.if-unit-pages.true in
    page_run g.D.Disk.told t c.args.text.now c.args.unit c.args.places.now c.requires.same c.requires.some (g.D.Disk.view c.args.disk.now) (g.D.Disk.view c.redo_page.new.disk) c.args.log.now c.redo_page.new.log c.args.self.now c.redo_page.new.self c.redo_page.result
    (g.met.D.Disk.reads c.redo_page.new.disk) it.size it.log_kept it.later it.heeded it.kept it.grown it.log it.moments (omega (arith, pages, below)) it.windows it.brought it.unused it.untouched it.backed it.repeated it.refused it.well it.faults

pub returns-else-unit-pages-clause-run : goal.returns-else-unit-pages-clause-run
returns-else-unit-pages-clause-run g c =
    let t : Table = table_of (λ p. (goal.RecordOp-dyn g p).record_meaning p.1) (λ p. (goal.RangeOp-dyn g p).range_meaning p.1) c.args.ops.now in
    let it = c.redo_band.ensures in
    let pages = c.pages-pages.ensures in
    let high = c.if-unit-pages.false in
    let at : c.args.unit ≡ (sizes c.args.self.now).pages + (c.args.unit - c.pages-pages.result) = omega (arith, pages, high) in
    band_run g.D.Disk.told t c.args.text.now c.args.unit c.args.places.now c.requires.same c.requires.some (g.D.Disk.view c.args.disk.now) (g.D.Disk.view c.redo_band.new.disk) c.args.log.now c.redo_band.new.log c.args.self.now c.redo_band.new.self c.redo_band.result
    (g.met.D.Disk.reads c.redo_band.new.disk) it.size it.log_kept it.later it.heeded it.kept it.grown (λ ds ps is_told apart ready holds. it.log ds ps is_told apart holds) it.moments (c.args.unit - c.pages-pages.result) at it.frames it.logged it.backed it.repeated it.last it.lasts it.count it.untouched it.fault it.failed
