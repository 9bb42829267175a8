use Rattle.std.proofs.Common.{◌<◌, ◌+◌, ◌-◌, ℕ, length, get_or, take, drop, sym, ◌∙◌, ap, subst, arith}
use Rattle.std.specs.Prelude.{All}
use Rattle.std.proofs.lemmas.Result.{err_from_is_err_and, on_ok_weaker, on_err_weaker}
use Rattle.sg_ops.specs.Table.{Table, table_of}
use Rattle.sg_redo.specs.declared.place.Place.{Place}
use Rattle.sg_pool.specs.Units.{Geometry}
use Rattle.sg_pool.proofs.Bringing.{on_err}
use Rattle.sg_pool.proofs.Grouped.{through_starts, through_next, through_cut, through_rest, up_part, part_all, part_known, part_few, span_some, span_all, steps_through, fewer_through}
use Rattle.sg_pool.proofs.pool.Pool.redo_groups.Goals as goal

pub groups-init : goal.groups-init
groups-init g c =
    let t : Table = table_of (λ p. (goal.RecordOp-dyn g p).record_meaning p.1) (λ p. (goal.RangeOp-dyn g p).range_meaning p.1) c.args.ops.now in
    record {
      through = through_starts g.D.Disk.told t c.args.text.now c.args.places.now (g.D.Disk.view c.args.disk.now) c.args.log.now c.args.self.now c.args.steps.now (g.met.D.Disk.reads c.args.disk.now);
      empty = c.requires.empty;
    }

pub redo_pages-requires-clause-grouped : goal.redo_pages-requires-clause-grouped
redo_pages-requires-clause-grouped g c ls lf = up_part c.args.places.now c.requires.grouped (c.end_of_pages-to.result - c.groups.from) c.groups.from

pub redo_units-requires-clause-grouped : goal.redo_units-requires-clause-grouped
redo_units-requires-clause-grouped g c = up_part c.args.places.now c.requires.grouped (length c.args.places.now - c.groups.from) c.groups.from

pub returns-in_err-redo_pages-clause-run : goal.returns-in_err-redo_pages-clause-run
returns-in_err-redo_pages-clause-run g c =
    let t : Table = table_of (λ p. (goal.RecordOp-dyn g p).record_meaning p.1) (λ p. (goal.RangeOp-dyn g p).range_meaning p.1) c.args.ops.now in
    let to = c.end_of_pages-to in
    let p = err_from_is_err_and c.from_residual.result c.from_residual.ensures.1 in
    rw (p.1, p.2)
    (through_cut g.D.Disk.told t c.args.text.now c.args.places.now c.requires.grouped (g.D.Disk.view c.args.disk.now) (g.D.Disk.view c.groups.disk) (g.D.Disk.view c.redo_pages.new.disk) c.args.log.now c.groups.log c.redo_pages.new.log c.args.self.now c.groups.self c.redo_pages.new.self
    c.groups.from c.args.steps.now c.groups.steps c.groups.invariant.through to.result to.ensures.some to.ensures.within to.ensures.border c.in_err-redo_pages.field-0.0 c.in_err-redo_pages.ensures.run)

pub groups-preserved : goal.groups-preserved
groups-preserved g c =
    let t : Table = table_of (λ p. (goal.RecordOp-dyn g p).record_meaning p.1) (λ p. (goal.RangeOp-dyn g p).range_meaning p.1) c.args.ops.now in
    let to = c.end_of_pages-to in
    record {
      through = through_next g.D.Disk.told t c.args.text.now c.args.places.now c.requires.grouped (g.D.Disk.view c.args.disk.now) (g.D.Disk.view c.groups.disk) (g.D.Disk.view c.redo_pages.new.disk) c.args.log.now c.groups.log c.redo_pages.new.log c.args.self.now c.groups.self c.redo_pages.new.self
          c.groups.from c.args.steps.now c.groups.steps c.groups.invariant.through to.result to.ensures.some to.ensures.within to.ensures.border c.redo_pages.new.steps c.in_ok-redo_pages.ensures.run c.in_ok-redo_pages.ensures.steps;
      empty = c.redo_pages.ensures.empty;
    }

pub returns-clause-run : goal.returns-clause-run
returns-clause-run g c =
    let t : Table = table_of (λ p. (goal.RecordOp-dyn g p).record_meaning p.1) (λ p. (goal.RangeOp-dyn g p).range_meaning p.1) c.args.ops.now in
    through_rest g.D.Disk.told t c.args.text.now c.args.places.now c.requires.grouped (g.D.Disk.view c.args.disk.now) (g.D.Disk.view c.groups.disk) (g.D.Disk.view c.redo_units.new.disk) c.args.log.now c.groups.log c.redo_units.new.log c.args.self.now c.groups.self c.redo_units.new.self
    c.groups.from c.args.steps.now c.groups.steps c.groups.invariant.through c.redo_units.result c.redo_units.ensures.run

pub redo_pages-requires-clause-pages : goal.redo_pages-requires-clause-pages
redo_pages-requires-clause-pages g c ls lf =
    let pages = c.pages-pages.ensures ∙ sym (ap (λ (h : Geometry). h.pages) c.groups.invariant.through.run.size) in
    span_all c.args.places.now c.groups.from c.end_of_pages-to.result (λ p. p.unit < c.groups.self.shelf.pages)
    (λ k d least less. subst (λ (m : ℕ). (get_or c.args.places.now k d).unit < m) pages (c.end_of_pages-to.ensures.pages k d least less))

pub redo_pages-requires-clause-known : goal.redo_pages-requires-clause-known
redo_pages-requires-clause-known g c ls lf =
    let t : Table = table_of (λ p. (goal.RecordOp-dyn g p).record_meaning p.1) (λ p. (goal.RangeOp-dyn g p).range_meaning p.1) c.args.ops.now in
    part_known c.args.places.now (c.end_of_pages-to.result - c.groups.from) c.groups.from t c.args.text.now c.requires.known

pub redo_pages-requires-clause-few : goal.redo_pages-requires-clause-few
redo_pages-requires-clause-few g c ls lf = part_few c.args.places.now (c.end_of_pages-to.result - c.groups.from) c.groups.from _ c.requires.few

pub redo_pages-requires-clause-some : goal.redo_pages-requires-clause-some
redo_pages-requires-clause-some g c ls lf = span_some c.args.places.now c.groups.from c.end_of_pages-to.result c.end_of_pages-to.ensures.some c.end_of_pages-to.ensures.within

pub redo_units-requires-clause-within : goal.redo_units-requires-clause-within
redo_units-requires-clause-within g c =
    subst (λ (h : Geometry). All (λ p. p.unit < h.pages + h.bands) (take (length c.args.places.now - c.groups.from) (drop c.groups.from c.args.places.now))) (sym c.groups.invariant.through.run.size)
    (part_all c.args.places.now (length c.args.places.now - c.groups.from) c.groups.from (λ (p : Place). p.unit < c.args.self.now.shelf.pages + c.args.self.now.shelf.bands) c.requires.within)

pub redo_units-requires-clause-known : goal.redo_units-requires-clause-known
redo_units-requires-clause-known g c =
    let t : Table = table_of (λ p. (goal.RecordOp-dyn g p).record_meaning p.1) (λ p. (goal.RangeOp-dyn g p).range_meaning p.1) c.args.ops.now in
    part_known c.args.places.now (length c.args.places.now - c.groups.from) c.groups.from t c.args.text.now c.requires.known

pub redo_units-requires-clause-few : goal.redo_units-requires-clause-few
redo_units-requires-clause-few g c = part_few c.args.places.now (length c.args.places.now - c.groups.from) c.groups.from _ c.requires.few

pub returns-in_err-redo_pages-clause-fewer_steps : goal.returns-in_err-redo_pages-clause-fewer_steps
returns-in_err-redo_pages-clause-fewer_steps g c =
    on_err c.from_residual.result (fewer_through c.args.places.now c.groups.from (c.end_of_pages-to.result - c.groups.from) c.args.steps.now c.groups.steps c.redo_pages.new.steps c.groups.invariant.through.within c.groups.invariant.through.steps c.in_err-redo_pages.ensures.fewer_steps)

pub returns-clause-steps : goal.returns-clause-steps
returns-clause-steps g c = on_ok_weaker c.redo_units.result
    (steps_through c.args.places.now c.groups.from (length c.args.places.now - c.groups.from) c.args.steps.now c.groups.steps c.redo_units.new.steps c.groups.invariant.through.within c.groups.invariant.through.steps (omega arith)) c.redo_units.ensures.steps

pub returns-clause-fewer_steps : goal.returns-clause-fewer_steps
returns-clause-fewer_steps g c = on_err_weaker c.redo_units.result
    (fewer_through c.args.places.now c.groups.from (length c.args.places.now - c.groups.from) c.args.steps.now c.groups.steps c.redo_units.new.steps c.groups.invariant.through.within c.groups.invariant.through.steps) c.redo_units.ensures.fewer_steps
