use Rattle.std.proofs.Common.{◌-◌, arith}
use Rattle.std.proofs.lemmas.Result.{err_from_is_err_and}
use Rattle.sg_ops.specs.Table.{Table, table_of}
use Rattle.sg_pool.proofs.Bringing.{on_err}
use Rattle.sg_pool.proofs.Grouped.{IsGroup, next_border, through_starts, through_next, through_cut, through_ends, part_known, part_few, span_some, span_same, fewer_there}
use Rattle.sg_pool.proofs.pool.Pool.redo_units.Goals as goal

pub units-init : goal.units-init
units-init g c =
    let t : Table = table_of (λ p. (goal.RecordOp-dyn g p).record_meaning p.1) (λ p. (goal.RangeOp-dyn g p).range_meaning p.1) c.args.ops.now in
    through_starts g.D.Disk.told t c.args.text.now c.args.places.now (g.D.Disk.view c.args.disk.now) c.args.log.now c.args.self.now c.args.steps.now (g.met.D.Disk.reads c.args.disk.now)

pub returns-in_err-redo_unit-clause-run : goal.returns-in_err-redo_unit-clause-run
returns-in_err-redo_unit-clause-run g c =
    let t : Table = table_of (λ p. (goal.RecordOp-dyn g p).record_meaning p.1) (λ p. (goal.RangeOp-dyn g p).range_meaning p.1) c.args.ops.now in
    let to = c.end_of_unit-to in
    let group : IsGroup c.args.places.now _ c.units.from to.result = record { some = to.ensures.some; within = to.ensures.within; same = to.ensures.same; border = to.ensures.border } in
    let p = err_from_is_err_and c.from_residual.result c.from_residual.ensures.1 in
    rw (p.1, p.2)
    (through_cut g.D.Disk.told t c.args.text.now c.args.places.now c.requires.grouped (g.D.Disk.view c.args.disk.now) (g.D.Disk.view c.units.disk) (g.D.Disk.view c.redo_unit.new.disk) c.args.log.now c.units.log c.redo_unit.new.log c.args.self.now c.units.self c.redo_unit.new.self
    c.units.from c.args.steps.now c.units.steps c.units.invariant to.result group.some group.within (next_border c.args.places.now c.requires.grouped _ c.units.from to.result c.units.invariant.border group) c.in_err-redo_unit.field-0.0 c.in_err-redo_unit.ensures.run)

pub units-preserved : goal.units-preserved
units-preserved g c =
    let t : Table = table_of (λ p. (goal.RecordOp-dyn g p).record_meaning p.1) (λ p. (goal.RangeOp-dyn g p).range_meaning p.1) c.args.ops.now in
    let to = c.end_of_unit-to in
    let group : IsGroup c.args.places.now _ c.units.from to.result = record { some = to.ensures.some; within = to.ensures.within; same = to.ensures.same; border = to.ensures.border } in
    through_next g.D.Disk.told t c.args.text.now c.args.places.now c.requires.grouped (g.D.Disk.view c.args.disk.now) (g.D.Disk.view c.units.disk) (g.D.Disk.view c.redo_unit.new.disk) c.args.log.now c.units.log c.redo_unit.new.log c.args.self.now c.units.self c.redo_unit.new.self
    c.units.from c.args.steps.now c.units.steps c.units.invariant to.result group.some group.within (next_border c.args.places.now c.requires.grouped _ c.units.from to.result c.units.invariant.border group) c.redo_unit.new.steps c.in_ok-redo_unit.ensures.run c.in_ok-redo_unit.ensures.steps

pub returns-clause-run : goal.returns-clause-run
returns-clause-run g c =
    let t : Table = table_of (λ p. (goal.RecordOp-dyn g p).record_meaning p.1) (λ p. (goal.RangeOp-dyn g p).range_meaning p.1) c.args.ops.now in
    through_ends g.D.Disk.told t c.args.text.now c.args.places.now (g.D.Disk.view c.args.disk.now) (g.D.Disk.view c.units.disk) c.args.log.now c.units.log c.args.self.now c.units.self c.units.from c.args.steps.now c.units.steps c.units.invariant (let past = c.units-test.false in omega (arith, past))

pub redo_unit-requires-clause-same : goal.redo_unit-requires-clause-same
redo_unit-requires-clause-same g c = span_same c.args.places.now c.units.from c.end_of_unit-to.result _ c.end_of_unit-to.ensures.same

pub redo_unit-requires-clause-known : goal.redo_unit-requires-clause-known
redo_unit-requires-clause-known g c =
    let t : Table = table_of (λ p. (goal.RecordOp-dyn g p).record_meaning p.1) (λ p. (goal.RangeOp-dyn g p).range_meaning p.1) c.args.ops.now in
    part_known c.args.places.now (c.end_of_unit-to.result - c.units.from) c.units.from t c.args.text.now c.requires.known

pub redo_unit-requires-clause-few : goal.redo_unit-requires-clause-few
redo_unit-requires-clause-few g c = part_few c.args.places.now (c.end_of_unit-to.result - c.units.from) c.units.from _ c.requires.few

pub redo_unit-requires-clause-some : goal.redo_unit-requires-clause-some
redo_unit-requires-clause-some g c = span_some c.args.places.now c.units.from c.end_of_unit-to.result c.end_of_unit-to.ensures.some c.end_of_unit-to.ensures.within

pub returns-in_err-redo_unit-clause-fewer_steps : goal.returns-in_err-redo_unit-clause-fewer_steps
returns-in_err-redo_unit-clause-fewer_steps g c =
    on_err c.from_residual.result (fewer_there c.args.places.now c.units.from 0 c.args.steps.now c.units.steps c.redo_unit.new.steps c.units.invariant.within c.units.invariant.steps c.units-test.true c.in_err-redo_unit.ensures.no_steps)
