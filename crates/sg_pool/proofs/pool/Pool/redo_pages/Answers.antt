use Rattle.std.proofs.Common.{◌<◌, ◌+◌, ◌-◌, ℕ, length, take, drop, refl, sym, ◌∙◌, subst, arith}
use Rattle.std.specs.Prelude.{All}
use Rattle.std.proofs.lemmas.Result.{err_from_is_err_and, on_ok_weaker, on_err_weaker}
use Rattle.sg_ops.specs.Table.{Table, table_of}
use Rattle.sg_redo.specs.declared.place.Place.{Place}
use Rattle.sg_pool.specs.Units.{Geometry}
use Rattle.sg_pool.proofs.Bringing.{on_err}
use Rattle.sg_pool.proofs.Grouped.{held_cut, held_then, up_part, part_all, part_known, part_few, steps_through, fewer_through, fewer_there}
use Rattle.sg_pool.proofs.pool.Pool.redo_pages.Goals as goal

below_both : (unit pages bands : ℕ) → unit < pages → unit < pages + bands
below_both unit pages bands lt = omega (arith, lt)

pub redo_units-requires-clause-grouped : goal.redo_units-requires-clause-grouped
redo_units-requires-clause-grouped g c = up_part c.args.places.now c.requires.grouped (length c.args.places.now - c.repeat_held-to.result) c.repeat_held-to.result

pub returns-in_err-hold_pages-clause-run : goal.returns-in_err-hold_pages-clause-run
returns-in_err-hold_pages-clause-run g c =
    let t : Table = table_of (λ p. (goal.RecordOp-dyn g p).record_meaning p.1) (λ p. (goal.RangeOp-dyn g p).range_meaning p.1) c.args.ops.now in
    let p = err_from_is_err_and c.from_residual.result c.from_residual.ensures.1 in
    rw (p.1, p.2)
    (held_cut g.D.Disk.told t c.args.text.now c.args.places.now (g.D.Disk.view c.args.disk.now) (g.D.Disk.view c.hold_pages.new.disk) c.args.log.now c.hold_pages.new.log c.args.self.now c.hold_pages.new.self c.in_err-hold_pages.field-0.0 (c.in_err-hold_pages.ensures.run t))

pub returns-clause-run : goal.returns-clause-run
returns-clause-run g c =
    let t : Table = table_of (λ p. (goal.RecordOp-dyn g p).record_meaning p.1) (λ p. (goal.RangeOp-dyn g p).range_meaning p.1) c.args.ops.now in
    let to = c.repeat_held-to in
    let w = g.D.Disk.view c.hold_pages.new.disk in
    held_then g.D.Disk.told t c.args.text.now c.args.places.now c.requires.grouped (g.D.Disk.view c.args.disk.now) (g.D.Disk.view c.hold_pages.new.disk) (g.D.Disk.view c.redo_units.new.disk) c.args.log.now c.hold_pages.new.log c.redo_units.new.log
    c.args.self.now c.hold_pages.new.self to.new.self c.redo_units.new.self (c.in_ok-hold_pages.ensures.run t) to.result to.ensures.border
    (to.ensures.run g.D.Disk.told w c.hold_pages.new.log (g.met.D.Disk.reads c.hold_pages.new.disk)) c.redo_units.result c.redo_units.ensures.run

pub redo_units-requires-clause-within : goal.redo_units-requires-clause-within
redo_units-requires-clause-within g c =
    subst (λ (h : Geometry). All (λ p. p.unit < h.pages + h.bands) (take (length c.args.places.now - c.repeat_held-to.result) (drop c.repeat_held-to.result c.args.places.now))) (sym (c.repeat_held-to.ensures.size ∙ c.hold_pages.ensures.size))
    (part_all c.args.places.now (length c.args.places.now - c.repeat_held-to.result) c.repeat_held-to.result (λ (p : Place). p.unit < c.args.self.now.shelf.pages + c.args.self.now.shelf.bands)
    (λ k d inside. below_both _ c.args.self.now.shelf.pages c.args.self.now.shelf.bands (c.requires.pages k d inside)))

pub redo_units-requires-clause-known : goal.redo_units-requires-clause-known
redo_units-requires-clause-known g c =
    let t : Table = table_of (λ p. (goal.RecordOp-dyn g p).record_meaning p.1) (λ p. (goal.RangeOp-dyn g p).range_meaning p.1) c.args.ops.now in
    part_known c.args.places.now (length c.args.places.now - c.repeat_held-to.result) c.repeat_held-to.result t c.args.text.now c.requires.known

pub redo_units-requires-clause-few : goal.redo_units-requires-clause-few
redo_units-requires-clause-few g c = part_few c.args.places.now (length c.args.places.now - c.repeat_held-to.result) c.repeat_held-to.result _ c.requires.few

pub returns-in_err-hold_pages-clause-fewer_steps : goal.returns-in_err-hold_pages-clause-fewer_steps
returns-in_err-hold_pages-clause-fewer_steps g c =
    on_err c.from_residual.result (fewer_there c.args.places.now 0 0 c.args.steps.now c.args.steps.now c.args.steps.now (omega arith) (omega arith) c.requires.some refl)

pub returns-clause-steps : goal.returns-clause-steps
returns-clause-steps g c = let to = c.repeat_held-to in on_ok_weaker c.redo_units.result
    (steps_through c.args.places.now to.result (length c.args.places.now - to.result) c.args.steps.now to.new.steps c.redo_units.new.steps to.ensures.within to.ensures.steps (omega arith)) c.redo_units.ensures.steps

pub returns-clause-fewer_steps : goal.returns-clause-fewer_steps
returns-clause-fewer_steps g c = let to = c.repeat_held-to in on_err_weaker c.redo_units.result
    (fewer_through c.args.places.now to.result (length c.args.places.now - to.result) c.args.steps.now to.new.steps c.redo_units.new.steps to.ensures.within to.ensures.steps) c.redo_units.ensures.fewer_steps
