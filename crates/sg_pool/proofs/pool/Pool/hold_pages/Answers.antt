use Rattle.std.proofs.Common.{◌<◌, ◌-◌, [], length, take, drop, refl, ◌∙◌, arith, length-take, length-drop}
use Rattle.std.proofs.lemmas.Result.{err_from_is_err_and}
use Rattle.sg_pool.proofs.Grouped.{IsGroup, next_border, group_all, through_starts, through_next, through_cut, through_ends}
use Rattle.sg_pool.proofs.pool.Pool.hold_pages.Goals as goal

pub units-init : goal.units-init
units-init g c = record {
  through = λ t. through_starts g.D.Disk.told t [] c.args.places.now (g.D.Disk.view c.args.disk.now) c.args.log.now c.args.self.now 0 (g.met.D.Disk.reads c.args.disk.now);
  size = refl;
}

pub returns-in_err-hold_page-clause-run : goal.returns-in_err-hold_page-clause-run
returns-in_err-hold_page-clause-run g c t =
    let to = c.end_of_unit-to in
    let before = (c.units.invariant.through t).border in
    let group : IsGroup c.args.places.now _ c.units.from to.result = record { some = to.ensures.some; within = to.ensures.within; same = to.ensures.same; border = to.ensures.border } in
    let long : 0 < length (take (to.result - c.units.from) (drop c.units.from c.args.places.now)) =
    let one = length-take (to.result - c.units.from) (drop c.units.from c.args.places.now) in let two = length-drop c.units.from c.args.places.now in let some = group.some in let within = group.within in omega (arith, one, two, some, within) in
    let p = err_from_is_err_and c.from_residual.result c.from_residual.ensures.1 in
    rw (p.1, p.2)
    (through_cut g.D.Disk.told t [] c.args.places.now c.requires.grouped (g.D.Disk.view c.args.disk.now) (g.D.Disk.view c.units.disk) (g.D.Disk.view c.hold_page.new.disk) c.args.log.now c.units.log c.hold_page.new.log c.args.self.now c.units.self c.hold_page.new.self
    c.units.from 0 c.units.from (c.units.invariant.through t) to.result group.some group.within (next_border c.args.places.now c.requires.grouped _ c.units.from to.result before group) c.in_err-hold_page.field-0.0
    (c.in_err-hold_page.ensures.run t (take (to.result - c.units.from) (drop c.units.from c.args.places.now)) (group_all c.args.places.now c.requires.grouped _ c.units.from to.result before group) long))

pub units-preserved : goal.units-preserved
units-preserved g c =
    let to = c.end_of_unit-to in
    let group : IsGroup c.args.places.now _ c.units.from to.result = record { some = to.ensures.some; within = to.ensures.within; same = to.ensures.same; border = to.ensures.border } in
    let one = length-take (to.result - c.units.from) (drop c.units.from c.args.places.now) in
    let two = length-drop c.units.from c.args.places.now in
    let some = to.ensures.some in let within = to.ensures.within in
    record {
      through = λ t.
          let before = (c.units.invariant.through t).border in
          through_next g.D.Disk.told t [] c.args.places.now c.requires.grouped (g.D.Disk.view c.args.disk.now) (g.D.Disk.view c.units.disk) (g.D.Disk.view c.hold_page.new.disk) c.args.log.now c.units.log c.hold_page.new.log c.args.self.now c.units.self c.hold_page.new.self
          c.units.from 0 c.units.from (c.units.invariant.through t) to.result to.ensures.some to.ensures.within (next_border c.args.places.now c.requires.grouped _ c.units.from to.result before group) to.result
          (c.in_ok-hold_page.ensures.run t (take (to.result - c.units.from) (drop c.units.from c.args.places.now)) (group_all c.args.places.now c.requires.grouped _ c.units.from to.result before group) (omega (arith, one, two, some, within)))
          (omega (arith, one, two, some, within));
      size = c.hold_page.ensures.size ∙ c.units.invariant.size;
    }

pub returns-clause-run : goal.returns-clause-run
returns-clause-run g c t =
    through_ends g.D.Disk.told t [] c.args.places.now (g.D.Disk.view c.args.disk.now) (g.D.Disk.view c.units.disk) c.args.log.now c.units.log c.args.self.now c.units.self c.units.from 0 c.units.from (c.units.invariant.through t) (let past = c.units-test.false in omega (arith, past))
