use Rattle.std.proofs.Common.{rules, arith}
use Rattle.sg_pool.proofs.Grouped.{IsGroup, front_first, front_next}
use Rattle.sg_pool.proofs.Placed.{no_place}
use Rattle.sg_pool.proofs.part.end_of_pages.Goals as goal

pub pages-init : goal.pages-init
pages-init c =
    let to = c.end_of_unit-to in
    let group : IsGroup c.args.places.now _ c.args.from to.result = record { some = to.ensures.some; within = to.ensures.within; same = to.ensures.same; border = to.ensures.border } in
    front_first c.args.places.now c.requires.grouped c.args.pages _ c.args.from to.result c.requires.border (let small = c.requires.first no_place in let is = to.ensures.same c.args.from no_place (omega arith) to.ensures.some in omega (arith, small, is)) group

pub pages-preserved : goal.pages-preserved
pages-preserved c =
    let to = c.end_of_unit-end in
    let group : IsGroup c.args.places.now _ c.pages.to to.result = record { some = to.ensures.some; within = to.ensures.within; same = to.ensures.same; border = to.ensures.border } in
    front_next c.args.places.now c.requires.grouped c.args.pages _ c.args.from c.pages.to to.result c.pages.invariant (search rules) group
