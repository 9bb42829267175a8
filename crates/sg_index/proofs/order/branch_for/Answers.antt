use Rattle.std.proofs.Common.{arith}
use Rattle.sg_index.proofs.Ways.{way_start, left_next, way_next, way_found, way_last, not_true}
use Rattle.sg_index.proofs.order.branch_for.Goals as goal

pub items-init : goal.items-init
items-init c = record {
  left = λ d more below. absurd (omega (arith, more));
  way = λ d. way_start c.args.items.now c.args.key.now d c.requires;
}

pub items-preserved : goal.items-preserved
items-preserved c =
    let upto = not_true _ _ c.if-is_below.false c.is_below.ensures.1 in
    record {
      left = left_next c.args.items.now c.args.key.now c.items.i c.index-items-i.result c.items-test.true c.index-items-i.is _ c.bytes.ensures.bytes upto;
      way = λ d. way_next c.args.items.now c.args.key.now c.items.i c.index-items-i.result c.items-test.true c.index-items-i.is _ c.bytes.ensures.bytes upto d (c.items.invariant.way d);
    }

pub returns-then-is_below-clause-way : goal.returns-then-is_below-clause-way
returns-then-is_below-clause-way c = λ d. way_found c.args.items.now c.args.key.now c.items.i c.index-items-i.result c.items-test.true c.index-items-i.is _ c.bytes.ensures.bytes (c.is_below.ensures.0 c.if-is_below.true) d (c.items.invariant.way d)

pub returns-clause-way : goal.returns-clause-way
returns-clause-way c = λ d. way_last c.args.items.now c.args.key.now d c.items.i c.items-test.false (c.items.invariant.way d) (omega arith)
