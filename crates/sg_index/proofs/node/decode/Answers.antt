use Rattle.std.proofs.Common.{true, false}
use Rattle.sg_index.proofs.Fits.{fit_if, size_if}
use Rattle.sg_index.proofs.node.decode.Goals as goal

pub returns-then-leaf-clause-fit : goal.returns-then-leaf-clause-fit
returns-then-leaf-clause-fit c = rw c.if-leaf.true (fit_if (λ n. n.items) true c.args.bytes.now c.are_bytes.ensures c.read_leaf.result c.read_leaf.ensures)

pub returns-then-leaf-clause-size : goal.returns-then-leaf-clause-size
returns-then-leaf-clause-size c = rw c.if-leaf.true (size_if (λ n. n.items) true c.args.bytes.now c.are_bytes.ensures c.read_leaf.result c.read_leaf.ensures)

pub returns-else-leaf-clause-fit : goal.returns-else-leaf-clause-fit
returns-else-leaf-clause-fit c = rw c.if-leaf.false (fit_if (λ n. n.items) false c.args.bytes.now c.are_bytes.ensures c.read_inner.result c.read_inner.ensures)

pub returns-else-leaf-clause-size : goal.returns-else-leaf-clause-size
returns-else-leaf-clause-size c = rw c.if-leaf.false (size_if (λ n. n.items) false c.args.bytes.now c.are_bytes.ensures c.read_inner.result c.read_inner.ensures)
