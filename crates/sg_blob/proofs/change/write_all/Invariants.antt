use Rattle.std.proofs.Common.{◌≡◌, length, ◌-◌, take}
use Rattle.sg_blob.proofs.Pieces.{HasPieces}
use Rattle.sg_blob.proofs.Writing.{WritesTo}
use Rattle.sg_blob.specs.Steps.{HasPlace, with_bytes}
use Rattle.sg_ops.specs.Table.{Table}
use Rattle.sg_blob.proofs.change.write_all.Given as goal

abbrev pub invariant-pieces : goal.invariant-pieces
invariant-pieces g l = record {
  so_far : WritesTo (g.P.PageSpace.view l.fn.space) (g.P.PageSpace.view l.space) l.root.0 (HasPlace l.at (length l.bytes)) (with_bytes l.at (take l.done l.bytes)) l.done (length l.bytes);
  later : (t : Table) → g.P.PageSpace.later t l.fn.space l.space;
  means : (t : Table) → g.P.PageSpace.means l.fn.space t → g.P.PageSpace.means l.space t;
  quiet : (g.P.PageSpace.view l.space).faults ≡ (g.P.PageSpace.view l.fn.space).faults;
  few : HasPieces (g.P.PageSpace.view l.fn.space).records (g.P.PageSpace.view l.space).records l.at l.done (length l.bytes);
}

abbrev pub decreases-pieces : goal.decreases-pieces
decreases-pieces g l = length l.bytes - l.done
