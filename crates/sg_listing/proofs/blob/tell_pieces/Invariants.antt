use Rattle.std.proofs.Common.{◌≡◌, length}
use Rattle.sg_blob.specs.Calls.{IfBlob}
use Rattle.sg_lines.specs.Heard.{HasHeard}
use Rattle.sg_lines.specs.Parts.{piece_parts}
use Rattle.sg_listing.proofs.Telling.{WasRead}
use Rattle.sg_ops.specs.Table.{Table}
use Rattle.sg_listing.proofs.blob.tell_pieces.Given as goal

abbrev pub invariant-pieces : goal.invariant-pieces
invariant-pieces g l = record {
  read : WasRead (g.P.PageSpace.view l.fn.space) (g.P.PageSpace.view l.space);
  later : (t : Table) → g.P.PageSpace.later t l.fn.space l.space;
  means : (t : Table) → g.P.PageSpace.means l.fn.space t → g.P.PageSpace.means l.space t;
  heard : IfBlob (g.P.PageSpace.view l.fn.space) l.root.0 (λ b. l.len ≡ length b.bytes → HasHeard g.L.Listener.ears l.fn.to (piece_parts l.number b.bytes) l.to);
  quiet : (g.L.Listener.ears).faults l.to ≡ (g.L.Listener.ears).faults l.fn.to;
  same : (g.L.Listener.ears).who l.to ≡ (g.L.Listener.ears).who l.fn.to;
}
