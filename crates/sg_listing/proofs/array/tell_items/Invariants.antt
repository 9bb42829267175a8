use Rattle.std.proofs.Common.{◌≡◌}
use Rattle.sg_array.specs.Calls.{IfArray}
use Rattle.sg_lines.specs.Heard.{HasHeard}
use Rattle.sg_lines.specs.Parts.{item_parts}
use Rattle.sg_listing.proofs.Telling.{WasRead}
use Rattle.sg_ops.specs.Table.{Table}
use Rattle.sg_listing.proofs.array.tell_items.Given as goal

abbrev pub invariant-items : goal.invariant-items
invariant-items g l = record {
  read : WasRead (g.P.PageSpace.view l.fn.space) (g.P.PageSpace.view l.space);
  later : (t : Table) → g.P.PageSpace.later t l.fn.space l.space;
  means : (t : Table) → g.P.PageSpace.means l.fn.space t → g.P.PageSpace.means l.space t;
  heard : IfArray (g.P.PageSpace.view l.fn.space) l.root.0 (λ a. l.size ≡ a.size → HasHeard g.L.Listener.ears l.fn.to (item_parts l.index a.items) l.to);
  quiet : (g.L.Listener.ears).faults l.to ≡ (g.L.Listener.ears).faults l.fn.to;
  same : (g.L.Listener.ears).who l.to ≡ (g.L.Listener.ears).who l.fn.to;
}
