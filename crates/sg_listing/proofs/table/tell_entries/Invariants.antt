use Rattle.std.proofs.Common.{◌≡◌, take}
use Rattle.std.specs.List.{flat_map}
use Rattle.std.specs.FinMap.{entries, keys}
use Rattle.sg_contents.specs.Meaning.{map_of}
use Rattle.sg_hash.specs.Calls.{IfHashTable}
use Rattle.sg_lines.specs.Heard.{HasHeard}
use Rattle.sg_listing.proofs.Telling.{WasRead}
use Rattle.sg_listing.proofs.Told.{one_entry}
use Rattle.sg_ops.specs.Table.{Table}
use Rattle.sg_listing.proofs.table.tell_entries.Given as goal

abbrev pub invariant-keys : goal.invariant-keys
invariant-keys g l = record {
  read : WasRead (g.P.PageSpace.view l.fn.space) (g.P.PageSpace.view l.space);
  later : (t : Table) → g.P.PageSpace.later t l.fn.space l.space;
  means : (t : Table) → g.P.PageSpace.means l.fn.space t → g.P.PageSpace.means l.space t;
  heard : IfHashTable (g.P.PageSpace.view l.fn.space) l.root.0 (λ t. l.sorted ≡ keys (map_of t) → HasHeard g.L.Listener.ears l.fn.to (flat_map one_entry (take l.key-index (entries (map_of t)))) l.to);
  quiet : (g.L.Listener.ears).faults l.to ≡ (g.L.Listener.ears).faults l.fn.to;
  same : (g.L.Listener.ears).who l.to ≡ (g.L.Listener.ears).who l.fn.to;
}
