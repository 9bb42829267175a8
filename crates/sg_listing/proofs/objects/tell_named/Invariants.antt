use Rattle.std.proofs.Common.{◌≡◌, take}
use Rattle.std.specs.FinMap.{entries, keys}
use Rattle.sg_contents.specs.Meaning.{reading}
use Rattle.sg_contents.specs.Standing.{IfContents}
use Rattle.sg_lines.specs.Heard.{HasHeard}
use Rattle.sg_lines.specs.Parts.{parts_of_all}
use Rattle.sg_listing.proofs.Telling.{WasRead}
use Rattle.sg_ops.specs.Table.{Table}
use Rattle.sg_reading.specs.Reading.{objects}
use Rattle.sg_listing.proofs.objects.tell_named.Given as goal

abbrev pub invariant-names : goal.invariant-names
invariant-names g l = record {
  read : WasRead (g.P.PageSpace.view l.fn.space) (g.P.PageSpace.view l.space);
  later : (t : Table) → g.P.PageSpace.later t l.fn.space l.space;
  means : (t : Table) → g.P.PageSpace.means l.fn.space t → g.P.PageSpace.means l.space t;
  heard : IfContents (g.P.PageSpace.view l.fn.space) (λ s. l.names ≡ keys (objects (reading s)) → HasHeard g.L.Listener.ears l.fn.to (parts_of_all (take l.name-index (entries (objects (reading s))))) l.to);
  quiet : (g.L.Listener.ears).faults l.to ≡ (g.L.Listener.ears).faults l.fn.to;
  same : (g.L.Listener.ears).who l.to ≡ (g.L.Listener.ears).who l.fn.to;
}
