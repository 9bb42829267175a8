use Rattle.std.proofs.Common.{◌≡◌, ◌-◌, ◌≤◌, length}
use Rattle.sg_command.specs.File.{IsFilled}
use Rattle.sg_command.proofs.file.fill.Given as goal

abbrev pub invariant-pieces : goal.invariant-pieces
invariant-pieces g l = record {
  filled : IsFilled (g.S.Source.left l.fn.source) l.into l.end (g.S.Source.left l.source);
  within : l.end ≤ length l.into;
  size : length l.into ≡ length l.fn.into;
  quiet : g.S.Source.faults l.source ≡ g.S.Source.faults l.fn.source;
  later : g.S.Source.faults l.fn.source ≤ g.S.Source.faults l.source;
}

abbrev pub decreases-pieces : goal.decreases-pieces
decreases-pieces g l = length l.into - l.end
