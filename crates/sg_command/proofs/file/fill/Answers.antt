use Rattle.std.proofs.Common.{arith, ◌-◌, ◌∙◌, length, drop}
use Rattle.std.proofs.lemmas.List.{length-drop, length-take-le}
use Rattle.sg_command.proofs.Reading.{filled_more, filled_end, length_kept}
use Rattle.sg_command.proofs.file.fill.Goals as goal

pub returns-then-count-eq0-clause-filled : goal.returns-then-count-eq0-clause-filled
returns-then-count-eq0-clause-filled g c =
    filled_end (g.S.Source.left c.args.source.now) c.pieces.into c.pieces.end (g.S.Source.left c.pieces.source) c.read.new.into _ (g.S.Source.left c.read.new.self) c.pieces.invariant.filled c.pieces.invariant.within
    (rw c.if-count-eq0.true at c.in-Ok.ensures.given)

pub pieces-preserved : goal.pieces-preserved
pieces-preserved g c =
    let same = length_kept c.pieces.into c.read.new.into c.pieces.end c.pieces.invariant.within c.read.auto.into in
    record {
      filled = filled_more (g.S.Source.left c.args.source.now) c.pieces.into c.pieces.end (g.S.Source.left c.pieces.source) c.read.new.into _ c.in-Ok.count (g.S.Source.left c.read.new.self) c.pieces.invariant.filled c.pieces.invariant.within c.in-Ok.ensures.within c.in-Ok.ensures.given;
      within = omega (arith, same, c.in-Ok.ensures.within, c.read.auto.into, length-take-le (length c.pieces.into - c.pieces.end) (drop c.pieces.end c.pieces.into) (omega (arith, length-drop c.pieces.end c.pieces.into)), c.pieces.invariant.within);
      size = same ∙ c.pieces.invariant.size;
      quiet = c.in-Ok.ensures.quiet ∙ c.pieces.invariant.quiet;
      later = omega (arith, c.pieces.invariant.later, c.read.ensures.later);
    }
