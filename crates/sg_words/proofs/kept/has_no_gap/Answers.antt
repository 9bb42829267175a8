use Rattle.std.proofs.Common.{◌-◌, ◌+◌, not, arith}
use Rattle.sg_words.specs.Spoken.{has_gap}
use Rattle.sg_words.proofs.Joined.{gap_more, gap_end}
use Rattle.sg_words.proofs.kept.has_no_gap.Goals as goal

pub loop-i-preserved : goal.loop-i-preserved
loop-i-preserved c = record {
  begun = omega (arith, c.loop-i.invariant.begun);
  rest =
      gap_more c.args.text.now (c.loop-i.i - 1) c.loop-i.i (c.loop-i.i + 1 - 1) (omega (arith, c.loop-i.invariant.begun)) c.loop-i-test.true (omega arith)
      c.loop-i.no_gap (not (has_gap c.args.text.now)) c.loop-i.invariant.rest;
}

pub returns : goal.returns
returns c = gap_end c.args.text.now (c.loop-i.i - 1) c.loop-i.no_gap (not (has_gap c.args.text.now)) (omega (arith, c.loop-i-test.false, c.loop-i.invariant.begun)) c.loop-i.invariant.rest
