use Rattle.std.proofs.Common.{◌≤◌, ◌<◌, ◌-◌, ◌*◌, ◌/◌, ◌%◌, length, arith}
use Rattle.sg_bits.proofs.RowBits.{adds_none, adds_more, word_adds}
use Rattle.sg_bits.proofs.bits.set.Goals as goal

pub words-init : goal.words-init
words-init c = record { after = omega arith; within = omega arith; adds = adds_none c.args.words.now c.args.first }

pub words-preserved : goal.words-preserved
words-preserved c =
    let past : c.words.here ≤ c.min-next.result = omega arith in
    let within : c.words.here / 64 < length c.words.words = omega (arith, c.words.auto.words, c.requires) in
    record {
      after = omega arith;
      within = omega arith;
      adds = adds_more c.args.words.now c.words.words _ c.args.first c.words.here c.min-next.result c.words.invariant.after past c.words.invariant.adds
          (word_adds c.words.words (c.words.here / 64) c.ones_between.result (c.words.here % 64) (c.min-next.result - c.words.here / 64 * 64) c.words.here c.min-next.result
          within c.ones_between.ensures (omega arith) (omega arith) (omega arith));
    }
