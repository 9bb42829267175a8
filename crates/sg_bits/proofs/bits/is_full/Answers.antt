use Rattle.sg_bits.proofs.RowBits.{none_is_full}
use Rattle.sg_bits.proofs.bits.is_full.Goals as goal

pub returns : goal.returns
returns c = none_is_full c.args.words.now c.args.word c.lowest_from.result (c.type_inv.words c.args.word).fits c.lowest_from.ensures.bound c.lowest_from.ensures.skipped c.lowest_from.ensures.found
