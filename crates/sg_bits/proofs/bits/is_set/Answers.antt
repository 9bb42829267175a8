use Rattle.sg_bits.proofs.RowBits.{lowest_is_set}
use Rattle.sg_bits.proofs.bits.is_set.Goals as goal

pub returns : goal.returns
returns c = lowest_is_set c.args.words.now c.args.at c.lowest_from.result c.lowest_from.ensures.after c.lowest_from.ensures.skipped c.lowest_from.ensures.found
