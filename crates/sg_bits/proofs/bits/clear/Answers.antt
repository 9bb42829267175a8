use Rattle.std.proofs.Common.{◌≤◌, ◌<◌, ◌*◌, ◌/◌, ◌%◌, length, arith}
use Rattle.sg_bits.proofs.RowBits.{word_clears}
use Rattle.sg_bits.proofs.bits.clear.Goals as goal

pub returns : goal.returns
returns c = word_clears c.args.words.now c.ones_between.result c.args.at (omega arith) c.ones_between.type_inv c.ones_between.ensures
