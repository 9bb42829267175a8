use Rattle.sg_bits.proofs.WordBits.{ones_are}
use Rattle.sg_bits.proofs.word.ones_between.Goals as goal

pub returns : goal.returns
returns c = ones_are c.args.first c.args.end c.requires.some c.requires.fits
