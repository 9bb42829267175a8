use Rattle.std.proofs.Common.{arith}
use Rattle.sg_bits.proofs.WordBits.{none_left, lowest_left}
use Rattle.sg_bits.proofs.word.lowest_from.Goals as goal

pub returns-then-rest-eq0-clause-skipped : goal.returns-then-rest-eq0-clause-skipped
returns-then-rest-eq0-clause-skipped c = λ k after before. none_left c.args.word c.args.from c.if-rest-eq0.true k after

pub returns-else-rest-eq0-clause-bound : goal.returns-else-rest-eq0-clause-bound
returns-else-rest-eq0-clause-bound c = omega (arith, (lowest_left c.args.word c.args.from c.ranges.word.fits c.if-rest-eq0.false).bound)

pub returns-else-rest-eq0-clause-skipped : goal.returns-else-rest-eq0-clause-skipped
returns-else-rest-eq0-clause-skipped c = (lowest_left c.args.word c.args.from c.ranges.word.fits c.if-rest-eq0.false).skipped

pub returns-else-rest-eq0-clause-found : goal.returns-else-rest-eq0-clause-found
returns-else-rest-eq0-clause-found c = λ _. (lowest_left c.args.word c.args.from c.ranges.word.fits c.if-rest-eq0.false).found
