use Rattle.sg_index.proofs.Headers.{headed_by}
use Rattle.sg_index.proofs.header.keep_header.Goals as goal

pub returns-clause-headed : goal.returns-clause-headed
returns-clause-headed g c = λ is. headed_by _ _ c.args.header c.args.next c.requires.root c.ranges.next.fits c.requires.low c.requires.high c.write_header.result c.write_header.ensures.put
