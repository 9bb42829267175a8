use Rattle.sg_log.proofs.Runs.{reads_one}
use Rattle.sg_log.proofs.reading.body_size.Goals as goal

pub returns-in_err-read_at-clause-reads : goal.returns-in_err-read_at-clause-reads
returns-in_err-read_at-clause-reads g c = reads_one c.read_at.ensures.counts c.read_at.ensures.does c.read_at.ensures.unchanged
