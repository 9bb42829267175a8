use Rattle.std.proofs.Common.{◌∙◌}
use Rattle.sg_log.proofs.Runs.{reads_one}
use Rattle.sg_log.proofs.Windows.{size_read}
use Rattle.sg_log.proofs.reading.record_size.Goals as goal

pub returns-in_err-read_at-clause-reads : goal.returns-in_err-read_at-clause-reads
returns-in_err-read_at-clause-reads g c = reads_one c.read_at.ensures.counts c.read_at.ensures.does c.read_at.ensures.unchanged

pub returns-clause-reads : goal.returns-clause-reads
returns-clause-reads g c = reads_one c.read_at.ensures.counts c.read_at.ensures.does c.read_at.ensures.unchanged

pub returns-clause-size : goal.returns-clause-size
returns-clause-size g c r told fields text = c.read_u32.ensures.value ∙ size_read ((g.D.Disk.view c.args.disk.now).now c.args.area).seen c.args.at r c.read_at.new.into fields text (c.in_ok-read_at.ensures.bytes told)
