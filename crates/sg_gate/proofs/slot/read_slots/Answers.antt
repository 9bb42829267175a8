use Rattle.std.proofs.Common.{length, ◌∙◌, ap}
use Rattle.sg_base.specs.declared.area.Area.TheVariants.{Home}
use Rattle.sg_disk.specs.Disk.{State, window}
use Rattle.sg_gate.proofs.Reading.{only_read, reads_more}
use Rattle.sg_gate.proofs.Fields.{chosen}
use Rattle.sg_gate.proofs.slot.read_slots.Goals as goal

pub returns-in_err-read_at-clause-reads : goal.returns-in_err-read_at-clause-reads
returns-in_err-read_at-clause-reads g c = only_read c.read_at.ensures.counts c.read_at.ensures.does c.read_at.ensures.unchanged

pub returns-in_err-read_at-2-clause-reads : goal.returns-in_err-read_at-2-clause-reads
returns-in_err-read_at-2-clause-reads g c =
    reads_more (only_read c.read_at.ensures.counts c.read_at.ensures.does c.read_at.ensures.unchanged) (only_read c.read_at-2.ensures.counts c.read_at-2.ensures.does c.read_at-2.ensures.unchanged)

pub returns-clause-reads : goal.returns-clause-reads
returns-clause-reads g c =
    reads_more (only_read c.read_at.ensures.counts c.read_at.ensures.does c.read_at.ensures.unchanged) (only_read c.read_at-2.ensures.counts c.read_at-2.ensures.does c.read_at-2.ensures.unchanged)

pub returns-clause-second : goal.returns-clause-second
returns-clause-second g c told =
    c.in_ok-read_at-2.ensures.bytes told ∙ ap (λ (s : State). window (s Home).seen 4096 (length c.args.second.now)) (c.read_at.ensures.unchanged told)

pub returns-clause-counting : goal.returns-clause-counting
returns-clause-counting g c told =
    c.choose.ensures ∙ chosen ((g.D.Disk.view c.args.disk.now).now Home).seen (length c.args.first.now) (length c.args.second.now) c.read_at.new.into c.read_at-2.new.into
    (c.in_ok-read_at.ensures.bytes told) c.requires.first
    (c.in_ok-read_at-2.ensures.bytes told ∙ ap (λ (s : State). window (s Home).seen 4096 (length c.args.second.now)) (c.read_at.ensures.unchanged told)) c.requires.second
