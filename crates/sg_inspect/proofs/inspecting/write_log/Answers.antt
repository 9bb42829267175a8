use Rattle.std.proofs.Common.{sym, ap, ◌∙◌, subst}
use Rattle.sg_base.specs.declared.area.Area.TheVariants.{Home}
use Rattle.sg_disk.specs.Disk.{State}
use Rattle.sg_gate.specs.Superblock.{superblock}
use Rattle.sg_log.proofs.Runs.{reads_more}
use Rattle.sg_inspect.specs.Logs.{IsLogRead}
use Rattle.sg_inspect.proofs.Read.{listed, cut_listing, of_formed, gate_reads, super_read, super_one, on_ok, on_err}
use Rattle.sg_inspect.proofs.inspecting.write_log.Goals as goal

pub returns-in-Ok-read_log-clause-took : goal.returns-in-Ok-read_log-clause-took
returns-in-Ok-read_log-clause-took g c sure =
    let says = ap (λ (t : State). superblock (t Home).seen) (c.read_super.ensures.reads.unchanged sure) ∙ super_read c.in-Ok.s ((g.D.Disk.view c.args.disk.now).now Home).seen (c.in-Ok.ensures.found sure) in
    let same = c.read_log.ensures.reads.unchanged sure in
    let log = subst (λ (t : State). IsLogRead t c.in-Ok.s c.in-Ok-read_log.gate) (sym same) (c.in-Ok-read_log.ensures.log sure says) in
    on_ok c.write_listing.result (c.write_listing.ensures.took sure log)
    (λ taken. listed log (g.K.Sink.taken c.args.out.now) (g.K.Sink.taken c.write_listing.new.out) (same ∙ c.read_super.ensures.reads.unchanged sure) taken)

pub returns-in-Ok-read_log-clause-cut : goal.returns-in-Ok-read_log-clause-cut
returns-in-Ok-read_log-clause-cut g c sure =
    let says = ap (λ (t : State). superblock (t Home).seen) (c.read_super.ensures.reads.unchanged sure) ∙ super_read c.in-Ok.s ((g.D.Disk.view c.args.disk.now).now Home).seen (c.in-Ok.ensures.found sure) in
    let same = c.read_log.ensures.reads.unchanged sure in
    let log = subst (λ (t : State). IsLogRead t c.in-Ok.s c.in-Ok-read_log.gate) (sym same) (c.in-Ok-read_log.ensures.log sure says) in
    on_err c.write_listing.result (c.write_listing.ensures.cut sure log)
    (λ cut. cut_listing log (g.K.Sink.taken c.args.out.now) (g.K.Sink.taken c.write_listing.new.out) (same ∙ c.read_super.ensures.reads.unchanged sure) cut)

pub returns-in-Ok-read_log-clause-reads : goal.returns-in-Ok-read_log-clause-reads
returns-in-Ok-read_log-clause-reads g c = reads_more (reads_more (gate_reads c.read_super.ensures.reads) c.read_log.ensures.reads) c.write_listing.ensures.reads

pub returns-clause-reads : goal.returns-clause-reads
returns-clause-reads g c = reads_more (gate_reads c.read_super.ensures.reads) c.read_log.ensures.reads

pub returns-clause-sound : goal.returns-clause-sound
returns-clause-sound g c s gate ns has sure says page inside =
    let same = c.read_super.ensures.reads.unchanged sure in
    let one = super_one c.in-Ok.s s ((g.D.Disk.view c.args.disk.now).now Home).seen (super_read c.in-Ok.s ((g.D.Disk.view c.args.disk.now).now Home).seen (c.in-Ok.ensures.found sure)) says in
    of_formed (g.D.Disk.view c.args.disk.now).now (g.D.Disk.view c.read_super.new.disk).now c.in-Ok.s s same one
    (λ gate ns has page inside. c.in-Err-read_log.ensures.sound gate ns has sure page inside) gate ns has page inside
