use Rattle.sg_commands.specs.Drawing.{sunk}
use Rattle.sg_commands.proofs.Logged.{untouched_as_seen, lists_ok, lists_err}
use Rattle.sg_commands.proofs.listing.list_log.Goals as goal

pub returns-in-Ok-clause-lists : goal.returns-in-Ok-clause-lists
returns-in-Ok-clause-lists g c =
    let h = c.in-Ok.ensures in
    lists_ok g.D.Disk.told (g.D.Disk.view c.args.disk.now) (g.D.Disk.view c.write_log.new.disk) (sunk (g.K.Sink.taken c.args.out.now) (g.K.Sink.faults c.args.out.now))
    (sunk (g.K.Sink.taken c.write_log.new.out) (g.K.Sink.faults c.write_log.new.out))
    (record {
      took = h.took;
      cut = h.cut;
      untouched = tt;
      cause = h.faults;
      shut = λ is closed. h.shut is closed.0 closed.1;
      sound = λ is log. tt;
      heeded = h.heeded;
      reads = h.reads;
    })

pub returns-in-Err-clause-lists : goal.returns-in-Err-clause-lists
returns-in-Err-clause-lists g c =
    let h = c.in-Err.ensures in
    lists_err g.D.Disk.told (g.D.Disk.view c.args.disk.now) (g.D.Disk.view c.write_log.new.disk) (sunk (g.K.Sink.taken c.args.out.now) (g.K.Sink.faults c.args.out.now))
    (sunk (g.K.Sink.taken c.write_log.new.out) (g.K.Sink.faults c.write_log.new.out)) c.in-Err.fault c.status_of_inspection.result c.status_of_inspection.ensures
    (record {
      took = h.took;
      cut = h.cut;
      untouched = untouched_as_seen (λ s. g.K.Sink.taken s) c.args.out.now c.write_log.new.out c.in-Err.fault h.untouched;
      cause = h.faults;
      shut = λ is closed. h.shut is closed.0 closed.1;
      sound = λ is log. h.sound log.super log.gate log.log.records log.log.has is log.log.says log.log.formed log.log.inside;
      heeded = h.heeded;
      reads = h.reads;
    })
