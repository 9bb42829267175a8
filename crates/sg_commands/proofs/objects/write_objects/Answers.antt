use Rattle.sg_store.specs.Seen.{core_of}
use Rattle.sg_commands.specs.Drawing.{sunk}
use Rattle.sg_commands.specs.declared.objects.Listing.TheVariants.{Summary}
use Rattle.sg_commands.proofs.Written.{text_written, unflushed, flushed_first}
use Rattle.sg_commands.proofs.objects.write_objects.Goals as goal

pub returns-in-Text-clause-writes : goal.returns-in-Text-clause-writes
returns-in-Text-clause-writes g c =
    let h = c.write_text.ensures in
    rw c.in-Text.is (text_written (g.E.Engine.view c.args.store.now.engine) (g.E.Engine.view c.write_text.new.self.engine) (core_of c.args.store.now) (core_of c.write_text.new.self)
    (sunk (g.K.Sink.taken c.args.out.now) (g.K.Sink.faults c.args.out.now)) (sunk (g.K.Sink.taken c.write_text.new.out) (g.K.Sink.faults c.write_text.new.out))
    h.means h.heeds c.requires.first c.write_text.result c.status_of_telling.result c.status_of_telling.ensures h.causes h.counted h.writes)

pub returns-in-Ok-clause-writes : goal.returns-in-Ok-clause-writes
returns-in-Ok-clause-writes g c =
    let h = c.in-Ok.ensures in
    rw c.in-Summary.is (flushed_first (g.E.Engine.view c.args.store.now.engine) (g.E.Engine.view c.flush.new.self.engine) (g.E.Engine.view c.write_sum.new.store.engine) (core_of c.args.store.now)
    (core_of c.flush.new.self) (core_of c.write_sum.new.store) Summary c.write_sum.result (sunk (g.K.Sink.taken c.args.out.now) (g.K.Sink.faults c.args.out.now))
    (sunk (g.K.Sink.taken c.write_sum.new.out) (g.K.Sink.faults c.write_sum.new.out)) h.means h.heeds h.causes h.flushes c.write_sum.ensures.writes)

pub returns-in-Err-clause-writes : goal.returns-in-Err-clause-writes
returns-in-Err-clause-writes g c =
    let h = c.in-Err.ensures in
    let same = sunk (g.K.Sink.taken c.args.out.now) (g.K.Sink.faults c.args.out.now) in
    rw c.in-Summary.is (unflushed (g.E.Engine.view c.args.store.now.engine) (g.E.Engine.view c.flush.new.self.engine) (core_of c.args.store.now) (core_of c.flush.new.self)
    same same h.means h.heeds c.requires.first c.in-Err.field-0 h.causes h.stop h.flushes)
