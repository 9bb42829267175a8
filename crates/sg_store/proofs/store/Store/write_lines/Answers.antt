use Rattle.std.proofs.Common.{◌≤◌, sym, subst}
use Rattle.sg_lines.specs.declared.writer.Writer.{Writer}
use Rattle.sg_store.specs.Calls.{Goes}
use Rattle.sg_store.specs.Engine.{led}
use Rattle.sg_store.specs.Seen.{core_of}
use Rattle.sg_store.specs.Told.{FailsBy, WritesLines}
use Rattle.sg_store.proofs.Told as telling
use Rattle.sg_store.proofs.store.Store.write_lines.Goals as goal

-- what is behind the reference at the end is what the writer left of its sink, which is the same one
pub returns-clause-writes : goal.returns-clause-writes
returns-clause-writes g c t z from m told x lawful shows =
    let b = g.E.Engine.basis z in
    let old = led t z from (g.E.Engine.view c.args.self.now.engine) in
    let new = led t z from (g.E.Engine.view c.objects-told.new.self.engine) in
    let left = c.out-1.given.1 (sym c.objects-told.ensures.listener.same) in
    let writer : Writer g.row.K.Denot = record { sink = record c.args.out { ghost_name = c.writer-1.given } } in
    subst (λ (k : g.row.K.Denot). Goes t b old x (WritesLines (g.K.Sink.taken c.args.out.now) (g.K.Sink.taken k) t old.faults new.faults x c.objects-told.result) new (core_of c.objects-told.new.self)) (sym left)
    (telling.lines_written t b old new (core_of c.args.self.now) (core_of c.objects-told.new.self) x old.faults new.faults (λ (w : Writer g.row.K.Denot). w.sink.ghost_name) (λ (w : Writer g.row.K.Denot). g.K.Sink.taken w.sink.now)
    (λ (w : Writer g.row.K.Denot). g.K.Sink.faults w.sink.now) writer c.objects-told.new.to c.objects-told.result (c.objects-told.ensures.tells t z from m told x lawful shows))

pub returns-clause-later : goal.returns-clause-later
returns-clause-later g c =
    let left = c.out-1.given.1 (sym c.objects-told.ensures.listener.same) in
    subst (λ (k : g.row.K.Denot). g.K.Sink.faults c.args.out.now ≤ g.K.Sink.faults k) (sym left) c.objects-told.ensures.listener.later

pub returns-clause-counted : goal.returns-clause-counted
returns-clause-counted g c =
    let left = c.out-1.given.1 (sym c.objects-told.ensures.listener.same) in
    subst (λ (k : g.row.K.Denot). FailsBy (g.K.Sink.faults c.args.out.now) (g.K.Sink.faults k) c.objects-told.result) (sym left) c.objects-told.ensures.listener.counted
