use Rattle.std.proofs.Common.{◌≡◌, ℕ, sym, subst}
use Rattle.sg_base.specs.Ends.{HasRisen}
use Rattle.sg_contents.specs.Meaning.{reading}
use Rattle.sg_lines.specs.Parts.{lines_of, parts_of}
use Rattle.sg_lines.specs.declared.writer.Writer.{Writer}
use Rattle.sg_reading.specs.Reading.{objects}
use Rattle.sg_listing.specs.Telling.{OnListener, IsWritten}
use Rattle.sg_listing.proofs.Written.{told_written}
use Rattle.sg_listing.proofs.text.write_lines.Goals as goal

-- what is behind the reference at the end is what the writer left of its sink, which is the same one
pub returns-clause-lines : goal.returns-clause-lines
returns-clause-lines g c = λ shows s h.
    let left = c.out-1.given.1 (sym c.tell-told.ensures.listener.same) in
    let writer : Writer g.row.K.Denot = record { sink = record c.args.out { ghost_name = c.writer-1.given } } in
    subst (λ (k : g.row.K.Denot). IsWritten (g.K.Sink.taken c.args.out.now) (lines_of (parts_of (objects (reading s)))) (g.K.Sink.taken k) c.tell-told.result) (sym left)
    (told_written ℕ (λ (w : Writer g.row.K.Denot). w.sink.ghost_name) (λ (w : Writer g.row.K.Denot). g.K.Sink.taken w.sink.now) (λ (w : Writer g.row.K.Denot). g.K.Sink.faults w.sink.now) writer (parts_of (objects (reading s))) c.tell-told.new.to c.tell-told.result (c.tell-told.ensures.heard shows s h))

pub returns-clause-counted : goal.returns-clause-counted
returns-clause-counted g c =
    let left = c.out-1.given.1 (sym c.tell-told.ensures.listener.same) in
    let before = g.K.Sink.faults c.args.out.now in
    subst (λ (k : g.row.K.Denot). OnListener c.tell-told.result (g.K.Sink.faults k ≡ before) (HasRisen before (g.K.Sink.faults k))) (sym left) c.tell-told.ensures.listener.counted
