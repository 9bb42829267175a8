use Rattle.std.proofs.Common.{refl}
use Rattle.sg_lines.specs.Parts.Part.{AnEntry}
use Rattle.sg_lines.specs.declared.writer.Writer.{Writer}
use Rattle.sg_lines.proofs.Writing.{heard_line}
use Rattle.sg_lines.proofs.writer.WriterListener.entry.Goals as goal

pub returns : goal.returns
returns g c =
    heard_line (λ (w : Writer g.row.K.Denot). w.sink.ghost_name) (λ (w : Writer g.row.K.Denot). g.K.Sink.taken w.sink.now) (λ (w : Writer g.row.K.Denot). g.K.Sink.faults w.sink.now) c.args.self.now (AnEntry c.args.key.now c.args.value.now) _ c.write_entry.result refl c.write_entry.ensures
