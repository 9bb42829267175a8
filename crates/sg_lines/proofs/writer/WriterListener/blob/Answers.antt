use Rattle.std.proofs.Common.{ℕ, List, codes, None, refl, subst}
use Rattle.sg_words.specs.Writing.{Writes}
use Rattle.sg_lines.specs.Parts.Part.{BlobBegins}
use Rattle.sg_lines.specs.Text.{heading}
use Rattle.sg_lines.specs.declared.writer.Writer.{Writer}
use Rattle.sg_lines.proofs.Writing.{heard_line}
use Rattle.sg_lines.proofs.writer.WriterListener.blob.Goals as goal

pub returns : goal.returns
returns g c =
    let sink = c.args.self.now.sink.now in
    let out = c.write_heading.new.out in
    heard_line (λ (w : Writer g.row.K.Denot). w.sink.ghost_name) (λ (w : Writer g.row.K.Denot). g.K.Sink.taken w.sink.now) (λ (w : Writer g.row.K.Denot). g.K.Sink.faults w.sink.now) c.args.self.now (BlobBegins c.args.name.now c.args.len) _ c.write_heading.result refl
    (subst (λ (t : List ℕ). Writes (g.K.Sink.taken sink) (heading (codes "blob ") t None c.args.len) (g.K.Sink.taken out) (g.K.Sink.faults sink) (g.K.Sink.faults out) c.write_heading.result) c.text.ensures c.write_heading.ensures)
