use Rattle.std.proofs.Common.{◌%◌, ◌^◌, ap, ◌∙◌}
use Rattle.std.specs.Prelude.{sum}
use Rattle.sg_lines.specs.Parts.Part.{APiece}
use Rattle.sg_lines.specs.declared.adder.Adder.{Adder}
use Rattle.sg_lines.specs.declared.summary.Summary.{Summary}
use Rattle.sg_lines.proofs.Adding.{added, heard_part, mod_twice}
use Rattle.sg_lines.proofs.adder.AdderListener.piece.Goals as goal

pub returns : goal.returns
returns c =
    let is = c.contents.ensures in
    heard_part (λ (s : Adder). s.summary) c.args.self.now (record { summary = c.add.new.self }) (APiece c.args._at c.args.bytes.now) tt
    (c.add.ensures ∙ added c.args.self.now.summary c.contents.result (APiece c.args._at c.args.bytes.now) (ap (λ (s : Summary). s.objects) is) (ap (λ (s : Summary). s.items) is) (ap (λ (s : Summary). s.entries) is)
    (ap (λ (s : Summary). s.bytes) is) (ap (λ (s : Summary). s.sum % 2 ^ 64) is ∙ mod_twice c.sum_of.result (sum c.args.bytes.now) c.sum_of.ensures))
