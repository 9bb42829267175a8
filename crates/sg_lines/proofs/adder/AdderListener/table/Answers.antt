use Rattle.std.proofs.Common.{◌%◌, ◌^◌, ap, ◌∙◌}
use Rattle.sg_lines.specs.Parts.Part.{TableBegins}
use Rattle.sg_lines.specs.declared.adder.Adder.{Adder}
use Rattle.sg_lines.specs.declared.summary.Summary.{Summary}
use Rattle.sg_lines.proofs.Adding.{added, heard_part}
use Rattle.sg_lines.proofs.adder.AdderListener.table.Goals as goal

pub returns : goal.returns
returns c =
    let is = c.beginning.ensures in
    heard_part (λ (s : Adder). s.summary) c.args.self.now (record { summary = c.add.new.self }) (TableBegins c.args._name.now c.args.len) tt
    (c.add.ensures ∙ added c.args.self.now.summary c.beginning.result (TableBegins c.args._name.now c.args.len) (ap (λ (s : Summary). s.objects) is) (ap (λ (s : Summary). s.items) is) (ap (λ (s : Summary). s.entries) is)
    (ap (λ (s : Summary). s.bytes) is) (ap (λ (s : Summary). s.sum % 2 ^ 64) is))
