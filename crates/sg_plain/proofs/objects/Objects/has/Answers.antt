use Rattle.std.proofs.Common.{sym, ap, ◌∙◌}
use Rattle.std.specs.Option.{is_some, option_copied}
use Rattle.sg_plain.specs.Shown.{shown}
use Rattle.sg_plain.proofs.Found.{mapped_some}
use Rattle.sg_plain.proofs.objects.Objects.has.Goals as goal

pub returns : goal.returns
returns c = c.is_some.ensures ∙ (sym (mapped_some _ c.get.result) ∙ (sym (mapped_some shown (option_copied c.get.result)) ∙ ap is_some c.get.ensures))
