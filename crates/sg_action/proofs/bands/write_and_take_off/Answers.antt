use Rattle.std.proofs.Common.{ℕ, List, length, refl, ap, ◌∙◌}
use Rattle.sg_base.specs.Overwritten.{overwritten}
use Rattle.sg_action.proofs.WrittenBack.{overwritten_back}
use Rattle.sg_action.proofs.bands.write_and_take_off.Goals as goal

pub returns : goal.returns
returns c = c.overwrite-2.ensures ∙ (ap (λ (xs : List ℕ). overwritten xs c.args.at c.args.before.now) c.overwrite.ensures ∙ overwritten_back c.args.band.now c.args.bytes.now c.args.before.now c.args.at (length c.args.bytes.now) refl c.requires)
