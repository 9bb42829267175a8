use Rattle.std.proofs.Common.{◌∙◌}
use Rattle.sg_plain.specs.Tables.{shown_value}
use Rattle.sg_plain.proofs.Found.{copied}
use Rattle.sg_plain.proofs.table.TableClone.clone.Goals as goal

pub returns : goal.returns
returns c = record { cases = copied shown_value _ _ (λ x y e. e) (λ v w e. e) c.self.inside.map.entries c.in_ok-clone.field-0.entries c.in_ok-clone.ensures.cases ∙ c.self.view_is }
