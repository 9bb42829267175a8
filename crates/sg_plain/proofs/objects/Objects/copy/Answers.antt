use Rattle.std.proofs.Common.{◌∙◌}
use Rattle.sg_plain.specs.Shown.{shown}
use Rattle.sg_plain.proofs.Found.{copied}
use Rattle.sg_plain.proofs.objects.Objects.copy.Goals as goal

pub returns-in-Ok : goal.returns-in-Ok
returns-in-Ok c = copied shown _ _ (λ x y e. e) (λ v w e. e) c.self.inside.map.entries c.in-Ok.map.entries c.in-Ok.ensures.cases ∙ c.self.view_is
