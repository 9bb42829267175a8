use Rattle.std.proofs.Common.{refl}
use Rattle.sg_contents.proofs.Limited as limited
use Rattle.sg_contents.proofs.limits.pages_have_limits.Goals as goal

pub returns-clause-body : goal.returns-clause-body
returns-clause-body c = λ space s row h among. limited.body_limits h row among row.kind (s.body row.root.0) refl (h.body row among)

pub returns-clause-catalog : goal.returns-clause-catalog
returns-clause-catalog c = λ space s page h owned. limited.catalog_limits h page owned
