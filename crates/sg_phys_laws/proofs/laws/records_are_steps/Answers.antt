use Rattle.std.proofs.Common.{◌++◌, refl}
use Rattle.sg_phys_laws.proofs.Agreeing.{all_agree_none, all_agree_more}
use Rattle.sg_phys_laws.proofs.laws.records_are_steps.Goals as goal

pub returns : goal.returns
returns c = record { none = all_agree_none; more = λ t o ds ps x. all_agree_more o ds ps (ds ++ ps) x t refl }
