use Rattle.sg_attach.proofs.Repeats.{repeats_most, ends_marked, standing_marked}
use Rattle.sg_attach.proofs.laws.checkpoints_bound_openings.Goals as goal

pub returns : goal.returns
returns c = record { most = repeats_most; ends = ends_marked; stands = standing_marked }
