use Rattle.sg_reopen.proofs.Over.{cut_same, points_cut, moments_over}
use Rattle.sg_reopen.proofs.laws.cuts_stand.Goals as goal

pub returns : goal.returns
returns c = record { same = cut_same; points = points_cut; moments = moments_over }
