use Rattle.sg_ground.proofs.Collections.{one_collection}
use Rattle.sg_phys_laws.specs.Recovers.{RecoversBy}
use Rattle.sg_shown.specs.Shown.{basis_at}
use Rattle.sg_mount.specs.Opening.{sizes_in}
use Rattle.sg_mount.proofs.Standing.{has_sizes, new_stands, one_log, one_log_sized, stands_own}
use Rattle.sg_mount.proofs.laws.images_open.Goals as goal

pub returns-clause-new : goal.returns-clause-new
returns-clause-new c = new_stands

pub returns-clause-one_log : goal.returns-clause-one_log
returns-clause-one_log c = one_log

pub returns-clause-one : goal.returns-clause-one
returns-clause-one c = λ t i m other h k. one_collection (basis_at RecoversBy (sizes_in i)) (one_log_sized (sizes_in i)) t i m other h k

pub returns-clause-sized : goal.returns-clause-sized
returns-clause-sized c = λ t z i m h. has_sizes t z i h.log h.pages h.recovers

pub returns-clause-own : goal.returns-clause-own
returns-clause-own c = stands_own
