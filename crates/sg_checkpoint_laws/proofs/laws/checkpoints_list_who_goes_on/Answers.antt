use Rattle.sg_checkpoint_laws.proofs.Listed.{lists_going}
use Rattle.sg_checkpoint_laws.proofs.laws.checkpoints_list_who_goes_on.Goals as goal

pub returns : goal.returns
returns c = λ t limits base tail first rs pages bands unfreed rows ordered actor acting rest few same. lists_going acting rest few same
