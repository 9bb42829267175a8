use Rattle.sg_stock.proofs.Bounds.{body_bound, body_bands}
use Rattle.sg_stock.proofs.Leaving.{leaves_room}
use Rattle.sg_stock.proofs.Rising.{rising}
use Rattle.sg_stock.proofs.laws.objects_leave_room.Goals as goal

pub returns-clause-obeys : goal.returns-clause-obeys
returns-clause-obeys c = leaves_room

pub returns-clause-body : goal.returns-clause-body
returns-clause-body c = λ space kind root b h. (body_bound space kind root b h, body_bands space kind root b h)

pub returns-clause-rises : goal.returns-clause-rises
returns-clause-rises c = rising
