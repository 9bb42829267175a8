use Rattle.sg_reading.specs.Model.{bare_ground}
use Rattle.sg_room.proofs.All.{stock_laws}
use Rattle.sg_room.proofs.laws.lines_keep_stock.Goals as goal

pub returns : goal.returns
returns c = λ t. stock_laws t bare_ground
