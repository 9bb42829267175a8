use Rattle.sg_recovery.proofs.Cells as cells
use Rattle.sg_recovery.proofs.locality.cells_are_lawful.Goals as goal

pub returns : goal.returns
returns g c = cells.cells_laws g.G.CellGround.cells
