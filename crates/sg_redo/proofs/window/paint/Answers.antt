use Rattle.sg_redo.proofs.Painting.{painted}
use Rattle.sg_redo.proofs.window.paint.Goals as goal

pub returns-clause-written : goal.returns-clause-written
returns-clause-written g c = search (painted, c.requires.window, c.requires.lies, c.render.ensures)
