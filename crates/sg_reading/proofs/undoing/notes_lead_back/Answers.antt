use Rattle.sg_reading.proofs.Left as left
use Rattle.sg_reading.proofs.Lines as lines
use Rattle.sg_reading.proofs.undoing.notes_lead_back.Goals as goal

pub returns-clause-leaves : goal.returns-clause-leaves
returns-clause-leaves g c = λ t. left.leaves_undone t g.R.Readable.pages

pub returns-clause-undone : goal.returns-clause-undone
returns-clause-undone g c = λ t. lines.line_undoes t g.R.Readable.pages
