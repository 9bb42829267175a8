use Rattle.sg_reading.proofs.Laws as laws
use Rattle.sg_reading.proofs.cells.readings_are_lawful.Goals as goal

pub returns-clause-cells : goal.returns-clause-cells
returns-clause-cells g c = λ t. laws.model_laws t g.R.Readable.pages

pub returns-clause-places : goal.returns-clause-places
returns-clause-places g c = λ t. laws.model_setting t g.R.Readable.pages
