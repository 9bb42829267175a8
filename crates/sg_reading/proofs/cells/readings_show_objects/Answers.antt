use Rattle.sg_reading.proofs.Slotted as slotted
use Rattle.sg_reading.proofs.cells.readings_show_objects.Goals as goal

pub returns-clause-names : goal.returns-clause-names
returns-clause-names c = slotted.get_objects

pub returns-clause-cells : goal.returns-clause-cells
returns-clause-cells c = slotted.cell_shown
