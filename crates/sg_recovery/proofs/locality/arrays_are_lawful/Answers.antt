use Rattle.sg_recovery.proofs.ArrayLaws as arrays
use Rattle.sg_recovery.proofs.locality.arrays_are_lawful.Goals as goal

pub returns-clause-cells : goal.returns-clause-cells
returns-clause-cells c = arrays.array_laws

pub returns-clause-setting : goal.returns-clause-setting
returns-clause-setting c = arrays.array_setting
