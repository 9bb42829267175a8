-- A log's faults as those of an analysis of it.
use Rattle.sg_log.specs.declared.fault.LogFault.{LogFault}
use Rattle.sg_log.specs.declared.fault.LogFault.TheVariants as log
use Rattle.sg_analysis.specs.declared.fault.AnalysisFault.{AnalysisFault}
use Rattle.sg_analysis.specs.declared.fault.AnalysisFault.TheVariants.{Disk, Damaged, Memory}

abbrev pub of_log : LogFault → AnalysisFault
of_log log.Disk = Disk
of_log log.LogEnd = Disk
of_log (log.Damaged at) = Damaged at
of_log log.Memory = Memory
