use Rattle.sg_phys_laws.proofs.logging.log_without.Goals as goal

pub returns-clause-logs : goal.returns-clause-logs
returns-clause-logs g c own o ds ps told a = c.log_record.ensures.logs own o ds ps told (a _)

pub returns-clause-runs : goal.returns-clause-runs
returns-clause-runs g c own o ds ps told a = c.log_record.ensures.runs own o ds ps told (a _)

pub returns-clause-hands : goal.returns-clause-hands
returns-clause-hands g c = c.log_record.ensures.hands
