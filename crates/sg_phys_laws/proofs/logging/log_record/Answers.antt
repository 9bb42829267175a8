use Rattle.sg_phys_laws.proofs.logging.log_record.Goals as goal

pub returns-in-None-clause-runs : goal.returns-in-None-clause-runs
returns-in-None-clause-runs g c own o ds ps told a = c.log_plain.ensures.runs own _ o ds ps told a

pub returns-in-Some-SegWrite-clause-runs : goal.returns-in-Some-SegWrite-clause-runs
returns-in-Some-SegWrite-clause-runs g c own o ds ps told a = c.log_bytes.ensures.runs own _ o ds ps told a
