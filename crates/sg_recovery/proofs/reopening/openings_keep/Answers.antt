use Rattle.sg_recovery.proofs.Opening as opening
use Rattle.sg_recovery.proofs.reopening.openings_keep.Goals as goal

pub returns-clause-step : goal.returns-clause-step
returns-clause-step g c = opening.opens_keeps g.G.Ground.setting

pub returns-clause-pages : goal.returns-clause-pages
returns-clause-pages g c = opening.opens_pages g.G.Ground.setting

pub returns-clause-fronts : goal.returns-clause-fronts
returns-clause-fronts g c = opening.opening_stands g.G.Ground.setting

pub returns-clause-reads : goal.returns-clause-reads
returns-clause-reads g c = opening.opened_reads g.G.Ground.setting
