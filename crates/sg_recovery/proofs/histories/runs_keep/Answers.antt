use Rattle.sg_recovery.proofs.Running as running
use Rattle.sg_recovery.proofs.Telling as telling
use Rattle.sg_recovery.proofs.histories.runs_keep.Goals as goal

pub returns-clause-goes_on : goal.returns-clause-goes_on
returns-clause-goes_on g c = running.goes_on g.G.Ground.setting

pub returns-clause-same : goal.returns-clause-same
returns-clause-same g c = running.goes_same g.G.Ground.setting

pub returns-clause-commits : goal.returns-clause-commits
returns-clause-commits g c = running.commits g.G.Ground.setting

pub returns-clause-looks : goal.returns-clause-looks
returns-clause-looks g c = running.looks g.G.Ground.setting

pub returns-clause-forgets : goal.returns-clause-forgets
returns-clause-forgets g c = running.forgets g.G.Ground.setting

pub returns-clause-locks : goal.returns-clause-locks
returns-clause-locks g c = running.locks g.G.Ground.setting

pub returns-clause-releases : goal.returns-clause-releases
returns-clause-releases g c = running.releases g.G.Ground.setting

pub returns-clause-stands : goal.returns-clause-stands
returns-clause-stands g c = running.running_stands g.G.Ground.setting

pub returns-clause-fronts : goal.returns-clause-fronts
returns-clause-fronts g c = telling.run_stands g.G.Ground.setting

pub returns-clause-run : goal.returns-clause-run
returns-clause-run g c = telling.run_keeps g.G.Ground.setting

pub returns-clause-fresh : goal.returns-clause-fresh
returns-clause-fresh g c = telling.fresh_runs g.G.Ground.setting
