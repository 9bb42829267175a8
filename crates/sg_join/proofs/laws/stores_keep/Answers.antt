use Rattle.sg_join.proofs.Keeping as keeping
use Rattle.sg_join.proofs.laws.stores_keep.Goals as goal

pub returns-clause-goes : goal.returns-clause-goes
returns-clause-goes g c = keeping.goes g.G.Ground.setting

pub returns-clause-commits : goal.returns-clause-commits
returns-clause-commits g c = keeping.commits g.G.Ground.setting

pub returns-clause-looks : goal.returns-clause-looks
returns-clause-looks g c = keeping.looks g.G.Ground.setting

pub returns-clause-forgets : goal.returns-clause-forgets
returns-clause-forgets g c = keeping.forgets g.G.Ground.setting

pub returns-clause-locks : goal.returns-clause-locks
returns-clause-locks g c = keeping.locks g.G.Ground.setting

pub returns-clause-releases : goal.returns-clause-releases
returns-clause-releases g c = keeping.releases g.G.Ground.setting

pub returns-clause-forces : goal.returns-clause-forces
returns-clause-forces g c = keeping.forced g.G.Ground.setting
