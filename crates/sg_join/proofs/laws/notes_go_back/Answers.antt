use Rattle.sg_join.proofs.Undoing as undoing
use Rattle.sg_join.proofs.laws.notes_go_back.Goals as goal

pub returns-clause-last : goal.returns-clause-last
returns-clause-last g c = undoing.last_undone g.G.Ground.setting

pub returns-clause-free : goal.returns-clause-free
returns-clause-free g c = undoing.last_free g.G.Ground.setting

pub returns-clause-undone : goal.returns-clause-undone
returns-clause-undone g c = undoing.undone g.G.Ground.setting
