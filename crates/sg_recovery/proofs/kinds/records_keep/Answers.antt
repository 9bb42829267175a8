use Rattle.sg_recovery.proofs.Appending as appending
use Rattle.sg_recovery.proofs.kinds.records_keep.Goals as goal

pub returns-clause-begin : goal.returns-clause-begin
returns-clause-begin g c = appending.begin_same g.G.Ground.setting

pub returns-clause-save : goal.returns-clause-save
returns-clause-save g c = appending.save_same g.G.Ground.setting

pub returns-clause-change : goal.returns-clause-change
returns-clause-change g c = appending.change_same g.G.Ground.setting

pub returns-clause-exact : goal.returns-clause-exact
returns-clause-exact g c = appending.exact_reverts g.G.Ground.setting

pub returns-clause-top_end : goal.returns-clause-top_end
returns-clause-top_end g c = appending.top_end_keeps g.G.Ground.setting

pub returns-clause-system : goal.returns-clause-system
returns-clause-system g c = appending.system_keeps g.G.Ground.setting

pub returns-clause-phys_comp : goal.returns-clause-phys_comp
returns-clause-phys_comp g c = appending.phys_comp_same g.G.Ground.setting

pub returns-clause-top_void : goal.returns-clause-top_void
returns-clause-top_void g c = appending.top_void_same g.G.Ground.setting

pub returns-clause-comp_end : goal.returns-clause-comp_end
returns-clause-comp_end g c = appending.comp_end_keeps g.G.Ground.setting

pub returns-clause-end : goal.returns-clause-end
returns-clause-end g c = appending.end_same g.G.Ground.setting

pub returns-clause-commit : goal.returns-clause-commit
returns-clause-commit g c = appending.commit_with g.G.Ground.setting
