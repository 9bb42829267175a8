use Rattle.sg_recovery.proofs.Pages as pages
use Rattle.sg_recovery.proofs.kinds.pages_last.Goals as goal

pub returns-clause-change : goal.returns-clause-change
returns-clause-change g c = pages.change_pages g.G.Ground.setting

pub returns-clause-top_end : goal.returns-clause-top_end
returns-clause-top_end g c = pages.top_end_pages g.G.Ground.setting

pub returns-clause-comp_end : goal.returns-clause-comp_end
returns-clause-comp_end g c = pages.comp_end_pages g.G.Ground.setting

pub returns-clause-phys_comp : goal.returns-clause-phys_comp
returns-clause-phys_comp g c = pages.phys_comp_pages g.G.Ground.setting

pub returns-clause-top_void : goal.returns-clause-top_void
returns-clause-top_void g c = pages.top_void_pages g.G.Ground.setting

pub returns-clause-end : goal.returns-clause-end
returns-clause-end g c = pages.end_pages g.G.Ground.setting

pub returns-clause-commit : goal.returns-clause-commit
returns-clause-commit g c = pages.commit_pages g.G.Ground.setting
