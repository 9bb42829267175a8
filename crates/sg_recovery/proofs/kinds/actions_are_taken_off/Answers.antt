use Rattle.sg_recovery.proofs.Alike as alike
use Rattle.sg_recovery.proofs.kinds.actions_are_taken_off.Goals as goal

pub returns-clause-reverts : goal.returns-clause-reverts
returns-clause-reverts g c = λ action. alike.alike_reverts g.G.Likeness.pages.setting (g.G.Likeness.pages.alike action)

pub returns-clause-none : goal.returns-clause-none
returns-clause-none g c = λ action. alike.takes_none g.G.Likeness.pages.setting (g.G.Likeness.pages.alike action)

pub returns-clause-more : goal.returns-clause-more
returns-clause-more g c = λ action. alike.takes_more g.G.Likeness.pages.setting (g.G.Likeness.pages.alike action)

pub returns-clause-less : goal.returns-clause-less
returns-clause-less g c = λ action. alike.takes_less g.G.Likeness.pages.setting (g.G.Likeness.pages.alike action)

pub returns-clause-reads : goal.returns-clause-reads
returns-clause-reads g c = λ action. alike.takes_reads g.G.Likeness.pages.setting (g.G.Likeness.pages.alike action)

pub returns-clause-each : goal.returns-clause-each
returns-clause-each g c = λ action. alike.takes_reverts g.G.Likeness.pages.setting (g.G.Likeness.pages.alike action)
