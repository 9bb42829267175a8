use Rattle.sg_recovery.proofs.Unfinished as unfinished
use Rattle.sg_recovery.proofs.Chaining as chaining
use Rattle.sg_recovery.proofs.Linked as linked
use Rattle.sg_recovery.proofs.walks.take_offs_find.Goals as goal

pub returns-clause-all : goal.returns-clause-all
returns-clause-all g c = unfinished.all_found

pub returns-clause-none : goal.returns-clause-none
returns-clause-none g c = unfinished.none_found

pub returns-clause-one : goal.returns-clause-one
returns-clause-one g c = chaining.takes_one

pub returns-clause-linked : goal.returns-clause-linked
returns-clause-linked g c = linked.all_linked
