use Rattle.sg_space.specs.View.{Space}
use Rattle.sg_space.proofs.Known.{still}
use Rattle.sg_list.specs.Items.{Stands}
use Rattle.sg_tests_steps.specs.Steps.{later_then}
use Rattle.sg_tests_steps.proofs.lists.look.Goals as goal

pub count-requires : goal.count-requires
count-requires c = λ told. let h = c.requires tt in (h.0, h.1, tt)

pub get-requires : goal.get-requires
get-requires c = λ told. let h = c.requires tt in (h.0, still (λ (s : Space). Stands s c.args.root.0 h.0) c.in_ok-found.ensures.kept tt h.1, h.2)

pub returns-in_err-get-clause-later : goal.returns-in_err-get-clause-later
returns-in_err-get-clause-later c = λ t. later_then t _ _ _ (c.count.ensures.later t) (c.get.ensures.later t)

pub returns-clause-later : goal.returns-clause-later
returns-clause-later c = λ t. later_then t _ _ _ (c.count.ensures.later t) (c.get.ensures.later t)
