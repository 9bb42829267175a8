use Rattle.sg_catalog.proofs.Parts.{still_catalog}
use Rattle.sg_tests_steps.specs.Steps.{later_then}
use Rattle.sg_tests_steps.proofs.catalogue.look.Goals as goal

pub next_buried-requires : goal.next_buried-requires
next_buried-requires c = λ told. let h = c.requires tt in (h.0, h.1, tt)

pub find-requires : goal.find-requires
find-requires c = λ told. let h = c.requires tt in (h.0, still_catalog c.in_ok-next_buried.ensures.kept tt h.1, tt)

pub returns-in_err-found-clause-later : goal.returns-in_err-found-clause-later
returns-in_err-found-clause-later c = λ t. later_then t _ _ _ (c.next_buried.ensures.later t) (c.find.ensures.later t)

pub returns-clause-later : goal.returns-clause-later
returns-clause-later c = λ t. later_then t _ _ _ (c.next_buried.ensures.later t) (c.find.ensures.later t)
