use Rattle.sg_array.proofs.Links.{still_array}
use Rattle.sg_tests_steps.specs.Steps.{later_then}
use Rattle.sg_tests_steps.proofs.arrays.look.Goals as goal

pub size-requires : goal.size-requires
size-requires c = λ told. let h = c.requires tt in (h.0, h.1, tt)

pub pages-requires : goal.pages-requires
pages-requires c = λ told. let h = c.requires tt in (h.0, still_array c.in_ok-size.ensures.kept tt h.1, tt)

pub get-requires : goal.get-requires
get-requires c = λ told. let h = c.requires tt in (h.0, still_array c.in_ok-pages.ensures.kept tt (still_array c.in_ok-size.ensures.kept tt h.1), h.2)

pub len-requires : goal.len-requires
len-requires c = λ told. let h = c.requires tt in (h.0, still_array c.in_ok-get.ensures.kept tt (still_array c.in_ok-pages.ensures.kept tt (still_array c.in_ok-size.ensures.kept tt h.1)), tt)

pub returns-in_err-pages-clause-later : goal.returns-in_err-pages-clause-later
returns-in_err-pages-clause-later c = λ t. later_then t _ _ _ (c.size.ensures.later t) (c.pages.ensures.later t)

pub returns-in_err-get-clause-later : goal.returns-in_err-get-clause-later
returns-in_err-get-clause-later c = λ t. later_then t _ _ _ (c.size.ensures.later t) (later_then t _ _ _ (c.pages.ensures.later t) (c.get.ensures.later t))

pub returns-in_err-found-clause-later : goal.returns-in_err-found-clause-later
returns-in_err-found-clause-later c = λ t. later_then t _ _ _ (c.size.ensures.later t) (later_then t _ _ _ (c.pages.ensures.later t) (later_then t _ _ _ (c.get.ensures.later t) (c.len.ensures.later t)))

pub returns-clause-later : goal.returns-clause-later
returns-clause-later c = λ t. later_then t _ _ _ (c.size.ensures.later t) (later_then t _ _ _ (c.pages.ensures.later t) (later_then t _ _ _ (c.get.ensures.later t) (c.len.ensures.later t)))
