use Rattle.sg_space.specs.View.{Space}
use Rattle.sg_space.proofs.Known.{still}
use Rattle.sg_bucket.specs.Bucket.{IsBucket}
use Rattle.sg_tests_steps.specs.Steps.{later_then}
use Rattle.sg_tests_steps.proofs.buckets.look.Goals as goal

pub pages-requires : goal.pages-requires
pages-requires c = λ told. let h = c.requires.there tt in (h.0, h.1, tt)

pub find-requires-clause-there : goal.find-requires-clause-there
find-requires-clause-there c = λ told. let h = c.requires.there tt in (h.0, still (λ (s : Space). IsBucket s.pages.at c.args.first.0 h.0) c.in_ok-pages.ensures.kept tt h.1, tt)

pub returns-in_err-found-clause-later : goal.returns-in_err-found-clause-later
returns-in_err-found-clause-later c = λ t. later_then t _ _ _ (c.pages.ensures.later t) (c.find.ensures.later t)

pub returns-clause-later : goal.returns-clause-later
returns-clause-later c = λ t. later_then t _ _ _ (c.pages.ensures.later t) (c.find.ensures.later t)
