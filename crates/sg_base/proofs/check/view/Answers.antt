use Rattle.std.proofs.Common.{rules, is_some, true, false}
use Rattle.sg_base.proofs.Testing.{answer_is}
use Rattle.sg_base.proofs.check.view.Goals as goal

pub returns-then-page-ne-PAGE_SIZE-clause-answer : goal.returns-then-page-ne-PAGE_SIZE-clause-answer
returns-then-page-ne-PAGE_SIZE-clause-answer c = answer_is c.args.page.now false (search rules)

pub returns-then-start-count-clause-answer : goal.returns-then-start-count-clause-answer
returns-then-start-count-clause-answer c = answer_is c.args.page.now false (search rules)

pub returns-in_err-bytes-clause-answer : goal.returns-in_err-bytes-clause-answer
returns-in_err-bytes-clause-answer c = answer_is c.args.page.now (is_some c.from_residual.result) (search rules)

pub returns-then-start-bytes-eq-PAGE_SIZE-clause-answer : goal.returns-then-start-bytes-eq-PAGE_SIZE-clause-answer
returns-then-start-bytes-eq-PAGE_SIZE-clause-answer c = answer_is c.args.page.now true (search rules)

pub returns-else-start-bytes-eq-PAGE_SIZE-clause-answer : goal.returns-else-start-bytes-eq-PAGE_SIZE-clause-answer
returns-else-start-bytes-eq-PAGE_SIZE-clause-answer c = answer_is c.args.page.now false (search rules)
