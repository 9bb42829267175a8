use Rattle.std.proofs.Common.{◌≡◌, List}
use Rattle.std.specs.Prelude.{⊤, option_map}
use Rattle.std.specs.Result.{MatchResult}
use Rattle.std.proofs.lemmas.Result.{err_from_is_err_and}
use Rattle.sg_index.specs.Fault.{MatchFault}
use Rattle.sg_index.specs.Order.{Entry, next_in}
use Rattle.sg_index.specs.Tree.{entry_of}
use Rattle.sg_index.proofs.Faults.{fault_weaker}
use Rattle.sg_index.proofs.Looking.{has_header, none_in_empty, tree_says}
use Rattle.sg_index.proofs.read.first_from.Goals as goal

pub returns-in_err-header-clause-next : goal.returns-in_err-header-clause-next
returns-in_err-header-clause-next g c = λ entries index.
    let p = err_from_is_err_and c.from_residual.result c.from_residual.ensures.1 in
    rw (p.1, p.2) (fault_weaker c.in_err-header.field-0.0 {C = ⊥} (λ risen. tt) (has_header _ entries index) (λ no. absurd no) c.in_err-header.ensures.failed)

pub returns-in_default-clause-next : goal.returns-in_default-clause-next
returns-in_default-clause-next g c = λ entries index. none_in_empty _ entries c.args.from.now c.args.strict index (rw c.in_default.is at c.in_ok-header.ensures.found)

pub returns-clause-next : goal.returns-clause-next
returns-clause-next g c = λ entries index.
    tree_says _ _ c.in_ok-header.ensures.kept entries c.in-Some.header index (rw c.in-Some.is at c.in_ok-header.ensures.found) _ c.root_fewest-least.ensures
    (λ (es : List Entry). MatchResult c.next_in.result (λ found. option_map entry_of found ≡ next_in es c.args.from.now c.args.strict) (λ e. MatchFault e ⊤ ⊥ ⊤)) c.next_in.ensures.next
