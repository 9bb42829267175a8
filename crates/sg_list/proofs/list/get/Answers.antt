use Rattle.std.proofs.Common.{ℕ, List, Option, sym, ap, ◌∙◌}
use Rattle.sg_base.specs.Page.{cell_in}
use Rattle.sg_space.proofs.Known.{read_is}
use Rattle.sg_list.proofs.Pushing.{cell_in-map}
use Rattle.sg_list.proofs.list.get.Goals as goal

pub returns-clause-read : goal.returns-clause-read
returns-clause-read g c = λ shows items stands.
    sym (ap (λ (s : List (Option (List ℕ))). cell_in s c.args.i) stands.has.slots ∙ cell_in-map items c.args.i) ∙ read_is stands (c.in_ok-read_cell.ensures.read shows)
