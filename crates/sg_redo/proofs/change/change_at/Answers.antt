use Rattle.std.proofs.Common.{Option, IfSome, sym, ◌∙◌, subst, arith}
use Rattle.sg_record.specs.Changes.{Change}
use Rattle.sg_record.specs.Shown.{shown, shown_change}
use Rattle.sg_redo.specs.Places.{IsInRange}
use Rattle.sg_redo.proofs.InRange.{record_in}
use Rattle.sg_redo.proofs.Said.{nothing_behind, read_there, of_shown}
use Rattle.sg_redo.proofs.change.change_at.Goals as goal

pub returns-then-at-text-clause-change : goal.returns-then-at-text-clause-change
returns-then-at-text-clause-change c = nothing_behind c.args.text.now c.args.at (omega arith)

pub returns-in-Ok-clause-change : goal.returns-in-Ok-clause-change
returns-in-Ok-clause-change c = c.change_of.ensures ∙ read_there c.args.text.now c.args.at _ c.in-Ok.ensures.exact

pub returns-in-Ok-clause-range : goal.returns-in-Ok-clause-range
returns-in-Ok-clause-range c =
    of_shown shown_change IsInRange c.change_of.result (subst (λ (o : Option Change). IfSome o IsInRange) (sym c.change_of.ensures) (record_in (shown c.in-Ok.rec) c.in-Ok.ensures.range))

pub returns-in-Err-clause-change : goal.returns-in-Err-clause-change
returns-in-Err-clause-change c = read_there c.args.text.now c.args.at _ c.in-Err.ensures.exact
