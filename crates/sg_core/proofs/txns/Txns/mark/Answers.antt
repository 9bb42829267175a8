use Rattle.std.proofs.Common.{sym, ap, ◌∙◌}
use Rattle.sg_serial.specs.Runs.{nth_mark}
use Rattle.sg_core.specs.Live.{marks_of}
use Rattle.sg_core.proofs.Kept.{marks_here, marks_none, nth_none}
use Rattle.sg_core.proofs.txns.Txns.mark.Goals as goal

pub returns-in-Some : goal.returns-in-Some
returns-in-Some c =
    c.nth.ensures
    ∙ ap (nth_mark c.args.number) (sym (marks_here c.self.inside.live c.args.t.0 c.in-Some.field-0-0 c.in-Some.entry c.in-Some.ensures.found c.self.invariant.distinct) ∙ ap (λ xs. marks_of xs c.args.t.0) c.self.view_is)

pub returns-in-None : goal.returns-in-None
returns-in-None c =
    nth_none c.args.number ∙ ap (nth_mark c.args.number) (sym (marks_none c.self.inside.live c.args.t.0 c.in-None.ensures.absent) ∙ ap (λ xs. marks_of xs c.args.t.0) c.self.view_is)
