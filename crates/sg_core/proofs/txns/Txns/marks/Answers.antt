use Rattle.std.proofs.Common.{List, ℕ, length, sym, ap, ◌∙◌}
use Rattle.sg_core.specs.Live.{marks_of}
use Rattle.sg_core.proofs.Kept.{marks_here, marks_none}
use Rattle.sg_core.proofs.txns.Txns.marks.Goals as goal

pub returns-in-Some : goal.returns-in-Some
returns-in-Some c =
    c.len.ensures
    ∙ ap (λ (ms : List ℕ). length ms) (sym (marks_here c.self.inside.live c.args.t.0 c.in-Some.field-0-0 c.in-Some.entry c.in-Some.ensures.found c.self.invariant.distinct) ∙ ap (λ xs. marks_of xs c.args.t.0) c.self.view_is)

pub returns-in-None : goal.returns-in-None
returns-in-None c =
    ap (λ (ms : List ℕ). length ms) (sym (marks_none c.self.inside.live c.args.t.0 c.in-None.ensures.absent) ∙ ap (λ xs. marks_of xs c.args.t.0) c.self.view_is)
