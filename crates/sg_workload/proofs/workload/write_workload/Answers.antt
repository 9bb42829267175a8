use Rattle.std.proofs.Common.{List, ℕ, [], ◌++◌, codes, ap, sym, ◌∙◌, refl, subst, append_assoc, append-nil}
use Rattle.sg_base.specs.Ends.{Takes, TakesFront}
use Rattle.sg_workload.specs.Lines.{text_of_lines}
use Rattle.sg_workload.specs.Calls.{lines_left}
use Rattle.sg_workload.proofs.Taken.{takes-nothing, takes-takes, takes-cut, text_of_lines-cons, on_err}
use Rattle.sg_workload.proofs.workload.write_workload.Goals as goal

pub lines-init : goal.lines-init
lines-init g c = record {
  written = ([], ap text_of_lines (sym c.new-lines.ensures), takes-nothing (g.K.Sink.taken c.args.out.now));
  quiet = refl;
}

pub returns-in_err-next_line-clause-cut : goal.returns-in_err-next_line-clause-cut
returns-in_err-next_line-clause-cut g c =
    let before = g.K.Sink.taken c.args.out.now in
    let after = g.K.Sink.taken c.next_line.new.out in
    let done = c.lines.invariant.written in
    let cut = c.in_err-next_line.ensures.cut in
    let line = cut.0 ++ codes "\n" in
    let rest = text_of_lines (lines_left c.next_line.new.self) in
    let whole = done.1 ∙ ap (λ lines. done.0 ++ text_of_lines lines) cut.1 ∙ ap (λ text. done.0 ++ text) (text_of_lines-cons cut.0 (lines_left c.next_line.new.self)) in
    on_err c.from_residual.result
    (subst (λ (text : List ℕ). TakesFront before text after) (sym whole) (takes-cut before (g.K.Sink.taken c.lines.out) after done.0 line rest done.2 cut.2))

pub lines-preserved : goal.lines-preserved
lines-preserved g c =
    let before = g.K.Sink.taken c.args.out.now in
    let after = g.K.Sink.taken c.next_line.new.out in
    let done = c.lines.invariant.written in
    let written = c.in_ok-next_line.ensures.line c.if-branch.true in
    let line = written.0 ++ codes "\n" in
    let rest = text_of_lines (lines_left c.next_line.new.self) in
    let whole = done.1 ∙ ap (λ lines. done.0 ++ text_of_lines lines) written.1 ∙ ap (λ text. done.0 ++ text) (text_of_lines-cons written.0 (lines_left c.next_line.new.self)) in
    record {
      written = (done.0 ++ line, whole ∙ sym (append_assoc done.0 line rest), takes-takes before (g.K.Sink.taken c.lines.out) after done.0 line done.2 written.2);
      quiet = c.in_ok-next_line.ensures.quiet ∙ c.lines.invariant.quiet;
    }

pub returns-clause-took : goal.returns-clause-took
returns-clause-took g c =
    let done = c.lines.invariant.written in
    let end = c.in_ok-next_line.ensures.end c.if-branch.false in
    let whole = done.1 ∙ ap (λ lines. done.0 ++ text_of_lines lines) end.0 ∙ append-nil done.0 in
    subst (λ (text : List ℕ). Takes (g.K.Sink.taken c.args.out.now) text (g.K.Sink.taken c.next_line.new.out)) (sym whole)
    (subst (λ o. Takes (g.K.Sink.taken c.args.out.now) done.0 o) (sym end.1) done.2)
