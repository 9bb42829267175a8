use Rattle.std.proofs.Common.{◌-◌, ap, ◌∙◌, ◌∷◌, sym, false}
use Rattle.std.proofs.lemmas.Option.{unwrap_or-slice_get}
use Rattle.sg_workload.specs.Lines.{next_verb, drawn_lines}
use Rattle.sg_workload.specs.Texts.{text_of}
use Rattle.sg_workload.proofs.Drawing.{drawn_lines-one}
use Rattle.sg_workload.proofs.workload.Gen.draw_line.Goals as goal

pub returns-clause-line : goal.returns-clause-line
returns-clause-line c =
    let old = c.args.self.now in
    let w = c.draw-w.result in
    let second = c.draw_next-verb.ensures ∙ ap (λ live. next_verb live c.draw-w.new.random) (sym (unwrap_or-slice_get old.live w false)) in
    drawn_lines-one old.left old.live old.random c.draw-w.new.random c.draw_next-verb.new.random w c.draw_next-verb.result
    c.requires c.draw-w.ensures.drawn second
    ∙ ap (λ live. text_of w c.draw_next-verb.result ∷ drawn_lines (old.left - 1) live c.draw_next-verb.new.random) (sym c.note.ensures)
