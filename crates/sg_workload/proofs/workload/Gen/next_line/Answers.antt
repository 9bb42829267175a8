use Rattle.std.proofs.Common.{ℕ, List, ◌∷◌, refl, ap, sym, ◌∙◌, subst}
use Rattle.sg_base.specs.Ends.{Takes, TakesFront}
use Rattle.sg_workload.specs.Lines.{drawn_lines, closing}
use Rattle.sg_workload.specs.Texts.{text_of}
use Rattle.sg_workload.specs.declared.drawn.Verb.TheVariants.{Commit}
use Rattle.sg_workload.proofs.Left.{opening-first, opening-over, drawn_lines-over, first-behind, closing-first}
use Rattle.sg_workload.proofs.workload.Gen.next_line.Goals as goal

pub returns-in-Ok-clause-line : goal.returns-in-Ok-clause-line
returns-in-Ok-clause-line g c =
    let old = c.args.self.now in
    let first = opening-first old.begun c.in-Some.line.now (drawn_lines old.left old.live old.random) c.in-Some.ensures.line in
    λ _. (first.0, first.1, subst (λ (l : List ℕ). Takes (g.K.Sink.taken c.args.out.now) l (g.K.Sink.taken c.write.new.self)) first.2 c.in-Ok.ensures.took)

pub returns-in-Err-clause-cut : goal.returns-in-Err-clause-cut
returns-in-Err-clause-cut g c =
    let old = c.args.self.now in
    let first = opening-first old.begun c.in-Some.line.now (drawn_lines old.left old.live old.random) c.in-Some.ensures.line in
    (first.0, first.1, subst (λ (l : List ℕ). TakesFront (g.K.Sink.taken c.args.out.now) l (g.K.Sink.taken c.write.new.self)) first.2 c.in-Err.ensures.cut)

pub returns-in-Ok-write_line-clause-line : goal.returns-in-Ok-write_line-clause-line
returns-in-Ok-write_line-clause-line g c =
    let old = c.args.self.now in
    let now = c.draw_line-w.new.self in
    let line = text_of c.draw_line-w.result.0 c.draw_line-w.result.1 in
    λ _. (
      line,
      first-behind old.begun now.begun (drawn_lines old.left old.live old.random) (drawn_lines now.left now.live now.random) line
          c.in_default.ensures.line c.draw_line-w.ensures.line c.draw_line-w.ensures.begun,
      c.in-Ok-write_line.ensures.took,
    )

pub returns-in-Err-write_line-clause-cut : goal.returns-in-Err-write_line-clause-cut
returns-in-Err-write_line-clause-cut g c =
    let old = c.args.self.now in
    let now = c.draw_line-w.new.self in
    let line = text_of c.draw_line-w.result.0 c.draw_line-w.result.1 in (
      line,
      first-behind old.begun now.begun (drawn_lines old.left old.live old.random) (drawn_lines now.left now.live now.random) line
          c.in_default.ensures.line c.draw_line-w.ensures.line c.draw_line-w.ensures.begun,
      c.in-Err-write_line.ensures.cut,
    )

pub returns-in_default-first_live-clause-end : goal.returns-in_default-first_live-clause-end
returns-in_default-first_live-clause-end g c =
    let old = c.args.self.now in
    let over = opening-over old.begun (drawn_lines old.left old.live old.random) c.in_default.ensures.line in
    λ _. (over ∙ drawn_lines-over old.left old.live old.random c.if-self-gt0.false ∙ c.in_default-first_live.ensures.none, refl)

pub returns-in-Ok-write_line-2-clause-line : goal.returns-in-Ok-write_line-2-clause-line
returns-in-Ok-write_line-2-clause-line g c =
    let old = c.args.self.now in
    let now = c.note.new.live in
    let line = text_of c.in-Some-first_live.w Commit in
    let first = c.in-Some-first_live.ensures.some.1 ∙ ap (λ live. line ∷ closing live) (sym c.note.ensures) in
    λ _. (
      line,
      first-behind old.begun old.begun (drawn_lines old.left old.live old.random) (drawn_lines old.left now old.random) line
          c.in_default.ensures.line (closing-first old.left old.live now old.random line c.if-self-gt0.false first) refl,
      c.in-Ok-write_line-2.ensures.took,
    )

pub returns-in-Err-write_line-2-clause-cut : goal.returns-in-Err-write_line-2-clause-cut
returns-in-Err-write_line-2-clause-cut g c =
    let old = c.args.self.now in
    let now = c.note.new.live in
    let line = text_of c.in-Some-first_live.w Commit in
    let first = c.in-Some-first_live.ensures.some.1 ∙ ap (λ live. line ∷ closing live) (sym c.note.ensures) in (
      line,
      first-behind old.begun old.begun (drawn_lines old.left old.live old.random) (drawn_lines old.left now old.random) line
          c.in_default.ensures.line (closing-first old.left old.live now old.random line c.if-self-gt0.false first) refl,
      c.in-Err-write_line-2.ensures.cut,
    )
