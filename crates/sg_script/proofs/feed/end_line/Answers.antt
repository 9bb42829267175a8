use Rattle.std.proofs.Common.{◌++◌, ◌∙◌, List, ℕ, sym, ap}
use Rattle.std.proofs.lemmas.Bool.{eqb-true}
use Rattle.std.proofs.lemmas.List.{nil_from_length}
use Rattle.sg_session.specs.Lines.{line_of}
use Rattle.sg_session.specs.Seen.{session_core, session_engine}
use Rattle.sg_script.proofs.Executing.{went_ok, went_err}
use Rattle.sg_script.proofs.Feeds.{line-pending}
use Rattle.sg_script.proofs.feed.end_line.Goals as goal

pub returns-then-is_empty-clause-line : goal.returns-then-is_empty-clause-line
returns-then-is_empty-clause-line g c =
    went_ok g.E.Engine _ c.line.result (session_engine c.args.session.now) (session_core c.args.session.now) _ _ _ (session_engine c.line.new.self) (session_core c.line.new.self) (ap (λ (had : List ℕ). line_of (had ++ c.args.part.now)) (sym (nil_from_length _ (eqb-true _ _ (sym c.is_empty.ensures ∙ c.if-is_empty.true)))))
    c.line.ensures.means c.line.ensures.heeds (λ s. (let p = c.line.ensures.stopped s in (ap (λ s. session_engine s) p, ap (λ s. session_core s) p))) c.line.ensures.line

pub returns-then-is_empty-clause-cut : goal.returns-then-is_empty-clause-cut
returns-then-is_empty-clause-cut g c =
    went_err g.E.Engine _ c.line.result (session_engine c.args.session.now) (session_core c.args.session.now) _ _ _ (session_engine c.line.new.self) (session_core c.line.new.self) (ap (λ (had : List ℕ). line_of (had ++ c.args.part.now)) (sym (nil_from_length _ (eqb-true _ _ (sym c.is_empty.ensures ∙ c.if-is_empty.true)))))
    c.line.ensures.means c.line.ensures.heeds (λ s. (let p = c.line.ensures.stopped s in (ap (λ s. session_engine s) p, ap (λ s. session_core s) p))) c.line.ensures.cut

pub returns-clause-line : goal.returns-clause-line
returns-clause-line g c =
    went_ok g.E.Engine _ c.line-answered.result (session_engine c.args.session.now) (session_core c.args.session.now) _ _ _ (session_engine c.line-answered.new.self) (session_core c.line-answered.new.self) (line-pending _ c.args.pending.now c.push.new.self c.args.part.now c.bytes.ensures c.push.ensures)
    c.line-answered.ensures.means c.line-answered.ensures.heeds (λ s. (let p = c.line-answered.ensures.stopped s in (ap (λ s. session_engine s) p, ap (λ s. session_core s) p))) c.line-answered.ensures.line

pub returns-clause-cut : goal.returns-clause-cut
returns-clause-cut g c =
    went_err g.E.Engine _ c.line-answered.result (session_engine c.args.session.now) (session_core c.args.session.now) _ _ _ (session_engine c.line-answered.new.self) (session_core c.line-answered.new.self) (line-pending _ c.args.pending.now c.push.new.self c.args.part.now c.bytes.ensures c.push.ensures)
    c.line-answered.ensures.means c.line-answered.ensures.heeds (λ s. (let p = c.line-answered.ensures.stopped s in (ap (λ s. session_engine s) p, ap (λ s. session_core s) p))) c.line-answered.ensures.cut
