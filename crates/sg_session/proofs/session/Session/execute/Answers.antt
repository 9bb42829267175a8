use Rattle.std.proofs.Common.{refl, sym, ap, subst, ◌∙◌}
use Rattle.std.specs.Prelude.{is_some, option_map, slice_get}
use Rattle.sg_checkpoints.specs.Cutting.{IsCut}
use Rattle.sg_core.specs.Live.{number_of}
use Rattle.sg_model.specs.SaidOps.{said_op}
use Rattle.sg_model.specs.Verb.Op.{On, Names}
use Rattle.sg_model.specs.Verb.Verb.{Keys}
use Rattle.sg_words.specs.Requests.Asked.{Blank, Of}
use Rattle.sg_words.specs.Requests.Request.{Begin, Commit, Abort, Do}
use Rattle.sg_words.specs.Requested.{shown}
use Rattle.sg_words.specs.declared.request.Request as code_request
use Rattle.sg_store.specs.Engine.{led}
use Rattle.sg_session.specs.Seen.{session_core, HandsAtCommit}
use Rattle.sg_session.specs.Goes.{when_stopped}
use Rattle.sg_store.proofs.Heeding as heeding
use Rattle.sg_session.proofs.Steps as steps
use Rattle.sg_session.proofs.Answering as answering
use Rattle.sg_session.specs.KeptUp.{IsKeptUp, IfTruncates}
use Rattle.sg_session.specs.Lines.{Line, line_of}
use Rattle.sg_session.specs.Lines.Line.{OfStore, Other}
use Rattle.sg_session.proofs.Causing as causing
use Rattle.sg_session.proofs.session.Session.execute.Goals as goal

pub returns-in-Blank-clause-goes : goal.returns-in-Blank-clause-goes
returns-in-Blank-clause-goes g c z from m told x lawful shows =
    answering.goes_line _ (g.E.Engine.basis z) lawful (led _ z from (g.E.Engine.view c.args.self.now.store.engine)) x _ _ _ _ _ (answering.is_blank c.args.text.now (sym c.in-Blank.ensures.asked))
    (steps.silent _ (g.E.Engine.basis z) (led _ z from (g.E.Engine.view c.args.self.now.store.engine)) x (session_core c.args.self.now) shows)

pub returns-in_default-clause-goes : goal.returns-in_default-clause-goes
returns-in_default-clause-goes g c z from m told x lawful shows = c.execute_marking.ensures.goes c.args.into.now z from m told x lawful shows

pub returns-then-is_some-clause-goes : goal.returns-then-is_some-clause-goes
returns-then-is_some-clause-goes g c z from m told x lawful shows =
    answering.goes_line _ (g.E.Engine.basis z) lawful (led _ z from (g.E.Engine.view c.args.self.now.store.engine)) x _ _ _ _ _ (answering.is_upkeep c.args.text.now c.in-Some.upkeep (sym c.in-Wrong.ensures.asked) (sym c.in-Some.ensures))
    (steps.upkeep_stopped _ (g.E.Engine.basis z) (led _ z from (g.E.Engine.view c.args.self.now.store.engine)) x (session_core c.args.self.now) shows c.in-Some.upkeep (ap is_some (sym c.stop.ensures) ∙ (sym c.is_some.ensures ∙ c.if-is_some.true)))

pub returns-else-is_some-clause-goes : goal.returns-else-is_some-clause-goes
returns-else-is_some-clause-goes g c z from m told x lawful shows =
    answering.goes_line _ (g.E.Engine.basis z) lawful (led _ z from (g.E.Engine.view c.args.self.now.store.engine)) x _ _ _ _ _ (answering.is_upkeep c.args.text.now c.in-Some.upkeep (sym c.in-Wrong.ensures.asked) (sym c.in-Some.ensures))
    (c.keep_up.ensures.goes c.args.into.now _ z from m told x lawful shows)

pub returns-then-is_some-2-clause-goes : goal.returns-then-is_some-2-clause-goes
returns-then-is_some-2-clause-goes g c z from m told x lawful shows =
    answering.goes_line _ (g.E.Engine.basis z) lawful (led _ z from (g.E.Engine.view c.args.self.now.store.engine)) x _ _ _ _ _ (answering.is_of c.args.text.now c.in-Of.name _ (sym c.in-Of.ensures.asked))
    (steps.has_stopped _ (g.E.Engine.basis z) (led _ z from (g.E.Engine.view c.args.self.now.store.engine)) x (session_core c.args.self.now) shows c.in-Of.name _ (ap is_some (sym c.stop-in-Of.ensures) ∙ (sym c.is_some-in-Of.ensures ∙ c.if-is_some-2.true)))

pub returns-in-Begin-clause-goes : goal.returns-in-Begin-clause-goes
returns-in-Begin-clause-goes g c z from m told x lawful shows =
    answering.goes_line _ (g.E.Engine.basis z) lawful (led _ z from (g.E.Engine.view c.args.self.now.store.engine)) x _ _ _ _ _ (answering.is_of c.args.text.now c.in-Of.name Begin (sym c.in-Of.ensures.asked ∙ ap (λ (r : code_request.Request). Of c.in-Of.name (shown r)) c.in-Begin.is))
    (c.begin.ensures.goes c.args.into.now _ z from m told x lawful shows)

pub returns-in-Commit-clause-goes : goal.returns-in-Commit-clause-goes
returns-in-Commit-clause-goes g c z from m told x lawful shows =
    answering.goes_line _ (g.E.Engine.basis z) lawful (led _ z from (g.E.Engine.view c.args.self.now.store.engine)) x _ _ _ _ _ (answering.is_of c.args.text.now c.in-Of.name Commit (sym c.in-Of.ensures.asked ∙ ap (λ (r : code_request.Request). Of c.in-Of.name (shown r)) c.in-Commit.is))
    (c.commit.ensures.goes c.args.into.now z from m told x lawful shows)

pub returns-in-Abort-clause-goes : goal.returns-in-Abort-clause-goes
returns-in-Abort-clause-goes g c z from m told x lawful shows =
    answering.goes_line _ (g.E.Engine.basis z) lawful (led _ z from (g.E.Engine.view c.args.self.now.store.engine)) x _ _ _ _ _ (answering.is_of c.args.text.now c.in-Of.name Abort (sym c.in-Of.ensures.asked ∙ ap (λ (r : code_request.Request). Of c.in-Of.name (shown r)) c.in-Abort.is))
    (c.abort.ensures.goes c.args.into.now z from m told x lawful shows)

pub returns-in-Do-clause-goes : goal.returns-in-Do-clause-goes
returns-in-Do-clause-goes g c z from m told x lawful shows =
    answering.goes_line _ (g.E.Engine.basis z) lawful (led _ z from (g.E.Engine.view c.args.self.now.store.engine)) x _ _ _ _ _ (answering.is_of c.args.text.now c.in-Of.name (Do (said_op c.in-Do.op)) (sym c.in-Of.ensures.asked ∙ ap (λ (r : code_request.Request). Of c.in-Of.name (shown r)) c.in-Do.is))
    (c.perform.ensures.goes z from m told x lawful shows)

pub returns-in-Keys-clause-goes : goal.returns-in-Keys-clause-goes
returns-in-Keys-clause-goes g c z from m told x lawful shows =
    answering.goes_line _ (g.E.Engine.basis z) lawful (led _ z from (g.E.Engine.view c.args.self.now.store.engine)) x _ _ _ _ _ (answering.is_of c.args.text.now c.in-Of.name (Do (On c.in-Keys.table Keys)) (sym c.in-Of.ensures.asked ∙ ap (λ (r : code_request.Request). Of c.in-Of.name (shown r)) c.in-Keys.is))
    (c.keys.ensures.goes c.args.into.now _ z from m told x lawful shows)

pub returns-in-List-clause-goes : goal.returns-in-List-clause-goes
returns-in-List-clause-goes g c z from m told x lawful shows =
    answering.goes_line _ (g.E.Engine.basis z) lawful (led _ z from (g.E.Engine.view c.args.self.now.store.engine)) x _ _ _ _ _ (answering.is_of c.args.text.now c.in-Of.name (Do Names) (sym c.in-Of.ensures.asked ∙ ap (λ (r : code_request.Request). Of c.in-Of.name (shown r)) c.in-List.is))
    (c.list.ensures.goes c.args.into.now _ z from m told x lawful shows)

pub returns-in-Blank-clause-still : goal.returns-in-Blank-clause-still
returns-in-Blank-clause-still g c some = ap when_stopped (answering.is_blank c.args.text.now (sym c.in-Blank.ensures.asked))

pub returns-in_default-clause-still : goal.returns-in_default-clause-still
returns-in_default-clause-still g c some = c.execute_marking.ensures.still some c.args.into.now

pub returns-then-is_some-clause-still : goal.returns-then-is_some-clause-still
returns-then-is_some-clause-still g c some = ap when_stopped (answering.is_upkeep c.args.text.now c.in-Some.upkeep (sym c.in-Wrong.ensures.asked) (sym c.in-Some.ensures))

pub returns-then-is_some-2-clause-still : goal.returns-then-is_some-2-clause-still
returns-then-is_some-2-clause-still g c some = ap when_stopped (answering.is_of c.args.text.now c.in-Of.name _ (sym c.in-Of.ensures.asked))

pub returns-else-is_some-clause-still : goal.returns-else-is_some-clause-still
returns-else-is_some-clause-still g c some = heeding.not_stopped c.args.self.now.store.stop (ap is_some (sym c.stop.ensures) ∙ (sym c.is_some.ensures ∙ c.if-is_some.false)) some

pub returns-in-Begin-clause-still : goal.returns-in-Begin-clause-still
returns-in-Begin-clause-still g c some = heeding.not_stopped c.args.self.now.store.stop (ap is_some (sym c.stop-in-Of.ensures) ∙ (sym c.is_some-in-Of.ensures ∙ c.if-is_some-2.false)) some

pub returns-in-Commit-clause-still : goal.returns-in-Commit-clause-still
returns-in-Commit-clause-still g c some = heeding.not_stopped c.args.self.now.store.stop (ap is_some (sym c.stop-in-Of.ensures) ∙ (sym c.is_some-in-Of.ensures ∙ c.if-is_some-2.false)) some

pub returns-in-Abort-clause-still : goal.returns-in-Abort-clause-still
returns-in-Abort-clause-still g c some = heeding.not_stopped c.args.self.now.store.stop (ap is_some (sym c.stop-in-Of.ensures) ∙ (sym c.is_some-in-Of.ensures ∙ c.if-is_some-2.false)) some

pub returns-in-Do-clause-still : goal.returns-in-Do-clause-still
returns-in-Do-clause-still g c some = heeding.not_stopped c.args.self.now.store.stop (ap is_some (sym c.stop-in-Of.ensures) ∙ (sym c.is_some-in-Of.ensures ∙ c.if-is_some-2.false)) some

pub returns-in-Keys-clause-still : goal.returns-in-Keys-clause-still
returns-in-Keys-clause-still g c some = heeding.not_stopped c.args.self.now.store.stop (ap is_some (sym c.stop-in-Of.ensures) ∙ (sym c.is_some-in-Of.ensures ∙ c.if-is_some-2.false)) some

pub returns-in-List-clause-still : goal.returns-in-List-clause-still
returns-in-List-clause-still g c some = heeding.not_stopped c.args.self.now.store.stop (ap is_some (sym c.stop-in-Of.ensures) ∙ (sym c.is_some-in-Of.ensures ∙ c.if-is_some-2.false)) some

pub returns-in-Blank-clause-caused : goal.returns-in-Blank-clause-caused
returns-in-Blank-clause-caused g c = causing.at_line _ _ c.args.self.now.store.stop _ (Other Blank) (line_of c.args.text.now) _ (answering.is_blank c.args.text.now (sym c.in-Blank.ensures.asked))
    (causing.well _ _ c.args.self.now.store.stop _ (Other Blank) _ refl refl)

pub returns-in_default-clause-caused : goal.returns-in_default-clause-caused
returns-in_default-clause-caused g c = c.execute_marking.ensures.caused c.args.into.now

pub returns-then-is_some-clause-caused : goal.returns-then-is_some-clause-caused
returns-then-is_some-clause-caused g c = causing.at_line _ _ c.args.self.now.store.stop _ (OfStore c.in-Some.upkeep) (line_of c.args.text.now) _ (answering.is_upkeep c.args.text.now c.in-Some.upkeep (sym c.in-Wrong.ensures.asked) (sym c.in-Some.ensures))
    (causing.well _ _ c.args.self.now.store.stop _ (OfStore c.in-Some.upkeep) _ refl refl)

pub returns-else-is_some-clause-caused : goal.returns-else-is_some-clause-caused
returns-else-is_some-clause-caused g c = causing.at_line _ _ c.args.self.now.store.stop _ (OfStore c.in-Some.upkeep) (line_of c.args.text.now) _ (answering.is_upkeep c.args.text.now c.in-Some.upkeep (sym c.in-Wrong.ensures.asked) (sym c.in-Some.ensures))
    (c.keep_up.ensures.caused c.args.into.now)

pub returns-then-is_some-2-clause-caused : goal.returns-then-is_some-2-clause-caused
returns-then-is_some-2-clause-caused g c =
    causing.at_line _ _ c.args.self.now.store.stop _ _ (line_of c.args.text.now) _ (answering.is_of c.args.text.now c.in-Of.name _ (sym c.in-Of.ensures.asked)) (causing.well _ _ c.args.self.now.store.stop _ _ _ refl refl)

pub returns-in-Begin-clause-caused : goal.returns-in-Begin-clause-caused
returns-in-Begin-clause-caused g c = causing.at_line _ _ c.args.self.now.store.stop _ (Other (Of c.in-Of.name Begin)) (line_of c.args.text.now) _ (answering.is_of c.args.text.now c.in-Of.name Begin (sym c.in-Of.ensures.asked ∙ ap (λ (r : code_request.Request). Of c.in-Of.name (shown r)) c.in-Begin.is))
    (c.begin.ensures.caused c.args.into.now)

pub returns-in-Commit-clause-caused : goal.returns-in-Commit-clause-caused
returns-in-Commit-clause-caused g c = causing.at_line _ _ c.args.self.now.store.stop _ (Other (Of c.in-Of.name Commit)) (line_of c.args.text.now) _ (answering.is_of c.args.text.now c.in-Of.name Commit (sym c.in-Of.ensures.asked ∙ ap (λ (r : code_request.Request). Of c.in-Of.name (shown r)) c.in-Commit.is))
    (c.commit.ensures.caused c.args.into.now)

pub returns-in-Abort-clause-caused : goal.returns-in-Abort-clause-caused
returns-in-Abort-clause-caused g c = causing.at_line _ _ c.args.self.now.store.stop _ (Other (Of c.in-Of.name Abort)) (line_of c.args.text.now) _ (answering.is_of c.args.text.now c.in-Of.name Abort (sym c.in-Of.ensures.asked ∙ ap (λ (r : code_request.Request). Of c.in-Of.name (shown r)) c.in-Abort.is))
    (c.abort.ensures.caused c.args.into.now)

pub returns-in-Do-clause-caused : goal.returns-in-Do-clause-caused
returns-in-Do-clause-caused g c = causing.at_line _ _ c.args.self.now.store.stop _ (Other (Of c.in-Of.name (Do (said_op c.in-Do.op)))) (line_of c.args.text.now) _ (answering.is_of c.args.text.now c.in-Of.name (Do (said_op c.in-Do.op)) (sym c.in-Of.ensures.asked ∙ ap (λ (r : code_request.Request). Of c.in-Of.name (shown r)) c.in-Do.is))
    c.perform.ensures.caused

pub returns-in-Keys-clause-caused : goal.returns-in-Keys-clause-caused
returns-in-Keys-clause-caused g c = causing.at_line _ _ c.args.self.now.store.stop _ (Other (Of c.in-Of.name (Do (On c.in-Keys.table Keys)))) (line_of c.args.text.now) _ (answering.is_of c.args.text.now c.in-Of.name (Do (On c.in-Keys.table Keys)) (sym c.in-Of.ensures.asked ∙ ap (λ (r : code_request.Request). Of c.in-Of.name (shown r)) c.in-Keys.is))
    (c.keys.ensures.caused c.args.into.now)

pub returns-in-List-clause-caused : goal.returns-in-List-clause-caused
returns-in-List-clause-caused g c = causing.at_line _ _ c.args.self.now.store.stop _ (Other (Of c.in-Of.name (Do Names))) (line_of c.args.text.now) _ (answering.is_of c.args.text.now c.in-Of.name (Do Names) (sym c.in-Of.ensures.asked ∙ ap (λ (r : code_request.Request). Of c.in-Of.name (shown r)) c.in-List.is))
    (c.list.ensures.caused c.args.into.now)

pub returns-in-Blank-clause-kept_up : goal.returns-in-Blank-clause-kept_up
returns-in-Blank-clause-kept_up g c none = answering.other_kept g.E.Engine _ _ _ _ (answering.is_blank c.args.text.now (sym c.in-Blank.ensures.asked))

pub returns-in_default-clause-kept_up : goal.returns-in_default-clause-kept_up
returns-in_default-clause-kept_up g c none = answering.marking_kept g.E.Engine _ _ _ _ (answering.by_marking c.args.text.now _ (sym c.in-Wrong.ensures.asked) (sym c.in_default.ensures) refl)

pub returns-then-is_some-2-clause-kept_up : goal.returns-then-is_some-2-clause-kept_up
returns-then-is_some-2-clause-kept_up g c none = answering.other_kept g.E.Engine _ _ _ _ (answering.is_of c.args.text.now c.in-Of.name _ (sym c.in-Of.ensures.asked))

pub returns-in-Begin-clause-kept_up : goal.returns-in-Begin-clause-kept_up
returns-in-Begin-clause-kept_up g c none = answering.other_kept g.E.Engine _ _ _ _ (answering.is_of c.args.text.now c.in-Of.name Begin (sym c.in-Of.ensures.asked ∙ ap (λ (r : code_request.Request). Of c.in-Of.name (shown r)) c.in-Begin.is))

pub returns-in-Commit-clause-kept_up : goal.returns-in-Commit-clause-kept_up
returns-in-Commit-clause-kept_up g c none = answering.other_kept g.E.Engine _ _ _ _ (answering.is_of c.args.text.now c.in-Of.name Commit (sym c.in-Of.ensures.asked ∙ ap (λ (r : code_request.Request). Of c.in-Of.name (shown r)) c.in-Commit.is))

pub returns-in-Abort-clause-kept_up : goal.returns-in-Abort-clause-kept_up
returns-in-Abort-clause-kept_up g c none = answering.other_kept g.E.Engine _ _ _ _ (answering.is_of c.args.text.now c.in-Of.name Abort (sym c.in-Of.ensures.asked ∙ ap (λ (r : code_request.Request). Of c.in-Of.name (shown r)) c.in-Abort.is))

pub returns-in-Do-clause-kept_up : goal.returns-in-Do-clause-kept_up
returns-in-Do-clause-kept_up g c none = answering.other_kept g.E.Engine _ _ _ _ (answering.is_of c.args.text.now c.in-Of.name (Do (said_op c.in-Do.op)) (sym c.in-Of.ensures.asked ∙ ap (λ (r : code_request.Request). Of c.in-Of.name (shown r)) c.in-Do.is))

pub returns-in-Keys-clause-kept_up : goal.returns-in-Keys-clause-kept_up
returns-in-Keys-clause-kept_up g c none = answering.other_kept g.E.Engine _ _ _ _ (answering.is_of c.args.text.now c.in-Of.name (Do (On c.in-Keys.table Keys)) (sym c.in-Of.ensures.asked ∙ ap (λ (r : code_request.Request). Of c.in-Of.name (shown r)) c.in-Keys.is))

pub returns-in-List-clause-kept_up : goal.returns-in-List-clause-kept_up
returns-in-List-clause-kept_up g c none = answering.other_kept g.E.Engine _ _ _ _ (answering.is_of c.args.text.now c.in-Of.name (Do Names) (sym c.in-Of.ensures.asked ∙ ap (λ (r : code_request.Request). Of c.in-Of.name (shown r)) c.in-List.is))

pub returns-then-is_some-clause-kept_up : goal.returns-then-is_some-clause-kept_up
returns-then-is_some-clause-kept_up g c none = heeding.not_stopped c.args.self.now.store.stop (ap is_some none) (ap is_some (sym c.stop.ensures) ∙ (sym c.is_some.ensures ∙ c.if-is_some.true))

pub returns-else-is_some-clause-kept_up : goal.returns-else-is_some-clause-kept_up
returns-else-is_some-clause-kept_up g c none = subst (λ (l : Line). IsKeptUp g.E.Engine l c.args.self.now.store.engine c.keep_up.new.self.store.engine) (answering.is_upkeep c.args.text.now c.in-Some.upkeep (sym c.in-Wrong.ensures.asked) (sym c.in-Some.ensures)) (c.keep_up.ensures.kept_up none)

pub returns-in-Blank-clause-cuts : goal.returns-in-Blank-clause-cuts
returns-in-Blank-clause-cuts g c none = answering.other_cuts _ _ _ (answering.is_blank c.args.text.now (sym c.in-Blank.ensures.asked))

pub returns-in_default-clause-cuts : goal.returns-in_default-clause-cuts
returns-in_default-clause-cuts g c none = answering.marking_cuts _ _ _ (answering.by_marking c.args.text.now _ (sym c.in-Wrong.ensures.asked) (sym c.in_default.ensures) refl)

pub returns-then-is_some-2-clause-cuts : goal.returns-then-is_some-2-clause-cuts
returns-then-is_some-2-clause-cuts g c none = answering.other_cuts _ _ _ (answering.is_of c.args.text.now c.in-Of.name _ (sym c.in-Of.ensures.asked))

pub returns-in-Begin-clause-cuts : goal.returns-in-Begin-clause-cuts
returns-in-Begin-clause-cuts g c none = answering.other_cuts _ _ _ (answering.is_of c.args.text.now c.in-Of.name Begin (sym c.in-Of.ensures.asked ∙ ap (λ (r : code_request.Request). Of c.in-Of.name (shown r)) c.in-Begin.is))

pub returns-in-Commit-clause-cuts : goal.returns-in-Commit-clause-cuts
returns-in-Commit-clause-cuts g c none = answering.other_cuts _ _ _ (answering.is_of c.args.text.now c.in-Of.name Commit (sym c.in-Of.ensures.asked ∙ ap (λ (r : code_request.Request). Of c.in-Of.name (shown r)) c.in-Commit.is))

pub returns-in-Abort-clause-cuts : goal.returns-in-Abort-clause-cuts
returns-in-Abort-clause-cuts g c none = answering.other_cuts _ _ _ (answering.is_of c.args.text.now c.in-Of.name Abort (sym c.in-Of.ensures.asked ∙ ap (λ (r : code_request.Request). Of c.in-Of.name (shown r)) c.in-Abort.is))

pub returns-in-Do-clause-cuts : goal.returns-in-Do-clause-cuts
returns-in-Do-clause-cuts g c none = answering.other_cuts _ _ _ (answering.is_of c.args.text.now c.in-Of.name (Do (said_op c.in-Do.op)) (sym c.in-Of.ensures.asked ∙ ap (λ (r : code_request.Request). Of c.in-Of.name (shown r)) c.in-Do.is))

pub returns-in-Keys-clause-cuts : goal.returns-in-Keys-clause-cuts
returns-in-Keys-clause-cuts g c none = answering.other_cuts _ _ _ (answering.is_of c.args.text.now c.in-Of.name (Do (On c.in-Keys.table Keys)) (sym c.in-Of.ensures.asked ∙ ap (λ (r : code_request.Request). Of c.in-Of.name (shown r)) c.in-Keys.is))

pub returns-in-List-clause-cuts : goal.returns-in-List-clause-cuts
returns-in-List-clause-cuts g c none = answering.other_cuts _ _ _ (answering.is_of c.args.text.now c.in-Of.name (Do Names) (sym c.in-Of.ensures.asked ∙ ap (λ (r : code_request.Request). Of c.in-Of.name (shown r)) c.in-List.is))

pub returns-then-is_some-clause-cuts : goal.returns-then-is_some-clause-cuts
returns-then-is_some-clause-cuts g c none = heeding.not_stopped c.args.self.now.store.stop (ap is_some none) (ap is_some (sym c.stop.ensures) ∙ (sym c.is_some.ensures ∙ c.if-is_some.true))

pub returns-else-is_some-clause-cuts : goal.returns-else-is_some-clause-cuts
returns-else-is_some-clause-cuts g c none =
    let old = c.args.self.now.store in
    let new = c.keep_up.new.self.store in
    subst
    (λ (l : Line). IfTruncates l ((g.E.Engine.view old.engine).Told → IsCut (g.E.Engine.unwritten old.engine) (option_map number_of (slice_get old.txns 0)) (g.E.Truncates.last_checkpoint old.engine) (g.E.Truncates.is_spent old.engine)
    (g.E.Engine.view old.engine).start (g.E.Engine.view new.engine).start (g.E.Truncates.first_frame_end new.engine)))
    (answering.is_upkeep c.args.text.now c.in-Some.upkeep (sym c.in-Wrong.ensures.asked) (sym c.in-Some.ensures)) (c.keep_up.ensures.cuts none)

pub returns-in-Blank-clause-hands : goal.returns-in-Blank-clause-hands
returns-in-Blank-clause-hands g c none = answering.no_commit _ _ _ refl (answering.is_blank c.args.text.now (sym c.in-Blank.ensures.asked))

pub returns-in_default-clause-hands : goal.returns-in_default-clause-hands
returns-in_default-clause-hands g c none = answering.marking_no_commit _ _ _ (answering.by_marking c.args.text.now _ (sym c.in-Wrong.ensures.asked) (sym c.in_default.ensures) refl)

pub returns-then-is_some-2-clause-hands : goal.returns-then-is_some-2-clause-hands
returns-then-is_some-2-clause-hands g c none = heeding.not_stopped c.args.self.now.store.stop (ap is_some none) (ap is_some (sym c.stop-in-Of.ensures) ∙ (sym c.is_some-in-Of.ensures ∙ c.if-is_some-2.true))

pub returns-in-Begin-clause-hands : goal.returns-in-Begin-clause-hands
returns-in-Begin-clause-hands g c none = answering.no_commit _ _ _ refl (answering.is_of c.args.text.now c.in-Of.name Begin (sym c.in-Of.ensures.asked ∙ ap (λ (r : code_request.Request). Of c.in-Of.name (shown r)) c.in-Begin.is))

pub returns-in-Commit-clause-hands : goal.returns-in-Commit-clause-hands
returns-in-Commit-clause-hands g c none = subst (λ (l : Line). HandsAtCommit l c.args.self.now c.commit.new.self) (answering.is_of c.args.text.now c.in-Of.name Commit (sym c.in-Of.ensures.asked ∙ ap (λ (r : code_request.Request). Of c.in-Of.name (shown r)) c.in-Commit.is)) c.commit.ensures.hands

pub returns-in-Abort-clause-hands : goal.returns-in-Abort-clause-hands
returns-in-Abort-clause-hands g c none = answering.no_commit _ _ _ refl (answering.is_of c.args.text.now c.in-Of.name Abort (sym c.in-Of.ensures.asked ∙ ap (λ (r : code_request.Request). Of c.in-Of.name (shown r)) c.in-Abort.is))

pub returns-in-Do-clause-hands : goal.returns-in-Do-clause-hands
returns-in-Do-clause-hands g c none = answering.no_commit _ _ _ refl (answering.is_of c.args.text.now c.in-Of.name (Do (said_op c.in-Do.op)) (sym c.in-Of.ensures.asked ∙ ap (λ (r : code_request.Request). Of c.in-Of.name (shown r)) c.in-Do.is))

pub returns-in-Keys-clause-hands : goal.returns-in-Keys-clause-hands
returns-in-Keys-clause-hands g c none = answering.no_commit _ _ _ refl (answering.is_of c.args.text.now c.in-Of.name (Do (On c.in-Keys.table Keys)) (sym c.in-Of.ensures.asked ∙ ap (λ (r : code_request.Request). Of c.in-Of.name (shown r)) c.in-Keys.is))

pub returns-in-List-clause-hands : goal.returns-in-List-clause-hands
returns-in-List-clause-hands g c none = answering.no_commit _ _ _ refl (answering.is_of c.args.text.now c.in-Of.name (Do Names) (sym c.in-Of.ensures.asked ∙ ap (λ (r : code_request.Request). Of c.in-Of.name (shown r)) c.in-List.is))

pub returns-then-is_some-clause-hands : goal.returns-then-is_some-clause-hands
returns-then-is_some-clause-hands g c none = heeding.not_stopped c.args.self.now.store.stop (ap is_some none) (ap is_some (sym c.stop.ensures) ∙ (sym c.is_some.ensures ∙ c.if-is_some.true))

pub returns-else-is_some-clause-hands : goal.returns-else-is_some-clause-hands
returns-else-is_some-clause-hands g c none = answering.no_commit _ _ _ refl (answering.is_upkeep c.args.text.now c.in-Some.upkeep (sym c.in-Wrong.ensures.asked) (sym c.in-Some.ensures))
