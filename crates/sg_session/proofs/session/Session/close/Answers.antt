use Rattle.std.proofs.Common.{sym, subst, ap, ◌∙◌}
use Rattle.sg_store.specs.Heeds.{Heeds}
use Rattle.sg_session.specs.Seen.{session_core, session_engine}
use Rattle.sg_store.specs.Stops.{stop_behind}
use Rattle.sg_store.specs.Seen.{core_of}
use Rattle.sg_session.proofs.Causing as causing
use Rattle.sg_session.proofs.Serves.{store_serves}
use Rattle.sg_session.proofs.session.Session.close.Goals as goal

pub close-done-requires : goal.close-done-requires
close-done-requires g c = let s = c.requires.serves in record { serves = (s.0, store_serves s.0 (g.E.Engine.view (session_engine c.args.self)) (session_core c.args.self) s.1) }

pub returns-clause-closes : goal.returns-clause-closes
returns-clause-closes g c t z from m told x lawful shows =
    let p = c.close-done.ensures.closes t z from m told x lawful shows.store in
    record { outcome = c.close-done.result.0; store = p.0; is_behind = c.stopped_by.ensures ∙ ap (λ s. stop_behind s c.close-done.result.0) c.stop-stop.ensures; goes = p.1 }

pub returns-clause-stopped : goal.returns-clause-stopped
returns-clause-stopped g c some =
    let p = c.close-done.ensures.stopped some in
    (p.0, c.stopped_by.ensures ∙ (ap (λ r. stop_behind c.stop-stop.result r) p.1 ∙ c.stop-stop.ensures))

pub returns-clause-heeds : goal.returns-clause-heeds
returns-clause-heeds g c =
    subst (λ s. Heeds c.args.self.store.stop s (g.E.Engine.view (session_engine c.args.self)) (g.E.Engine.view c.close-done.result.1)) (sym (c.stopped_by.ensures ∙ ap (λ s. stop_behind s c.close-done.result.0) c.stop-stop.ensures)) c.close-done.ensures.heeds

pub returns-clause-full : goal.returns-clause-full
returns-clause-full g c e =
    let p = c.close-done.ensures.causes in
    causing.close_full (g.E.Engine.view (session_engine c.args.self)) (g.E.Engine.view c.close-done.result.1) (core_of c.args.self.store) p.0 c.close-done.result.0 p.1
    (sym (c.stopped_by.ensures ∙ ap (λ s. stop_behind s c.close-done.result.0) c.stop-stop.ensures) ∙ e)

pub returns-clause-written : goal.returns-clause-written
returns-clause-written g c none =
    let p = c.close-done.ensures.causes in
    causing.close_well (g.E.Engine.view (session_engine c.args.self)) (g.E.Engine.view c.close-done.result.1) (core_of c.args.self.store) p.0 c.close-done.result.0 p.1
    (sym (c.stopped_by.ensures ∙ ap (λ s. stop_behind s c.close-done.result.0) c.stop-stop.ensures) ∙ none) c.close-done.ensures.written

pub returns-clause-marked : goal.returns-clause-marked
returns-clause-marked g c none told =
    let p = c.close-done.ensures.causes in
    (causing.close_well (g.E.Engine.view (session_engine c.args.self)) (g.E.Engine.view c.close-done.result.1) (core_of c.args.self.store) p.0 c.close-done.result.0 p.1
    (sym (c.stopped_by.ensures ∙ ap (λ s. stop_behind s c.close-done.result.0) c.stop-stop.ensures) ∙ none) c.close-done.ensures.ends told).ends
