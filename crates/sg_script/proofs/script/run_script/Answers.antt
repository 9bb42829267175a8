use Rattle.std.proofs.Common.{ℕ, arith, subst, refl, ap, ◌∙◌, Ok, Err}
use Rattle.sg_base.specs.Ends.{HasRisen}
use Rattle.sg_store.proofs.Heeding.{heeds_none, heeds_then}
use Rattle.sg_session.specs.Lines.{line_of}
use Rattle.sg_session.specs.Seen.{session_core, session_engine}
use Rattle.sg_script.proofs.Executing.{went_ok, went_err}
use Rattle.sg_script.proofs.Scripts.{way_begins, way_goes_on, way_ends, way_unwritten, way_broken, way_unread, way_too_long}
use Rattle.sg_script.proofs.script.run_script.Goals as goal

pub pieces-init : goal.pieces-init
pieces-init g c = record {
  so_far = way_begins g.E.Engine _ (session_engine c.args.session.now) (session_core c.args.session.now) (g.S.Source.left c.args.script.now) (g.K.Sink.taken c.args.out.now) c.new-line.result c.new-line.ensures;
  serves = c.requires.serves;
  short = omega arith;
  source = refl;
  sink = refl;
  told = λ h. h;
  heeds = heeds_none c.args.session.now.store.stop (g.E.Engine.view (session_engine c.args.session.now));
}

pub returns-in_default-clause-ran : goal.returns-in_default-clause-ran
returns-in_default-clause-ran g c =
    way_unread g.E.Engine _ (session_engine c.args.session.now) (session_core c.args.session.now) (g.S.Source.left c.args.script.now) (g.K.Sink.taken c.args.out.now) (g.S.Source.left c.pieces.script) _ _ _ _ c.pieces.line c.pieces.total c.pieces.invariant.so_far c.pieces.invariant.short c.in_default.ensures.kept

pub returns-in-Ok-line-clause-ran : goal.returns-in-Ok-line-clause-ran
returns-in-Ok-line-clause-ran g c =
    way_ends g.E.Engine _ (session_engine c.args.session.now) (session_core c.args.session.now) (g.S.Source.left c.args.script.now) (g.K.Sink.taken c.args.out.now) (g.S.Source.left c.pieces.script) (g.S.Source.left c.read.new.self) (g.K.Sink.taken c.pieces.out) (g.K.Sink.taken c.line.new.out)
    (session_engine c.pieces.session) (session_engine c.line.new.self) (session_core c.pieces.session) (session_core c.line.new.self) c.pieces.line c.read.new.into c.pieces.total c.pieces.invariant.so_far c.pieces.invariant.short (omega arith) (rw c.if-count-eq0.true at c.in-Ok.ensures.given)
    (went_ok {X = Unit {0}} g.E.Engine _ (Ok c.in-Ok-line.field-0) (session_engine c.pieces.session) (session_core c.pieces.session) _ _ _ (session_engine c.line.new.self) (session_core c.line.new.self) (ap line_of c.bytes.ensures)
    c.line.ensures.means c.line.ensures.heeds (λ s. (let p = c.line.ensures.stopped s in (ap (λ s. session_engine s) p, ap (λ s. session_core s) p))) c.in-Ok-line.ensures.line)

pub returns-in-Err-clause-ran : goal.returns-in-Err-clause-ran
returns-in-Err-clause-ran g c =
    way_unwritten g.E.Engine _ (session_engine c.args.session.now) (session_core c.args.session.now) (g.S.Source.left c.args.script.now) (g.K.Sink.taken c.args.out.now) (g.S.Source.left c.pieces.script) (g.S.Source.left c.read.new.self) (g.K.Sink.taken c.pieces.out) (g.K.Sink.taken c.line.new.out)
    (session_engine c.pieces.session) (session_engine c.line.new.self) (session_core c.pieces.session) (session_core c.line.new.self) c.pieces.line c.read.new.into c.pieces.total c.pieces.invariant.so_far c.pieces.invariant.short (omega arith) (rw c.if-count-eq0.true at c.in-Ok.ensures.given)
    (went_err {R = Unit {0}} g.E.Engine _ (Err c.in-Err.field-0) (session_engine c.pieces.session) (session_core c.pieces.session) _ _ _ (session_engine c.line.new.self) (session_core c.line.new.self) (ap line_of c.bytes.ensures)
    c.line.ensures.means c.line.ensures.heeds (λ s. (let p = c.line.ensures.stopped s in (ap (λ s. session_engine s) p, ap (λ s. session_core s) p))) c.in-Err.ensures.cut)

pub returns-then-count-total-clause-ran : goal.returns-then-count-total-clause-ran
returns-then-count-total-clause-ran g c =
    way_too_long g.E.Engine _ (session_engine c.args.session.now) (session_core c.args.session.now) (g.S.Source.left c.args.script.now) (g.K.Sink.taken c.args.out.now) (g.S.Source.left c.pieces.script) (g.S.Source.left c.read.new.self) _ _ _ c.pieces.line c.read.new.into c.pieces.total c.in-Ok.count
    c.pieces.invariant.so_far c.pieces.invariant.short (omega arith) c.in-Ok.ensures.given c.in-Ok.ensures.within (omega (arith, c.requires.small))

pub pieces-preserved : goal.pieces-preserved
pieces-preserved g c = record {
  so_far =
      way_goes_on g.E.Engine _ (session_engine c.args.session.now) (session_core c.args.session.now) (g.S.Source.left c.args.script.now) (g.K.Sink.taken c.args.out.now) (g.S.Source.left c.pieces.script) (g.S.Source.left c.read.new.self) _ _ _ _ _ _ c.pieces.line c.feed.new.pending c.read.new.into _ c.pieces.total c.in-Ok.count
      c.pieces.invariant.so_far c.in-Ok.ensures.given c.in-Ok.ensures.within refl c.in-Ok-feed.ensures.fed;
  serves = c.feed.ensures.serves;
  short = omega arith;
  source = c.in-Ok.ensures.quiet ∙ c.pieces.invariant.source;
  sink = c.in-Ok-feed.ensures.quiet ∙ c.pieces.invariant.sink;
  told = λ h. c.pieces.invariant.told (c.feed.ensures.told h);
  heeds = heeds_then c.args.session.now.store.stop c.pieces.session.store.stop c.feed.new.session.store.stop (g.E.Engine.view (session_engine c.args.session.now)) (g.E.Engine.view (session_engine c.pieces.session)) (g.E.Engine.view (session_engine c.feed.new.session)) c.pieces.invariant.heeds c.feed.ensures.heeds;
}

pub returns-in-Err-feed-clause-ran : goal.returns-in-Err-feed-clause-ran
returns-in-Err-feed-clause-ran g c =
    way_broken g.E.Engine _ (session_engine c.args.session.now) (session_core c.args.session.now) (g.S.Source.left c.args.script.now) (g.K.Sink.taken c.args.out.now) (g.S.Source.left c.pieces.script) (g.S.Source.left c.read.new.self) _ _ _ _ _ _ c.pieces.line c.read.new.into _ c.pieces.total c.in-Ok.count
    c.pieces.invariant.so_far (omega arith) c.in-Ok.ensures.given c.in-Ok.ensures.within refl c.in-Err-feed.ensures.broken

pub returns-in_default-clause-cause : goal.returns-in_default-clause-cause
returns-in_default-clause-cause g c = (subst (λ (n : ℕ). HasRisen n (g.S.Source.faults c.read.new.self)) c.pieces.invariant.source c.in_default.ensures.failed, c.pieces.invariant.sink)

pub returns-in-Ok-line-clause-cause : goal.returns-in-Ok-line-clause-cause
returns-in-Ok-line-clause-cause g c = (c.in-Ok.ensures.quiet ∙ c.pieces.invariant.source, c.in-Ok-line.ensures.quiet ∙ c.pieces.invariant.sink)

pub returns-in-Err-clause-cause : goal.returns-in-Err-clause-cause
returns-in-Err-clause-cause g c = (c.in-Ok.ensures.quiet ∙ c.pieces.invariant.source, subst (λ (n : ℕ). HasRisen n (g.K.Sink.faults c.line.new.out)) c.pieces.invariant.sink c.in-Err.ensures.failed)

pub returns-in-Err-feed-clause-cause : goal.returns-in-Err-feed-clause-cause
returns-in-Err-feed-clause-cause g c = (c.in-Ok.ensures.quiet ∙ c.pieces.invariant.source, subst (λ (n : ℕ). HasRisen n (g.K.Sink.faults c.feed.new.out)) c.pieces.invariant.sink c.in-Err-feed.ensures.failed)

pub returns-then-count-total-clause-cause : goal.returns-then-count-total-clause-cause
returns-then-count-total-clause-cause g c = (c.in-Ok.ensures.quiet ∙ c.pieces.invariant.source, c.pieces.invariant.sink)

pub returns-in-Ok-line-clause-heeds : goal.returns-in-Ok-line-clause-heeds
returns-in-Ok-line-clause-heeds g c = heeds_then c.args.session.now.store.stop c.pieces.session.store.stop c.line.new.self.store.stop (g.E.Engine.view (session_engine c.args.session.now)) (g.E.Engine.view (session_engine c.pieces.session)) (g.E.Engine.view (session_engine c.line.new.self)) c.pieces.invariant.heeds c.line.ensures.heeds

pub returns-in-Err-clause-heeds : goal.returns-in-Err-clause-heeds
returns-in-Err-clause-heeds g c = heeds_then c.args.session.now.store.stop c.pieces.session.store.stop c.line.new.self.store.stop (g.E.Engine.view (session_engine c.args.session.now)) (g.E.Engine.view (session_engine c.pieces.session)) (g.E.Engine.view (session_engine c.line.new.self)) c.pieces.invariant.heeds c.line.ensures.heeds

pub returns-in-Err-feed-clause-heeds : goal.returns-in-Err-feed-clause-heeds
returns-in-Err-feed-clause-heeds g c = heeds_then c.args.session.now.store.stop c.pieces.session.store.stop c.feed.new.session.store.stop (g.E.Engine.view (session_engine c.args.session.now)) (g.E.Engine.view (session_engine c.pieces.session)) (g.E.Engine.view (session_engine c.feed.new.session)) c.pieces.invariant.heeds c.feed.ensures.heeds

pub returns-in-Ok-line-clause-told : goal.returns-in-Ok-line-clause-told
returns-in-Ok-line-clause-told g c h = c.pieces.invariant.told (c.line.ensures.told h)

pub returns-in-Err-clause-told : goal.returns-in-Err-clause-told
returns-in-Err-clause-told g c h = c.pieces.invariant.told (c.line.ensures.told h)

pub returns-in-Err-feed-clause-told : goal.returns-in-Err-feed-clause-told
returns-in-Err-feed-clause-told g c h = c.pieces.invariant.told (c.feed.ensures.told h)
