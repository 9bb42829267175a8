use Rattle.std.proofs.Common.{ℕ, refl, ◌∙◌, subst}
use Rattle.sg_base.specs.Ends.{HasRisen}
use Rattle.sg_store.proofs.Heeding.{heeds_none, heeds_then}
use Rattle.sg_session.specs.Seen.{session_core, session_engine}
use Rattle.sg_script.proofs.Feeds.{feed_started, feed_line, feed_ends, feed_breaks}
use Rattle.sg_script.proofs.feed.feed.Goals as goal

pub lines-init : goal.lines-init
lines-init g c = record {
  so_far = λ e k lines first held h. feed_started g.E.Engine _ e k lines first held c.args.piece.now _ _ _ c.args.pending.now h;
  serves = c.requires.serves;
  told = λ h. h;
  heeds = heeds_none c.args.session.now.store.stop (g.E.Engine.view (session_engine c.args.session.now));
  quiet = refl;
}

pub returns-in_default-clause-fed : goal.returns-in_default-clause-fed
returns-in_default-clause-fed g c = λ e k lines first held h.
    feed_ends g.E.Engine _ e k lines first held c.args.piece.now _ _ _ c.lines.pending c.push.new.self c.lines.rest.now c.cut.result.0.now (c.lines.invariant.so_far e k lines first held h) c.push.ensures (rw c.in_default.is at c.cut.ensures.last_piece)

pub lines-preserved : goal.lines-preserved
lines-preserved g c = record {
  so_far = λ e k lines first held h.
      feed_line g.E.Engine _ e k lines first held c.args.piece.now (g.K.Sink.taken c.lines.out) (g.K.Sink.taken c.end_line.new.out) (session_engine c.lines.session) (session_engine c.end_line.new.session) (session_core c.lines.session) (session_core c.end_line.new.session)
      c.lines.pending c.end_line.new.pending c.lines.rest.now c.cut.result.0.now c.in-Some.after.now (c.lines.invariant.so_far e k lines first held h) c.end_line.ensures.over (rw c.in-Some.is at c.cut.ensures.more_piece) c.in-Ok.ensures.line;
  serves = c.end_line.ensures.serves;
  told = λ h. c.lines.invariant.told (c.end_line.ensures.told h);
  heeds = heeds_then c.args.session.now.store.stop c.lines.session.store.stop c.end_line.new.session.store.stop (g.E.Engine.view (session_engine c.args.session.now)) (g.E.Engine.view (session_engine c.lines.session)) (g.E.Engine.view (session_engine c.end_line.new.session)) c.lines.invariant.heeds c.end_line.ensures.heeds;
  quiet = c.in-Ok.ensures.quiet ∙ c.lines.invariant.quiet;
}

pub returns-in-Err-clause-broken : goal.returns-in-Err-clause-broken
returns-in-Err-clause-broken g c = λ e k lines first held h.
    feed_breaks g.E.Engine _ e k lines first held c.args.piece.now (g.K.Sink.taken c.lines.out) (g.K.Sink.taken c.end_line.new.out) (session_engine c.lines.session) (session_engine c.end_line.new.session) (session_core c.lines.session) (session_core c.end_line.new.session)
    c.lines.pending c.lines.rest.now c.cut.result.0.now c.in-Some.after.now (c.lines.invariant.so_far e k lines first held h) (rw c.in-Some.is at c.cut.ensures.more_piece) c.in-Err.ensures.cut

pub returns-in-Err-clause-failed : goal.returns-in-Err-clause-failed
returns-in-Err-clause-failed g c = subst (λ (n : ℕ). HasRisen n (g.K.Sink.faults c.end_line.new.out)) c.lines.invariant.quiet c.in-Err.ensures.failed

pub returns-in-Err-clause-told : goal.returns-in-Err-clause-told
returns-in-Err-clause-told g c h = c.lines.invariant.told (c.end_line.ensures.told h)

pub returns-in-Err-clause-heeds : goal.returns-in-Err-clause-heeds
returns-in-Err-clause-heeds g c =
    heeds_then c.args.session.now.store.stop c.lines.session.store.stop c.end_line.new.session.store.stop (g.E.Engine.view (session_engine c.args.session.now)) (g.E.Engine.view (session_engine c.lines.session)) (g.E.Engine.view (session_engine c.end_line.new.session)) c.lines.invariant.heeds c.end_line.ensures.heeds
