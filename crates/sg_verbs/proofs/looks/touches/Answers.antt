use Rattle.std.proofs.Common.{Bool, false, sym, ◌∙◌, subst}
use Rattle.sg_verbs.specs.Looks.{IsGivenUp}
use Rattle.sg_model.specs.SaidOps.{said_op}
use Rattle.sg_model.specs.TouchList.{shown_touches}
use Rattle.sg_shown.specs.Shown.{over, Over}
use Rattle.sg_verbs.proofs.Looking.{asked_there}
use Rattle.sg_verbs.proofs.Looked.{asked_look, contents_there, went_on, failed, looked, looked_fails, looked_counts, looked_reads, counts_failed, touched, paused_is}
use Rattle.sg_verbs.proofs.Settled.{read_up}
use Rattle.sg_verbs.proofs.Moving.{LaterOn}
use Rattle.sg_verbs.proofs.Paused.{goes_back}
use Rattle.sg_verbs.proofs.looks.touches.Goals as goal

pub touches-done-requires : goal.touches-done-requires
touches-done-requires g c = contents_there c.args.acts.now c.pause-was.new.acts c.pause-was.ensures.paused
    (asked_there g.E.Engine.recovers (over c.args.acts.now) c.pause-was.ensures.sound.now c.requires.can)

pub returns-in-Ok : goal.returns-in-Ok
returns-in-Ok g c =
    let a = c.args.acts.now in
    let p = c.pause-was.new.acts in
    let b = c.touches-done.new.space in
    let d = c.go_on.new.acts in
    let q = c.touches-done.ensures in
    let l = asked_look a p b c.pause-was.ensures.paused c.pause-was.ensures.sound c.go_on.ensures.sound q.later q.writes.records c.requires.can in
    let r = c.touches-done.result in
    let done = sym c.is_err.ensures.value ∙ c.in-Ok.ensures.done in
    let k = looked a p b d r l q.kept q.counts done (went_on b d c.pause-was.ensures.was c.in-Ok.ensures.on) c.in-Ok.ensures.held in
    record {
      counts = looked_counts a p b d r done k;
      means = k.means;
      tail = k.tail;
      touches = touched a p b d l (shown_touches c.touches-done.new.into) (said_op c.args.op.now) r done k q.read;
      reads = looked_reads a p b d r done;
    }

pub returns-in-Err : goal.returns-in-Err
returns-in-Err g c =
    let a = c.args.acts.now in
    let p = c.pause-was.new.acts in
    let b = c.touches-done.new.space in
    let d = c.go_on.new.acts in
    let q = c.touches-done.ensures in
    let l = asked_look a p b c.pause-was.ensures.paused c.pause-was.ensures.sound c.go_on.ensures.sound q.later q.writes.records c.requires.can in
    let r = c.touches-done.result in
    let f = c.in-Err.fault in
    let up = subst (λ (x : Bool). IsGivenUp false x (over b) (over d) f) c.is_err.ensures.value c.in-Err.ensures.given_up in
    let h = failed a p b d l f q.counts.later up in
    record {
      counts = counts_failed a p b d {T = Unit {0}} f f (λ is. is) (λ is. is) (looked_fails a p b d r l q.counts q.writes.only_disk) h;
      means = h.means;
      tail = h.tail;
      touches = λ t z from m told o engine can. (h.rests t z from m told, tt);
      reads = read_up (over b) (over d) f up;
    }

pub go_on-requires : goal.go_on-requires
go_on-requires g c =
    let a = c.args.acts.now in
    let b = c.touches-done.new.space in
    let can = c.requires.can in
    let t = can.by in
    record {
      on = goes_back g.E.Engine.recovers (over a) (over b) t (subst (λ (o : Over). LaterOn g.E.Engine.recovers t o (over b)) (paused_is a c.pause-was.new.acts c.pause-was.ensures.paused) (c.touches-done.ensures.later t)) (λ w. g.met.E.Engine.told_whole _ w)
          (λ told. (can.sizes, can.from told, can.means told)) c.pause-was.result;
    }
