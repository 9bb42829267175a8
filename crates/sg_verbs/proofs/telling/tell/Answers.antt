use Rattle.std.proofs.Common.{ℕ, Bool, false, Result, sym, ◌∙◌, subst}
use Rattle.std.specs.Prelude.{IfErr}
use Rattle.sg_shown.specs.Shown.{over, shown, Over}
use Rattle.sg_store.specs.Engine.{AsMeant, Counts, IsEngine, Rests}
use Rattle.sg_store.specs.Telling.{IsTellDisk, IsUntoldQuietly, CountsListener, HasTold}
use Rattle.sg_store.specs.Verbs.{Reads}
use Rattle.sg_store.specs.declared.fault.TellFault.{TellFault}
use Rattle.sg_verbs.proofs.Looking.{asked_there}
use Rattle.sg_verbs.proofs.Looked.{asked_look, contents_there, went_on, paused_is}
use Rattle.sg_verbs.proofs.Settled.{read_up}
use Rattle.sg_verbs.proofs.Told.{tell_kept, tell_counts, tell_quiet, told_objects, tell_fails, tell_given_up, listener_counts}
use Rattle.sg_verbs.proofs.Moving.{LaterOn}
use Rattle.sg_verbs.proofs.Paused.{goes_back}
use Rattle.sg_verbs.specs.Looks.{IsGivenUp}
use Rattle.sg_verbs.proofs.telling.tell.Goals as goal

pub tell-told-requires : goal.tell-told-requires
tell-told-requires g c = contents_there c.args.acts.now c.pause-was.new.acts c.pause-was.ensures.paused
    (asked_there g.E.Engine.recovers (over c.args.acts.now) c.pause-was.ensures.sound.now c.requires.can)

pub returns-in-Ok : goal.returns-in-Ok
returns-in-Ok g c =
    let a = c.args.acts.now in
    let p = c.pause-was.new.acts in
    let b = c.tell-told.new.space in
    let d = c.go_on.new.acts in
    let q = c.tell-told.ensures in
    let l = asked_look a p b c.pause-was.ensures.paused c.pause-was.ensures.sound c.go_on.ensures.sound q.later q.space.records
    c.requires.can in
    let r = c.tell-told.result in
    let done = sym c.has_failed.ensures ∙ c.in-Ok.ensures.done in
    let k = tell_kept a p b d r l q.space done (went_on b d c.pause-was.ensures.was c.in-Ok.ensures.on) c.in-Ok.ensures.held in
    let ears = g.L.Listener.ears in
    let from = c.args.to.now in
    let to = c.tell-told.new.to in
    let e = sym c.as_told.ensures in
    record {
      counts = subst (λ (x : Result ℕ TellFault). Counts IsTellDisk (shown a) (shown d) x) e (tell_counts a p b d r done k);
      means = k.means;
      tail = k.tail;
      tells = subst (λ (x : Result ℕ TellFault). AsMeant (shown a) (shown d) (λ t g v w. (o : g.O) → IsEngine t g v → Reads t g v o
          → Rests t g v w × HasTold ears from to t g v w o x)) e
          (told_objects a p b d ears from to l r done k q.heard q.count);
      quiet = subst (λ (x : Result ℕ TellFault). IfErr x (IsUntoldQuietly (shown a) (shown d))) e (tell_quiet a p b d r done k);
      listener = subst (λ (x : Result ℕ TellFault). CountsListener ears from to x) e (listener_counts ears from to r q.listener);
    }

pub returns-in-Err : goal.returns-in-Err
returns-in-Err g c =
    let a = c.args.acts.now in
    let p = c.pause-was.new.acts in
    let b = c.tell-told.new.space in
    let d = c.go_on.new.acts in
    let q = c.tell-told.ensures in
    let l = asked_look a p b c.pause-was.ensures.paused c.pause-was.ensures.sound c.go_on.ensures.sound q.later q.space.records
    c.requires.can in
    let r = c.tell-told.result in
    let f = c.in-Err.field-0 in
    let up = subst (λ (x : Bool). IsGivenUp false x (over b) (over d) f) c.has_failed.ensures c.in-Err.ensures.given_up in
    let h = tell_given_up a p b d l f q.space.later (tell_fails a p b d r l q.space) up (read_up (over b) (over d) f up) in
    record {
      counts = h.counts;
      means = h.means;
      tail = h.tail;
      tells = λ t z from m told o engine can. (h.rests t z from m told, tt);
      quiet = tt;
      listener = record { later = q.listener.later; counted = tt; same = q.listener.same };
    }

pub go_on-requires : goal.go_on-requires
go_on-requires g c =
    let a = c.args.acts.now in
    let b = c.tell-told.new.space in
    let can = c.requires.can in
    let t = can.by in
    record {
      on = goes_back g.E.Engine.recovers (over a) (over b) t
          (subst (λ (o : Over). LaterOn g.E.Engine.recovers t o (over b)) (paused_is a c.pause-was.new.acts c.pause-was.ensures.paused)
          (c.tell-told.ensures.later t))
          (λ w. g.met.E.Engine.told_whole _ w)
          (λ told. (can.sizes, can.from told, can.means told)) c.pause-was.result;
    }
