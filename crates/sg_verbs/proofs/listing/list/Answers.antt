use Rattle.std.proofs.Common.{Bool, false, sym, ◌∙◌, subst}
use Rattle.sg_shown.specs.Shown.{over, Over}
use Rattle.sg_verbs.proofs.Looking.{asked_there}
use Rattle.sg_verbs.proofs.Looked.{asked_look, contents_there, went_on, paused_is}
use Rattle.sg_verbs.specs.Looks.{IsGivenUp}
use Rattle.sg_verbs.proofs.Listed.{names_listed, Lists, list_kept, list_fails, list_counts, list_memory, list_quiet, list_reads, list_given_up}
use Rattle.sg_verbs.proofs.Moving.{LaterOn}
use Rattle.sg_verbs.proofs.Paused.{goes_back}
use Rattle.sg_verbs.proofs.listing.list.Goals as goal

pub list-listed-requires : goal.list-listed-requires
list-listed-requires g c = contents_there c.args.acts.now c.pause-was.new.acts c.pause-was.ensures.paused
    (asked_there g.E.Engine.recovers (over c.args.acts.now) c.pause-was.ensures.sound.now c.requires.can)

pub returns-in-Ok : goal.returns-in-Ok
returns-in-Ok g c =
    let a = c.args.acts.now in
    let p = c.pause-was.new.acts in
    let b = c.list-listed.new.space in
    let d = c.go_on.new.acts in
    let q = c.list-listed.ensures in
    let l = asked_look a p b c.pause-was.ensures.paused c.pause-was.ensures.sound c.go_on.ensures.sound q.later q.writes.records c.requires.can in
    let r = c.list-listed.result in
    let left : Lists _ _ r = record { counts = q.counts; kept = q.kept; memory = q.memory; quiet = q.quiet; writes = q.writes } in
    let done = sym c.has_failed.ensures ∙ c.in-Ok.ensures.done in
    let k = list_kept a p b d r l left done (went_on b d c.pause-was.ensures.was c.in-Ok.ensures.on) c.in-Ok.ensures.held in
    record {
      counts = list_counts a p b d r done k;
      means = k.means;
      tail = k.tail;
      lists = names_listed a p b d l c.list-listed.result k c.list-listed.ensures.read;
      memory = list_memory a p b d r k;
      quiet = list_quiet a p b d r k;
      reads = list_reads a p b d r done;
    }

pub returns-in-Err : goal.returns-in-Err
returns-in-Err g c =
    let a = c.args.acts.now in
    let p = c.pause-was.new.acts in
    let b = c.list-listed.new.space in
    let d = c.go_on.new.acts in
    let q = c.list-listed.ensures in
    let l = asked_look a p b c.pause-was.ensures.paused c.pause-was.ensures.sound c.go_on.ensures.sound q.later q.writes.records c.requires.can in
    let r = c.list-listed.result in
    let left : Lists _ _ r = record { counts = q.counts; kept = q.kept; memory = q.memory; quiet = q.quiet; writes = q.writes } in
    let f = c.in-Err.fault in
    let up = subst (λ (x : Bool). IsGivenUp false x (over b) (over d) f) c.has_failed.ensures c.in-Err.ensures.given_up in
    let h = list_given_up a p b d l f q.counts.later (list_fails a p b d r l left) up in
    record {
      counts = h.counts;
      means = h.means;
      tail = h.tail;
      lists = λ t z from m told o engine can. (h.rests t z from m told, tt);
      memory = h.memory;
      quiet = h.quiet;
      reads = h.reads;
    }

pub go_on-requires : goal.go_on-requires
go_on-requires g c =
    let a = c.args.acts.now in
    let b = c.list-listed.new.space in
    let can = c.requires.can in
    let t = can.by in
    record {
      on = goes_back g.E.Engine.recovers (over a) (over b) t (subst (λ (o : Over). LaterOn g.E.Engine.recovers t o (over b)) (paused_is a c.pause-was.new.acts c.pause-was.ensures.paused) (c.list-listed.ensures.later t)) (λ w. g.met.E.Engine.told_whole _ w)
          (λ told. (can.sizes, can.from told, can.means told)) c.pause-was.result;
    }
