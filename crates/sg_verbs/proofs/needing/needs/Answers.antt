use Rattle.std.proofs.Common.{Bool, false, sym, ◌∙◌, subst}
use Rattle.sg_verbs.specs.Looks.{IsGivenUp}
use Rattle.sg_ops.specs.Table.{table_of}
use Rattle.sg_model.specs.SaidOps.{name_of, verb_of}
use Rattle.sg_shown.specs.Shown.{over, Over}
use Rattle.sg_verbs.proofs.Looking.{asked_by_there}
use Rattle.sg_verbs.proofs.Looked.{asked_look_by, contents_there, went_on, failed, paused_is}
use Rattle.sg_verbs.proofs.Needed.{Finds, Says, need_kept, need_says, need_up}
use Rattle.sg_verbs.proofs.Moving.{LaterOn}
use Rattle.sg_verbs.proofs.Paused.{goes_back}
use Rattle.sg_verbs.proofs.needing.needs.Given as given
use Rattle.sg_verbs.proofs.needing.needs.Goals as goal

pub needs_of-found-requires : goal.needs_of-found-requires
needs_of-found-requires g c =
    let t = table_of (λ y. (given.RecordOp-dyn g y).record_meaning y.1) (λ y. (given.RangeOp-dyn g y).range_meaning y.1) c.args.ops.now in
    record {
      there = contents_there c.args.acts.now c.pause-was.new.acts c.pause-was.ensures.paused
          (asked_by_there g.E.Engine.recovers (over c.args.acts.now) t (c.pause-was.ensures.sound.now t) c.requires.can);
    }

pub returns-in-Ok : goal.returns-in-Ok
returns-in-Ok g c =
    let a = c.args.acts.now in
    let p = c.pause-was.new.acts in
    let b = c.needs_of-found.new.space in
    let d = c.go_on.new.acts in
    let t = table_of (λ y. (given.RecordOp-dyn g y).record_meaning y.1) (λ y. (given.RangeOp-dyn g y).range_meaning y.1) c.args.ops.now in
    let name = name_of c.args.op.now in
    let verb = verb_of c.args.op.now in
    let q = c.needs_of-found.ensures in
    let l = asked_look_by t a p b c.pause-was.ensures.paused c.pause-was.ensures.sound c.go_on.ensures.sound q.later q.writes.records c.requires.can in
    let r = c.needs_of-found.result in
    let found : Finds t name verb _ _ r = record { counts = q.counts; kept = q.kept; read = q.read; writes = q.writes } in
    let done = sym c.has_failed.ensures ∙ c.in-Ok.ensures.done in
    let k = need_kept t name verb a p b d l r found done (went_on b d c.pause-was.ensures.was c.in-Ok.ensures.on) c.in-Ok.ensures.held in
    let says = subst (Says t name verb a d) (sym c.told.ensures) (need_says t name verb a p b d l r found done k) in
    record {
      counts = says.counts;
      refused = says.refused;
      means = λ z from m. k.means t z from m;
      tail = k.tail;
      needs = says.needs;
      reads = says.reads;
    }

pub returns-in-Err : goal.returns-in-Err
returns-in-Err g c =
    let a = c.args.acts.now in
    let p = c.pause-was.new.acts in
    let b = c.needs_of-found.new.space in
    let d = c.go_on.new.acts in
    let t = table_of (λ y. (given.RecordOp-dyn g y).record_meaning y.1) (λ y. (given.RangeOp-dyn g y).range_meaning y.1) c.args.ops.now in
    let name = name_of c.args.op.now in
    let verb = verb_of c.args.op.now in
    let q = c.needs_of-found.ensures in
    let l = asked_look_by t a p b c.pause-was.ensures.paused c.pause-was.ensures.sound c.go_on.ensures.sound q.later q.writes.records c.requires.can in
    let r = c.needs_of-found.result in
    let found : Finds t name verb _ _ r = record { counts = q.counts; kept = q.kept; read = q.read; writes = q.writes } in
    let f = c.in-Err.fault in
    let up = subst (λ (x : Bool). IsGivenUp false x (over b) (over d) f) c.has_failed.ensures c.in-Err.ensures.given_up in
    let h = failed a p b d l f q.counts.later up in
    let says = need_up t name verb a p b d l r found f h in
    record {
      counts = says.counts;
      refused = says.refused;
      means = λ z from m. h.means t z from m;
      tail = h.tail;
      needs = says.needs;
      reads = says.reads;
    }

pub go_on-requires : goal.go_on-requires
go_on-requires g c =
    let a = c.args.acts.now in
    let b = c.needs_of-found.new.space in
    let can = c.requires.can in
    let t = table_of (λ y. (given.RecordOp-dyn g y).record_meaning y.1) (λ y. (given.RangeOp-dyn g y).range_meaning y.1) c.args.ops.now in
    record {
      on = goes_back g.E.Engine.recovers (over a) (over b) t (subst (λ (o : Over). LaterOn g.E.Engine.recovers t o (over b)) (paused_is a c.pause-was.new.acts c.pause-was.ensures.paused) (c.needs_of-found.ensures.later t)) (λ w. g.met.E.Engine.told_whole _ w)
          (λ told. (can.sizes, can.from told, can.means told)) c.pause-was.result;
    }
