use mathlib.Core.Logic.{∥∥₁_elim, ∥∥₁_prop}
use Rattle.std.proofs.Common.{ap, subst, ◌∙◌, refl}
use Rattle.std.proofs.lemmas.Result.{err_from_is_err_and}
use Rattle.sg_base.specs.declared.numbers.TxnId.{TxnId}
use Rattle.sg_actions.specs.Growing.{moments_same}
use Rattle.sg_actions.proofs.Counting.{looked_none}
use Rattle.sg_actions.proofs.GoneOff.{off_none, off_then, off_as, counts_more, counts_fails, counts_after}
use Rattle.sg_actions.specs.Engine.{ArePagesFit, led}
use Rattle.sg_actions.proofs.Finishing.{none_left, action_off, all_off_now, off_same, going_same, all_same, on_ok}
use Rattle.sg_actions.proofs.acts.Acts.resume.Goals as goal

pub take_one_off-requires-clause-by : goal.take_one_off-requires-clause-by
take_one_off-requires-clause-by g c = λ told. ∥∥₁_elim (c.requires.by (c.changes.invariant.told told)) ∥∥₁_prop (λ x. ∣ (x.0, c.changes.invariant.means x.0 x.1) ∣₁)

pub take_one_off-requires-clause-off : goal.take_one_off-requires-clause-off
take_one_off-requires-clause-off g c = λ told1.
    let i = c.changes.invariant in
    ∥∥₁_elim (c.requires.off (i.told told1)) ∥∥₁_prop (λ x. ∣ (x.0, i.means x.0 x.1, record { kept = x.2.kept; begin = x.2.begin; going = i.going x.0 x.1 x.2.kept x.2.begin x.2.going told1; more = c.changes-test.true }) ∣₁)

pub changes-preserved : goal.changes-preserved
changes-preserved g c =
    let i = c.changes.invariant in
    let k = c.in_ok-at.ensures in
    record {
      told = λ t. i.told (k.told t);
      means = λ start m. k.means start (i.means start m);
      looked = counts_more i.looked k.counts;
      who = ap (λ (u : TxnId). u.0) k.who ∙ i.who;
      begun = k.begun;
      unfreed = k.unfreed ∙ i.unfreed;
      goes = λ from m told kept b h.
          off_then (led from (g.E.Engine.view c.args.self.now.engine)) (led from (g.E.Engine.view c.changes.self.engine)) (led from (g.E.Engine.view c.take_one_off.new.self.engine)) (i.goes from m told kept b h) k.counts.stops
          (λ told1. off_as i.who (k.goes from (i.means from m) told1 kept b c.changes-test.true (i.going from m kept b h told1)));
      off = λ from m kept b h u.
          let d = k.did from (i.means from m) in
          let on = d.goes_on (d.told u) kept b c.changes-test.true (i.off from m kept b h (d.told u)) in
          off_same k.unfreed k.rows on;
      going = λ from m kept b h u.
          let d = k.did from (i.means from m) in
          going_same k.rows (d.keeps_on (d.told u) kept b c.changes-test.true (i.going from m kept b h (d.told u)));
    }

pub returns-clause-did : goal.returns-clause-did
returns-clause-did g c = λ limits from m.
    let i = c.changes.invariant in
    let m1 = i.means from m in
    let m2 = c.void.ensures.means _ from m1 in
    on_ok c.void.result (λ v kept begin can told.
    let told1 = v.told told in
    let can0 = can (i.told told1) in
    all_same c.void.ensures.maps
    (all_off_now _ limits kept begin (led from (g.E.Engine.view c.changes.self.engine)) (led from (g.E.Engine.view c.void.new.self.engine)) c.changes.self.maps c.changes.self.unfreed c.changes.self.rows.items c.void.new.self.rows.items c.changes.self.actor c.void.new.self.actor c.changes.at told1
    (record { begun = can0.begun; off = i.off from m kept begin can0.off told1 }) c.changes-test.false v (subst ArePagesFit (g.met.E.Engine.now_is _ _ from m2 told) (g.met.E.Engine.pages_fit _ _ from m2 told)))) (c.void.ensures.did _ from m1)

pub returns-clause-over : goal.returns-clause-over
returns-clause-over g c = λ from m.
    let i = c.changes.invariant in
    let m1 = i.means from m in
    on_ok c.void.result (λ v kept begin can told.
    let told1 = v.told told in
    action_off _ kept begin (led from (g.E.Engine.view c.changes.self.engine)) (led from (g.E.Engine.view c.void.new.self.engine)) c.changes.self.rows.items c.void.new.self.rows.items c.changes.self.actor c.void.new.self.actor c.changes.at told1
    (i.going from m kept begin (can (i.told told1)) told1) c.changes-test.false v) (c.void.ensures.did _ from m1)

pub returns-clause-means : goal.returns-clause-means
returns-clause-means g c = λ start m. c.void.ensures.means _ start (c.changes.invariant.means start m)

pub returns-clause-told : goal.returns-clause-told
returns-clause-told g c = λ told. c.changes.invariant.told (c.void.ensures.counts.told told)

pub returns-in_err-at-clause-means : goal.returns-in_err-at-clause-means
returns-in_err-at-clause-means g c = λ start m. c.in_err-at.ensures.means start (c.changes.invariant.means start m)

pub changes-init : goal.changes-init
changes-init g c = record {
  told = λ t. t;
  looked = looked_none (g.E.Engine.view c.args.self.now.engine) c.args.self.now.breaks;
  who = refl;
  begun = refl;
  unfreed = refl;
  goes = λ from m told kept b h. off_none c.args.self.now.actor.txn.0 (led from (g.E.Engine.view c.args.self.now.engine)) h.taking.running.log (moments_same (led from (g.E.Engine.view c.args.self.now.engine)) (g.met.E.Engine.images c.args.self.now.engine _ from m told)) told;
  means = λ from m. m;
  off = λ from m kept b h told. h;
  going = λ from m kept b h told. h;
}

pub returns-in_err-at-clause-counts : goal.returns-in_err-at-clause-counts
returns-in_err-at-clause-counts g c =
    let p = err_from_is_err_and c.from_residual.result c.from_residual.ensures.1 in
    counts_fails c.from_residual.result c.in_err-at.field-0.0 p.0 p.1 p.2 c.changes.invariant.looked c.in_err-at.ensures.counts

pub returns-in_err-at-clause-goes : goal.returns-in_err-at-clause-goes
returns-in_err-at-clause-goes g c = λ from m told kept b r.
    let i = c.changes.invariant in
    let k = c.in_err-at.ensures in
    off_then (led from (g.E.Engine.view c.args.self.now.engine)) (led from (g.E.Engine.view c.changes.self.engine)) (led from (g.E.Engine.view c.take_one_off.new.self.engine)) (i.goes from m told kept b r) k.counts.stops
    (λ told1. off_as i.who (k.goes from (i.means from m) told1 kept b c.changes-test.true (i.going from m kept b r told1)))

pub returns-in_err-at-clause-unfreed : goal.returns-in_err-at-clause-unfreed
returns-in_err-at-clause-unfreed g c = c.in_err-at.ensures.unfreed ∙ c.changes.invariant.unfreed

pub returns-clause-counts : goal.returns-clause-counts
returns-clause-counts g c = counts_after c.void.result (g.met.E.Engine.told_whole _) c.changes.invariant.looked c.void.ensures.counts c.void.ensures.breaks

pub returns-clause-goes : goal.returns-clause-goes
returns-clause-goes g c = λ from m told kept b r.
    let i = c.changes.invariant in
    off_then (led from (g.E.Engine.view c.args.self.now.engine)) (led from (g.E.Engine.view c.changes.self.engine)) (led from (g.E.Engine.view c.void.new.self.engine)) (i.goes from m told kept b r) c.void.ensures.counts.stops
    (λ told1. let off = i.going from m kept b r told1 in
    off_as i.who
    (c.void.ensures.goes _ from (i.means from m) told1 kept b off.taking (none_left (g.E.Engine.view c.changes.self.engine).steps c.changes.self.actor c.changes.at off.taking.running.linked off.at_is c.changes-test.false)))

pub returns-clause-unfreed : goal.returns-clause-unfreed
returns-clause-unfreed g c = c.void.ensures.unfreed ∙ c.changes.invariant.unfreed

pub take_one_off-requires-clause-begun : goal.take_one_off-requires-clause-begun
take_one_off-requires-clause-begun g c = c.changes.invariant.begun

pub void-requires : goal.void-requires
void-requires g c = record {
  over = λ told1.
      let i = c.changes.invariant in
      ∥∥₁_elim (c.requires.off (i.told told1)) ∥∥₁_prop (λ x.
      let off = i.going x.0 x.1 x.2.kept x.2.begin x.2.going told1 in
      ∣ record { running = off.taking.running; none = none_left (g.E.Engine.view c.changes.self.engine).steps c.changes.self.actor c.changes.at off.taking.running.linked off.at_is c.changes-test.false } ∣₁);
}
