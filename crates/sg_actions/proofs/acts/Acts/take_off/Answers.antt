use mathlib.Core.Logic.{∥∥₁_elim, ∥∥₁_prop}
use Rattle.std.proofs.Common.{ap, subst, ◌∙◌, refl}
use Rattle.std.proofs.lemmas.Result.{err_from_is_err_and}
use Rattle.sg_alloc.specs.Flags.{free_of}
use Rattle.sg_alloc.specs.declared.maps.Maps.{Maps}
use Rattle.sg_base.specs.declared.numbers.TxnId.{TxnId}
use Rattle.sg_actions.specs.Engine.{ArePagesFit, led}
use Rattle.sg_actions.specs.Growing.{moments_same}
use Rattle.sg_actions.specs.Offed.{kept_in}
use Rattle.sg_actions.specs.Steps.{begin_of}
use Rattle.sg_actions.proofs.Counting.{looked_none}
use Rattle.sg_actions.proofs.GoneOff.{off_none, off_then, off_as, counts_more, counts_fails, counts_after}
use Rattle.sg_actions.proofs.Offing.{going_of}
use Rattle.sg_actions.proofs.Finishing.{none_left, off_begins, taken_off, off_same, taken_same, on_ok}
use Rattle.sg_actions.proofs.acts.Acts.take_off.Goals as goal

pub changes-init : goal.changes-init
changes-init g c = record {
  told = λ t. t;
  means = λ from m. m;
  looked = looked_none (g.E.Engine.view c.args.self.now.engine) c.args.self.now.breaks;
  goes = λ limits from m told can. off_none c.args.self.now.actor.txn.0 (led from (g.E.Engine.view c.args.self.now.engine)) can.chain.running.log (moments_same (led from (g.E.Engine.view c.args.self.now.engine)) (g.met.E.Engine.images c.args.self.now.engine _ from m told)) told;
  who = refl;
  begun = refl;
  whole = ap free_of c.forget_bands.ensures.pages ∙ c.forget_pages.ensures.pages.none;
  bands = c.forget_bands.ensures.bands.none;
  off = λ limits from m t can u. off_begins _ limits (led from (g.E.Engine.view c.args.self.now.engine)) c.args.self.now.maps c.forget_bands.new.unfreed c.args.self.now.rows.items c.args.self.now.actor (ap free_of c.forget_bands.ensures.pages ∙ c.forget_pages.ensures.pages.none) c.forget_bands.ensures.bands.none can;
}

pub take_one_off-requires-clause-by : goal.take_one_off-requires-clause-by
take_one_off-requires-clause-by g c = λ told. ∥∥₁_elim (c.requires.by (c.changes.invariant.told told)) ∥∥₁_prop (λ x. ∣ (x.0, c.changes.invariant.means x.0 x.1) ∣₁)

pub take_one_off-requires-clause-off : goal.take_one_off-requires-clause-off
take_one_off-requires-clause-off g c = λ told1.
    let i = c.changes.invariant in
    let told = i.told told1 in
    ∥∥₁_elim (c.requires.well told) ∥∥₁_prop (λ x. ∣ (
      x.1,
      i.means x.1 x.2,
      record {
        kept = kept_in x.0 _ (led x.1 (g.E.Engine.view c.args.self.now.engine)) c.args.self.now.maps;
        begin = begin_of _ x.1 (g.E.Engine.view c.args.self.now.engine).steps;
        going = going_of (i.off x.0 x.1 x.2 told x.3 told1);
        more = c.changes-test.true;
      },
    ) ∣₁)

pub changes-preserved : goal.changes-preserved
changes-preserved g c =
    let i = c.changes.invariant in
    let k = c.in_ok-at.ensures in
    record {
      told = λ t. i.told (k.told t);
      means = λ from m. k.means from (i.means from m);
      looked = counts_more i.looked k.counts;
      goes = λ limits from m told can.
          off_then (led from (g.E.Engine.view c.args.self.now.engine)) (led from (g.E.Engine.view c.changes.self.engine)) (led from (g.E.Engine.view c.take_one_off.new.self.engine)) (i.goes limits from m told can) k.counts.stops
          (λ told1. off_as (ap (λ (u : TxnId). u.0) i.who) (k.goes from (i.means from m) told1 _ _ c.changes-test.true (going_of (i.off limits from m told can told1))));
      who = k.who ∙ i.who;
      begun = k.begun;
      whole = ap (λ (m : Maps). free_of m.pages) k.unfreed ∙ i.whole;
      bands = ap (λ (m : Maps). free_of m.bands) k.unfreed ∙ i.bands;
      off = λ limits from m told can u.
          let d = k.did from (i.means from m) in
          let kept = kept_in limits _ (led from (g.E.Engine.view c.args.self.now.engine)) c.args.self.now.maps in
          let b = begin_of _ from (g.E.Engine.view c.args.self.now.engine).steps in
          let on = d.goes_on (d.told u) kept b c.changes-test.true (i.off limits from m told can (d.told u)) in
          off_same k.unfreed k.rows on;
    }

pub returns-clause-did : goal.returns-clause-did
returns-clause-did g c = λ limits from m can.
    let i = c.changes.invariant in
    let m1 = i.means from m in
    let m2 = c.void.ensures.means _ from m1 in
    on_ok c.void.result (λ v.
    taken_same c.void.ensures.maps c.void.ensures.unfreed
    (taken_off _ limits (led from (g.E.Engine.view c.args.self.now.engine)) (led from (g.E.Engine.view c.changes.self.engine)) (led from (g.E.Engine.view c.void.new.self.engine)) c.args.self.now.maps c.changes.self.maps c.changes.self.unfreed c.args.self.now.rows.items c.changes.self.rows.items c.void.new.self.rows.items c.args.self.now.actor c.changes.self.actor c.void.new.self.actor c.changes.at
    can i.told i.who (λ a b. i.off limits from m a (can a) b) c.changes-test.false i.whole i.bands v (λ told. subst ArePagesFit (g.met.E.Engine.now_is _ _ from m2 told) (g.met.E.Engine.pages_fit _ _ from m2 told)))) (c.void.ensures.did _ from m1)

pub returns-clause-means : goal.returns-clause-means
returns-clause-means g c = λ from m. c.void.ensures.means _ from (c.changes.invariant.means from m)

pub returns-clause-told : goal.returns-clause-told
returns-clause-told g c = λ told. c.changes.invariant.told (c.void.ensures.counts.told told)

pub returns-in_err-at-clause-means : goal.returns-in_err-at-clause-means
returns-in_err-at-clause-means g c = λ from m. c.in_err-at.ensures.means from (c.changes.invariant.means from m)

pub take_one_off-requires-clause-begun : goal.take_one_off-requires-clause-begun
take_one_off-requires-clause-begun g c = c.changes.invariant.begun

pub void-requires : goal.void-requires
void-requires g c = record {
  over = λ told1.
      let i = c.changes.invariant in
      let told = i.told told1 in
      ∥∥₁_elim (c.requires.well told) ∥∥₁_prop (λ x.
      let off = going_of (i.off x.0 x.1 x.2 told x.3 told1) in
      ∣ record { running = off.taking.running; none = none_left (g.E.Engine.view c.changes.self.engine).steps c.changes.self.actor c.changes.at off.taking.running.linked off.at_is c.changes-test.false } ∣₁);
}

-- WHAT IT HAS APPENDED, whether its calls failed or not
pub returns-in_err-at-clause-counts : goal.returns-in_err-at-clause-counts
returns-in_err-at-clause-counts g c =
    let p = err_from_is_err_and c.from_residual.result c.from_residual.ensures.1 in
    counts_fails c.from_residual.result c.in_err-at.field-0.0 p.0 p.1 p.2 c.changes.invariant.looked c.in_err-at.ensures.counts

pub returns-in_err-at-clause-goes : goal.returns-in_err-at-clause-goes
returns-in_err-at-clause-goes g c = λ limits from m told can.
    let i = c.changes.invariant in
    let k = c.in_err-at.ensures in
    off_then (led from (g.E.Engine.view c.args.self.now.engine)) (led from (g.E.Engine.view c.changes.self.engine)) (led from (g.E.Engine.view c.take_one_off.new.self.engine)) (i.goes limits from m told can) k.counts.stops
    (λ told1. off_as (ap (λ (u : TxnId). u.0) i.who) (k.goes from (i.means from m) told1 _ _ c.changes-test.true (going_of (i.off limits from m told can told1))))

pub returns-clause-counts : goal.returns-clause-counts
returns-clause-counts g c = counts_after c.void.result (g.met.E.Engine.told_whole _) c.changes.invariant.looked c.void.ensures.counts c.void.ensures.breaks

pub returns-clause-goes : goal.returns-clause-goes
returns-clause-goes g c = λ limits from m told can.
    let i = c.changes.invariant in
    off_then (led from (g.E.Engine.view c.args.self.now.engine)) (led from (g.E.Engine.view c.changes.self.engine)) (led from (g.E.Engine.view c.void.new.self.engine)) (i.goes limits from m told can) c.void.ensures.counts.stops
    (λ told1. let off = going_of (i.off limits from m told can told1) in
    off_as (ap (λ (u : TxnId). u.0) i.who)
    (c.void.ensures.goes _ from (i.means from m) told1 _ _ off.taking (none_left (g.E.Engine.view c.changes.self.engine).steps c.changes.self.actor c.changes.at off.taking.running.linked off.at_is c.changes-test.false)))
