use mathlib.Core.Logic.{∥∥₁_elim}
use Rattle.std.proofs.Common.{false, ◌≡◌, sym, ap, subst, ◌∙◌, refl, List, Some, length, arith}
use Rattle.std.proofs.Props.{props}
use Rattle.sg_alloc.specs.Flags.{map_bands_of}
use Rattle.sg_alloc.specs.declared.maps.Maps.{Maps}
use Rattle.std.proofs.lemmas.Result.{err_from_is_err_and}
use Rattle.sg_base.specs.declared.numbers.TxnId.{TxnId}
use Rattle.sg_actions.specs.Engine.{now_of, led}
use Rattle.sg_actions.specs.Onward.{later_same, later_on}
use Rattle.sg_actions.specs.PuttingBack.{GoesOn, HasPutBack, PutOne}
use Rattle.sg_actions.specs.Steps.{step_at}
use Rattle.sg_actions.specs.Undoing.{Hop, hop_in, given_by}
use Rattle.sg_actions.specs.declared.rows.Row.{Row}
use Rattle.sg_actions.proofs.PuttingBack.{goes_same, goes_then, way_begins, way_on, way_ends, next_hop, hop_prop, run_none, run_by, run_then, run_ok, run_err, err_is}
use Rattle.sg_actions.proofs.Wanted.{kept_live, way_above}
use Rattle.sg_actions.proofs.acts.Acts.put_back.Goals as goal

pub back-init : goal.back-init
back-init g c = record {
  means = λ t from m. m;
  goes = λ t from m. goes_same (led from (g.E.Engine.view c.args.self.now.engine)) c.args.self.now.rows.items c.args.self.now.actor;
  run = run_none (g.E.Engine.view c.args.self.now.engine) c.args.self.now.breaks;
  way = λ t from m told chain hs l. way_begins (map_bands_of (length c.args.self.now.maps.pages) (length c.args.self.now.maps.bands)) t (led from (g.E.Engine.view c.args.self.now.engine)) c.args.self.now.actor.txn.0 c.args.to c.args.from hs l;
  later = λ limits t. later_same {strict = false} g.E.Engine.recovers limits t _ (g.met.E.Engine.told_whole _) (λ from m told. g.met.E.Engine.images _ t from m.stands told);
  maps = refl;
  unfreed = refl;
  rows = refl;
  begun = refl;
}

pub put_one_back-requires-clause-hop : goal.put_one_back-requires-clause-hop
put_one_back-requires-clause-hop g c = λ told1.
    let i = c.back.invariant in
    let told = i.run.told told1 in
    ∥∥₁_elim (c.requires.can told) (hop_prop c.back.at _) (λ can.
    ∥∥₁_elim (g.met.E.Engine.some c.args.self.now.engine told) (hop_prop c.back.at _) (λ x.
    let chain = (i.goes x.0 x.1 x.2).chain told can.chain in
    next_hop (map_bands_of (length c.args.self.now.maps.pages) (length c.args.self.now.maps.bands)) x.0 (led x.1 (g.E.Engine.view c.args.self.now.engine)) (led x.1 (g.E.Engine.view c.back.self.engine)) c.args.self.now.actor.txn.0 c.args.to c.back.at _ c.back-test.true (i.way x.0 x.1 x.2 told can.chain can.way.hops can.way.leads) chain.running.log.chained))

pub put_one_back-requires-clause-kept : goal.put_one_back-requires-clause-kept
put_one_back-requires-clause-kept g c = λ told1.
    let i = c.back.invariant in
    let told = i.run.told told1 in
    let own = c.requires.own told in
    ∥∥₁_elim (c.requires.can told) (hlevel props) (λ can.
    ∥∥₁_elim (g.met.E.Engine.some c.args.self.now.engine told) (hlevel props) (λ x.
    let goes = i.goes x.0 x.1 x.2 in
    let chain = goes.chain told can.chain in
    let who : c.back.self.actor.txn.0 ≡ c.args.self.now.actor.txn.0 = ap (λ (t : TxnId). t.0) goes.who in
    let above = way_above (map_bands_of (length c.args.self.now.maps.pages) (length c.args.self.now.maps.bands)) x.0 (led x.1 (g.E.Engine.view c.args.self.now.engine)) (led x.1 (g.E.Engine.view c.back.self.engine)) c.args.self.now.actor.txn.0 c.args.to c.back.at _ c.back-test.true (i.way x.0 x.1 x.2 told can.chain can.way.hops can.way.leads) in
    let first = own.1 in
    kept_live c.back.self.actor.txn.0 c.back.at (g.met.E.Engine.wanted _ told1) (chain.running.acting (λ zero. own.0 (sym who ∙ zero))) (omega (arith, who, first, above))))

pub put_one_back-requires-clause-begun : goal.put_one_back-requires-clause-begun
put_one_back-requires-clause-begun g c = c.back.invariant.begun ∙ c.requires.begun

pub back-preserved : goal.back-preserved
back-preserved g c =
    let i = c.back.invariant in
    let k = c.in_ok-at.ensures in
    record {
      means = λ t from m. k.means t from (i.means t from m);
      goes = λ t from m. goes_then (i.goes t from m) (subst (λ (rows : List Row). GoesOn (led from (g.E.Engine.view c.back.self.engine)) (led from (g.E.Engine.view c.put_one_back.new.self.engine)) rows c.back.self.actor c.put_one_back.new.self.actor) i.rows (k.did t from (i.means t from m)).goes);
      run = run_then i.run (run_by k.counts);
      way = λ t from m told chain0 hs l.
          let chain = (i.goes t from m).chain told chain0 in
          let one = subst (λ (n : Maps). PutOne (map_bands_of (length n.pages) (length n.bands)) t (led from (g.E.Engine.view c.back.self.engine)) (led from (g.E.Engine.view c.put_one_back.new.self.engine)) c.back.self.rows.items c.back.self.actor c.put_one_back.new.self.actor c.back.at c.in_ok-at.at) i.maps (k.did t from (i.means t from m)) in
          let hop = one.hop ((i.goes t from m).told told) in
          way_on (map_bands_of (length c.args.self.now.maps.pages) (length c.args.self.now.maps.bands)) t (led from (g.E.Engine.view c.args.self.now.engine)) (led from (g.E.Engine.view c.back.self.engine)) (led from (g.E.Engine.view c.put_one_back.new.self.engine)) c.args.self.now.actor.txn.0 c.args.to c.back.at c.in_ok-at.at _ c.back-test.true chain.running.log.chained
          (subst (λ (who : TxnId). (h : Hop) → hop_in (step_at (g.E.Engine.view c.back.self.engine).steps c.back.at) ≡ Some h → (c.in_ok-at.at ≡ h.1) × HasPutBack t (led from (g.E.Engine.view c.back.self.engine)) (led from (g.E.Engine.view c.put_one_back.new.self.engine)) who.0 (given_by (map_bands_of (length c.args.self.now.maps.pages) (length c.args.self.now.maps.bands)) h.0 (now_of t (led from (g.E.Engine.view c.back.self.engine))))) (i.goes t from m).who hop)
          (i.way t from m told chain0 hs l);
      later = λ limits t. later_on {strict = false} g.E.Engine.recovers limits t _ _ _ (i.later limits t) (k.later limits t);
      maps = k.maps ∙ i.maps;
      unfreed = k.unfreed ∙ i.unfreed;
      rows = k.rows ∙ i.rows;
      begun = k.begun ∙ i.begun;
    }

pub returns-clause-counts : goal.returns-clause-counts
returns-clause-counts g c = run_ok _ c.back.invariant.run

pub returns-clause-did : goal.returns-clause-did
returns-clause-did g c = λ t from m.
    let i = c.back.invariant in
    record {
      goes = i.goes t from m;
      all = λ told chain hs l. way_ends (map_bands_of (length c.args.self.now.maps.pages) (length c.args.self.now.maps.bands)) t (led from (g.E.Engine.view c.args.self.now.engine)) (led from (g.E.Engine.view c.back.self.engine)) c.args.self.now.actor.txn.0 c.args.to c.back.at _ c.back-test.false (i.way t from m told chain hs l);
    }

pub returns-in_err-at-clause-counts : goal.returns-in_err-at-clause-counts
returns-in_err-at-clause-counts g c =
    let p = err_from_is_err_and c.from_residual.result c.from_residual.ensures.1 in
    err_is {T = Unit {0}} c.from_residual.result c.in_err-at.field-0.0 p.0 p.1 p.2 (run_err c.back.invariant.run c.in_err-at.ensures.counts)

pub returns-in_err-at-clause-means : goal.returns-in_err-at-clause-means
returns-in_err-at-clause-means g c = λ t from m. c.in_err-at.ensures.means t from (c.back.invariant.means t from m)

pub returns-in_err-at-clause-later : goal.returns-in_err-at-clause-later
returns-in_err-at-clause-later g c = λ limits t. later_on {strict = false} g.E.Engine.recovers limits t _ _ _ (c.back.invariant.later limits t) (c.in_err-at.ensures.later limits t)
