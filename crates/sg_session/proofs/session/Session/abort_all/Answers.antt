use Rattle.std.proofs.Common.{◌≡◌, ◌<◌, Option, Some, None, length, sym, ap, ◌∙◌, subst, List}
use Rattle.sg_model.specs.declared.stop.Stop.{Stop}
use Rattle.sg_model.specs.declared.stop.Stop.TheVariants as stops
use Rattle.sg_store.specs.Seen.{core_of}
use Rattle.sg_store.specs.Store.{Core}
use Rattle.sg_session.proofs.Causing as causing
use Rattle.sg_serial.specs.Runs.{Live}
use Rattle.sg_store.specs.Engine.{led}
use Rattle.sg_store.proofs.Heeding as heeding
use Rattle.sg_session.specs.Names.{live_of, all_live}
use Rattle.sg_session.specs.Seen.{session_core}
use Rattle.sg_session.proofs.Ending as ending
use Rattle.sg_session.proofs.Serves.{store_serves, serves_through}
use Rattle.sg_session.proofs.session.Session.abort_all.Goals as goal

pub live-init : goal.live-init
live-init g c = record {
  running = c.requires.running;
  means = λ z from m. m;
  serves = c.requires.serves;
  heeds = heeding.heeds_none c.args.self.now.store.stop (g.E.Engine.view c.args.self.now.store.engine);
  done = λ z from m told x lawful shows. ending.none_aborted _ (g.E.Engine.basis z) (led _ z from (g.E.Engine.view c.args.self.now.store.engine)) x (session_core c.args.self.now) c.requires.running shows;
}

pub live-preserved : goal.live-preserved
live-preserved g c =
    let i = c.live.invariant in
    record {
      running = ap (λ (k : Core). k.stopped) c.in-Ok.ensures.causes.2 ∙ i.running;
      means = λ z from m. c.abort.ensures.means z from (i.means z from m);
      serves = serves_through _ (g.E.Engine.view c.live.self.store.engine) (g.E.Engine.view c.abort.new.self.engine) (session_core c.live.self) _ c.abort.ensures.means c.abort.ensures.told
          (λ z from m told x lawful shows. ending.aborted_shows _ (g.E.Engine.basis z) (led _ z from (g.E.Engine.view c.live.self.store.engine)) (led _ z from (g.E.Engine.view c.abort.new.self.engine)) (session_core c.live.self) _ _ c.in-Some.first.txn.0 x shows c.remove.ensures (c.in-Ok.ensures.aborts z from m told x lawful shows.store)) i.serves;
      heeds = heeding.heeds_then c.args.self.now.store.stop c.live.self.store.stop c.abort.new.self.stop (g.E.Engine.view c.args.self.now.store.engine) (g.E.Engine.view c.live.self.store.engine) (g.E.Engine.view c.abort.new.self.engine) i.heeds c.abort.ensures.heeds;
      done = λ z from m told x lawful shows.
          (let a = i.done z from m told x lawful shows in
          let tells = i.heeds.tells (a.shows.store.stopped ∙ a.going) told in
          ending.one_aborted _ (g.E.Engine.basis z) (led _ z from (g.E.Engine.view c.args.self.now.store.engine)) x (led _ z from (g.E.Engine.view c.live.self.store.engine)) (session_core c.live.self) a (led _ z from (g.E.Engine.view c.abort.new.self.engine)) _ _ (live_of c.in-Some.first) c.in-Some.ensures c.remove.ensures
          (c.in-Ok.ensures.aborts z from (i.means z from m) tells a.mid lawful a.shows.store));
    }

pub live-smaller : goal.live-smaller
live-smaller g c = subst (λ (ls : List Live). length ls < length (all_live c.live.self.names.all.items)) (sym c.remove.ensures) (ending.fewer (all_live c.live.self.names.all.items) (live_of c.in-Some.first) (sym c.in-Some.ensures))

pub returns-in_default-clause-aborts : goal.returns-in_default-clause-aborts
returns-in_default-clause-aborts g c z from m told x lawful shows =
    let i = c.live.invariant in
    let a = i.done z from m told x lawful shows in
    ending.all_aborted _ (g.E.Engine.basis z) (led _ z from (g.E.Engine.view c.args.self.now.store.engine)) x (led _ z from (g.E.Engine.view c.live.self.store.engine)) (session_core c.live.self) a c.in_default.ensures

pub returns-in-Err-clause-aborts : goal.returns-in-Err-clause-aborts
returns-in-Err-clause-aborts g c z from m told x lawful shows =
    let i = c.live.invariant in
    let a = i.done z from m told x lawful shows in
    let tells = i.heeds.tells (a.shows.store.stopped ∙ a.going) told in
    ending.abort_failed _ (g.E.Engine.basis z) (led _ z from (g.E.Engine.view c.args.self.now.store.engine)) x (led _ z from (g.E.Engine.view c.live.self.store.engine)) (session_core c.live.self) a (led _ z from (g.E.Engine.view c.abort.new.self.engine)) _ (live_of c.in-Some.first) c.in-Err.field-0 c.in-Some.ensures
    (c.in-Err.ensures.aborts z from (i.means z from m) tells a.mid lawful a.shows.store)

pub returns-in-Err-clause-serves : goal.returns-in-Err-clause-serves
returns-in-Err-clause-serves g c =
    serves_through _ (g.E.Engine.view c.live.self.store.engine) (g.E.Engine.view c.abort.new.self.engine) (session_core c.live.self) _ c.abort.ensures.means c.abort.ensures.told
    (λ z from m told x lawful shows. ending.failed_shows _ (g.E.Engine.basis z) (led _ z from (g.E.Engine.view c.live.self.store.engine)) (led _ z from (g.E.Engine.view c.abort.new.self.engine)) (session_core c.live.self) _ c.in-Some.first.txn.0 x c.in-Err.field-0 shows (c.in-Err.ensures.aborts z from m told x lawful shows.store)) c.live.invariant.serves

pub returns-in-Err-clause-means : goal.returns-in-Err-clause-means
returns-in-Err-clause-means g c z from m = c.abort.ensures.means z from (c.live.invariant.means z from m)

pub returns-in-Err-clause-heeds : goal.returns-in-Err-clause-heeds
returns-in-Err-clause-heeds g c =
    heeding.heeds_then c.args.self.now.store.stop c.live.self.store.stop c.abort.new.self.stop (g.E.Engine.view c.args.self.now.store.engine) (g.E.Engine.view c.live.self.store.engine) (g.E.Engine.view c.abort.new.self.engine) c.live.invariant.heeds c.abort.ensures.heeds

pub abort-requires : goal.abort-requires
abort-requires g c = record { serves = store_serves _ (g.E.Engine.view c.live.self.store.engine) (session_core c.live.self) c.live.invariant.serves }

pub returns-in-Err-clause-full : goal.returns-in-Err-clause-full
returns-in-Err-clause-full g c =
    causing.abort_full (g.E.Engine.view c.live.self.store.engine) (g.E.Engine.view c.abort.new.self.engine) (core_of c.live.self.store) (core_of c.abort.new.self) c.in-Some.first.txn.0 c.in-Err.field-0 c.live.invariant.running c.in-Err.ensures.causes

other : (s : Option Stop) → s ≡ None → s ≡ Some stops.LogEnd → ⊥
other s e f = cc

pub returns-in_default-clause-full : goal.returns-in_default-clause-full
returns-in_default-clause-full g c e = absurd (other c.live.self.store.stop c.live.invariant.running e)
