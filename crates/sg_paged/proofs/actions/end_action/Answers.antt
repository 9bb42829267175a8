use Rattle.std.proofs.Common.{◌≡◌, ℕ, ◌∙◌, subst, refl}
use Rattle.std.specs.Prelude.{OnOk}
use Rattle.sg_recovery.specs.Log.Record.{TopEnd}
use Rattle.sg_store.specs.Engine.{Appends, Appended, led}
use Rattle.sg_shown.specs.Shown.{over, basis, shown}
use Rattle.sg_shown.proofs.Calls.{appends_of, room_settled}
use Rattle.sg_paged.proofs.Behind.{done_appended, on_ok3, on_err, untold, acts_txn, silent_of}
use Rattle.sg_paged.proofs.Recorded.{action_means}
use Rattle.sg_paged.proofs.actions.end_action.Goals as goal

pub end_action-requires-clause-can : goal.end_action-requires-clause-can
end_action-requires-clause-can g c = λ told.
    let can = c.requires.can in
    let at = can.can told in
    (acts_txn can.by (basis g.E.Engine.recovers can.sizes) (can.from told) (g.E.Engine.view c.args.acts.now.engine).steps c.args.acts.now.begun c.args.acts.now.actor.txn.0 at.action at.acting).1 ∙ at.own

pub returns-clause-means : goal.returns-clause-means
returns-clause-means g c = λ t z from m.
    let k = c.end_action.ensures in
    let a = over c.args.acts.now in
    let b = over c.end_action.new.self in
    let stands = k.means t from m.since.stands in
    action_means a b t z from c.args.note.now c.end_action.result (g.met.E.Engine.lawful _ t from m.since.stands) m refl stands k.counts.told k.counts.failed (λ w. g.met.E.Engine.told_whole _ w) k.begun (k.did (g.E.Engine.limits z.pages z.bands) t from m.since.stands)
    (on_err c.end_action.result (λ f. untold a b t z from m k.pages k.bands refl stands f) (silent_of c.end_action.result (g.E.Engine.view c.end_action.new.self.engine).failed (λ w. g.met.E.Engine.told_whole _ w) k.counts.failed))

pub returns-clause-ends : goal.returns-clause-ends
returns-clause-ends g c = λ t z from m told action e acts own.
    let k = c.end_action.ensures in
    let a = over c.args.acts.now in
    let b = over c.end_action.new.self in
    let actor = c.args.acts.now.actor in
    let stands = k.means t from m.since.stands in
    let did = k.did (g.E.Engine.limits z.pages z.bands) t from m.since.stands in
    let means = action_means a b t z from c.args.note.now c.end_action.result (g.met.E.Engine.lawful _ t from m.since.stands) m refl stands k.counts.told k.counts.failed (λ w. g.met.E.Engine.told_whole _ w) k.begun did
    (on_err c.end_action.result (λ f. untold a b t z from m k.pages k.bands refl stands f) (silent_of c.end_action.result (g.E.Engine.view c.end_action.new.self.engine).failed (λ w. g.met.E.Engine.told_whole _ w) k.counts.failed)) in
    let may = k.appends (g.E.Engine.limits z.pages z.bands) t from m.since.stands told (m.keeps told).kept in
    let who : actor.txn.0 ≡ c.args.txn.0 = (acts_txn t (basis g.E.Engine.recovers z) from (g.E.Engine.view c.args.acts.now.engine).steps c.args.acts.now.begun actor.txn.0 action acts).1 ∙ own in
    let lsn = (g.E.Engine.view c.end_action.new.self.engine).tried in
    let both = subst (λ (u : ℕ). Appends t (basis g.E.Engine.recovers z) (led t z from (shown c.args.acts.now)) (led t z from (shown c.end_action.new.self)) (record { lsn = lsn; is = TopEnd u actor.last actor.before c.args.note.now })
    × OnOk c.end_action.result (Appended t (basis g.E.Engine.recovers z) (led t z from (shown c.args.acts.now)) (led t z from (shown c.end_action.new.self)) (record { lsn = lsn; is = TopEnd u actor.last actor.before c.args.note.now }))) who (
      appends_of g.E.Engine.recovers a b t z from lsn (TopEnd actor.txn.0 actor.last actor.before c.args.note.now) a.engine refl m.size (record { above = may.above; formed = may.formed; moments = may.moments }),
      on_ok3 c.end_action.result (λ tells begun d. let w = tells told in done_appended {recovers = g.E.Engine.recovers} {a = a} {b = b} a.engine lsn (TopEnd actor.txn.0 actor.last actor.before c.args.note.now) refl (record {
        told = w;
        come = record { base = (d.logged told).base; steps = may.gone w; tail = k.counts.tail; durable = (d.logged told).durable };
        means = means;
        facts = record { law = g.met.E.Engine.lawful _ t from stands; first = g.met.E.Engine.durable_first _ w; images = g.met.E.Engine.images _ t from stands w };
        room = room_settled a b d.pages d.bands;
        begun = begun;
      })) k.counts.tells k.begun did,
    ) in
    (lsn, actor.last, actor.before, both.0, both.1)

pub end_action-requires-clause-chain : goal.end_action-requires-clause-chain
end_action-requires-clause-chain g c = λ told. ∣ ((c.requires.can.means told).keeps told).kept.chain ∣₁
