use Rattle.std.proofs.Common.{◌≡◌, true, sym, ap, subst, ◌∙◌, refl}
use Rattle.sg_recovery.specs.Log.{tally, is_in}
use Rattle.sg_shown.specs.Shown.{over}
use Rattle.sg_shown.proofs.Calls.{room_then}
use Rattle.sg_shown.proofs.Holding.{engine_is}
use Rattle.sg_paged.proofs.Behind.{room_same, live_row, act_means, view_acts}
use Rattle.sg_paged.proofs.actions.act.Goals as goal

pub quiet-requires : goal.quiet-requires
quiet-requires g c = record { idle = λ told. (c.requires.can.can told).rest.idle }

pub act-requires-clause-can : goal.act-requires-clause-can
act-requires-clause-can g c = λ told1.
    let can = c.requires.can in
    let told = subst (λ y. (g.E.Engine.view y).Told) c.quiet.ensures.engine told1 in
    let mm = c.quiet.ensures.means can.by can.sizes (can.from told) (can.means told) in
    let k = mm.keeps told1 in
    let rest = k.rest c.quiet.ensures.begun in
    let at = can.can told in
    record {
      rest = rest;
      row = λ nz.
          let live = subst (λ y. is_in c.args.txn.0 (tally (g.E.Engine.view y).steps).live ≡ true) (sym c.quiet.ensures.engine) (at.live nz) in
          (live_row {a = over c.quiet.new.acts} c.args.txn.0 k rest.system live, live);
    }

pub returns-clause-disk : goal.returns-clause-disk
returns-clause-disk g c = ap (λ y. (g.E.Engine.view y).disk) (c.act.ensures.engine ∙ c.quiet.ensures.engine)

pub returns-clause-gate : goal.returns-clause-gate
returns-clause-gate g c = ap (λ y. (g.E.Engine.view y).gate) (c.act.ensures.engine ∙ c.quiet.ensures.engine)

pub returns-clause-means : goal.returns-clause-means
returns-clause-means g c = λ t z from m.
    let mm = c.quiet.ensures.means t z from m in
    let k = c.act.ensures in
    act_means (over c.quiet.new.acts) (over c.act.new.self) t z from c.args.txn.0 mm c.quiet.ensures.begun (ap g.E.Engine.view k.engine) (ap g.E.Engine.means k.engine) refl k.maps k.unfreed k.rows k.begun (k.acts (g.E.Engine.limits z.pages z.bands) t from mm.since.stands) (k.since t from mm.since.stands)

pub returns-clause-acts : goal.returns-clause-acts
returns-clause-acts g c = λ t z from m told e idle.
    let mm = c.quiet.ensures.means t z from m in
    let k = c.act.ensures in
    let mid = over c.quiet.new.acts in
    let new = over c.act.new.self in
    let now = k.acts (g.E.Engine.limits z.pages z.bands) t from mm.since.stands in
    let means = act_means mid new t z from c.args.txn.0 mm c.quiet.ensures.begun (ap g.E.Engine.view k.engine) (ap g.E.Engine.means k.engine) refl k.maps k.unfreed k.rows k.begun now (k.since t from mm.since.stands) in
    let all = k.engine ∙ c.quiet.ensures.engine in
    let told1 = subst (λ y. (g.E.Engine.view y).Told) (sym c.quiet.ensures.engine) told in
    let w = subst (λ y. (g.E.Engine.view y).Told) (sym all) told in (
      engine_is g.E.Engine.recovers new t z from means w (record { law = g.met.E.Engine.lawful _ t from means.since.stands; first = g.met.E.Engine.durable_first _ w; images = g.met.E.Engine.images _ t from means.since.stands w }),
      view_acts g.E.Engine.recovers (over c.args.acts.now) new t z from c.args.txn.0 (ap g.E.Engine.view all) (room_then c.quiet.ensures.room (room_same mid new k.maps k.unfreed)) (k.breaks ∙ c.quiet.ensures.breaks) k.begun (now.is told1) idle,
    )

pub act-requires-clause-chain : goal.act-requires-clause-chain
act-requires-clause-chain g c = λ told1.
    let can = c.requires.can in
    let told = subst (λ y. (g.E.Engine.view y).Told) c.quiet.ensures.engine told1 in
    let mm = c.quiet.ensures.means can.by can.sizes (can.from told) (can.means told) in
    ∣ (mm.keeps told1).kept.chain ∣₁
