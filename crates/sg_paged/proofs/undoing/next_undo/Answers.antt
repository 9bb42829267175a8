use Rattle.std.proofs.Common.{◌≡◌, ℕ, Option, Result, ◌+◌, ◌<◌, ◌≤◌, true, false, Ok, Err, sym, ap, subst, ◌∙◌, refl}
use Rattle.sg_actions.specs.Counts.{ActsCounts}
use Rattle.sg_actions.specs.Engine.{Moments, led}
use Rattle.sg_actions.specs.Led.{Stayed}
use Rattle.sg_space.specs.declared.space.SpaceFault.{SpaceFault}
use Rattle.sg_store.specs.Engine.{IsDiskFault}
use Rattle.sg_recovery.specs.Log.{tally, is_in}
use Rattle.sg_shown.specs.Shown.{over}
use Rattle.sg_shown.proofs.Calls.{counts_acts, rests_of, room_then}
use Rattle.sg_paged.proofs.Behind.{room_same, acting_is}
use Rattle.sg_paged.proofs.Rested.{stay_means, rested_of, again_can, next_is}
use Rattle.sg_paged.proofs.undoing.next_undo.Goals as goal

pub quiet-requires : goal.quiet-requires
quiet-requires g c = record { idle = λ told. (c.requires.can.can told).rest.idle }

pub next_undo-requires : goal.next_undo-requires
next_undo-requires g c = λ told1.
    let can = c.requires.can in
    let told = subst (λ y. (g.E.Engine.view y).Told) c.quiet.ensures.engine told1 in
    let mm = c.quiet.ensures.means can.by can.sizes (can.from told) (can.means told) in
    let k = mm.keeps told1 in
    let at = can.can told in
    record { chain = k.kept.chain; rest = k.rest c.quiet.ensures.begun; live = subst (λ y. is_in c.args.txn.0 (tally (g.E.Engine.view y).steps).live ≡ true) (sym c.quiet.ensures.engine) at.live; within = Rattle.std.proofs.Common.le_refl _ }

pub again-requires-clause-can : goal.again-requires-clause-can
again-requires-clause-can g c = λ told2.
    let can = c.requires.can in
    let k = c.next_undo.ensures in
    let told1 = k.counts.told told2 in
    let told = subst (λ y. (g.E.Engine.view y).Told) c.quiet.ensures.engine told1 in
    let t = can.by in
    let z = can.sizes in
    let from = can.from told in
    let mm = c.quiet.ensures.means t z from (can.means told) in
    let means = stay_means (over c.quiet.new.acts) (over c.next_undo.new.self) t z from c.next_undo.result mm (record { maps = k.maps; unfreed = k.unfreed; rows = k.rows; actor = k.actor; begun = k.begun; begin = λ o. absurd (let x : true ≡ false = sym o ∙ (k.begun ∙ c.quiet.ensures.begun) in cc); limits = refl }) (k.means t from mm.since.stands) k.counts.told k.counts.silent (k.stays t from mm.since.stands) (k.kept (g.E.Engine.limits z.pages z.bands) t from mm.since.stands) in
    let stays = c.in-Ok.ensures.stays t from mm.since.stands in
    again_can (over c.args.acts.now) (over c.next_undo.new.self) t z from c.acting-who.result c.acting-who.ensures ((can.means told).keeps told) (means.keeps told2) (k.begun ∙ c.quiet.ensures.begun) ((stays.stays told1).steps ∙ ap (λ y. (g.E.Engine.view y).steps) c.quiet.ensures.engine)

pub returns-in-Ok-clause-counts : goal.returns-in-Ok-clause-counts
returns-in-Ok-clause-counts g c =
    let k = c.in-Ok.ensures in
    counts_acts g.E.Engine.recovers (over c.args.acts.now) (over c.again.new.acts) (g.E.Engine.view c.quiet.new.acts.engine) c.quiet.new.acts.breaks (ap g.E.Engine.view c.quiet.ensures.engine) c.quiet.ensures.breaks (let r : Result (Option ℕ) SpaceFault = Ok c.in-Ok.found in r)
    (subst (λ (n : ℕ). ActsCounts (g.E.Engine.view c.quiet.new.acts.engine) (g.E.Engine.view c.again.new.acts.engine) c.quiet.new.acts.breaks n (let r : Result (Option ℕ) SpaceFault = Ok c.in-Ok.found in r)) (sym c.again.ensures.breaks)
    (subst (λ y. ActsCounts (g.E.Engine.view c.quiet.new.acts.engine) (g.E.Engine.view y) c.quiet.new.acts.breaks c.next_undo.new.self.breaks (let r : Result (Option ℕ) SpaceFault = Ok c.in-Ok.found in r)) (sym c.again.ensures.engine) k.counts))

pub returns-in-Ok-clause-means : goal.returns-in-Ok-clause-means
returns-in-Ok-clause-means g c = λ t z from m.
    let mm = c.quiet.ensures.means t z from m in
    let k = c.next_undo.ensures in
    c.again.ensures.means t z from (stay_means (over c.quiet.new.acts) (over c.next_undo.new.self) t z from c.next_undo.result mm (record { maps = k.maps; unfreed = k.unfreed; rows = k.rows; actor = k.actor; begun = k.begun; begin = λ o. absurd (let x : true ≡ false = sym o ∙ (k.begun ∙ c.quiet.ensures.begun) in cc); limits = refl }) (k.means t from mm.since.stands) k.counts.told k.counts.silent (k.stays t from mm.since.stands) (k.kept (g.E.Engine.limits z.pages z.bands) t from mm.since.stands))

pub returns-in-Ok-clause-finds : goal.returns-in-Ok-clause-finds
returns-in-Ok-clause-finds g c = λ t z from m told e idle.
    let mm = c.quiet.ensures.means t z from m in
    let k = c.next_undo.ensures in
    let h = c.in-Ok.ensures in
    let a = over c.args.acts.now in
    let mid = over c.quiet.new.acts in
    let one = over c.next_undo.new.self in
    let b = over c.again.new.acts in
    let means = c.again.ensures.means t z from (stay_means (over c.quiet.new.acts) (over c.next_undo.new.self) t z from c.next_undo.result mm (record { maps = k.maps; unfreed = k.unfreed; rows = k.rows; actor = k.actor; begun = k.begun; begin = λ o. absurd (let x : true ≡ false = sym o ∙ (k.begun ∙ c.quiet.ensures.begun) in cc); limits = refl }) (k.means t from mm.since.stands) k.counts.told k.counts.silent (k.stays t from mm.since.stands) (k.kept (g.E.Engine.limits z.pages z.bands) t from mm.since.stands)) in
    let told1 = subst (λ y. (g.E.Engine.view y).Told) (sym c.quiet.ensures.engine) told in
    let stays = h.stays t from mm.since.stands in
    let told2 = stays.told told1 in
    let w = subst (λ y. (g.E.Engine.view y).Told) (sym c.again.ensures.engine) told2 in
    let at = ap g.E.Engine.view c.quiet.ensures.engine in
    let stands = k.means t from mm.since.stands in (
      rests_of g.E.Engine.recovers a b t z from mid.engine at mm.size (subst (λ y. Moments (g.E.Engine.recovers t) t (led from mid.engine) (led from (g.E.Engine.view y)) mid.engine.steps) (sym c.again.ensures.engine) (h.moments t from mm.since.stands told1)),
      (
        rested_of g.E.Engine.recovers a b t z from mid.engine at (subst (λ y. Stayed (led from mid.engine) (led from (g.E.Engine.view y))) (sym c.again.ensures.engine) (stays.stays told1)) means w (record { law = g.met.E.Engine.lawful _ t from means.since.stands; first = g.met.E.Engine.durable_first _ w; images = g.met.E.Engine.images _ t from means.since.stands w })
            (room_then c.quiet.ensures.room (room_then (room_same mid one k.maps k.unfreed) (room_same one b c.again.ensures.maps c.again.ensures.unfreed))) (c.again.ensures.acts t from stands told2 ∙ acting_is c.args.acts.now.begun c.args.acts.now.actor.txn c.acting-who.result c.acting-who.ensures),
        next_is (g.E.Engine.view c.args.acts.now.engine).steps c.args.txn.0 _ e.formed.chained (h.next told1 ∙ ap (λ y. Rattle.std.specs.Prelude.option_map (λ n. n.lsn) (Rattle.sg_actions.specs.Undoing.next_note c.args.txn.0 c.args.txn.0 (g.E.Engine.view y).steps)) c.quiet.ensures.engine),
      ),
    )

pub returns-in-Err-clause-means : goal.returns-in-Err-clause-means
returns-in-Err-clause-means g c = λ t z from m.
    let mm = c.quiet.ensures.means t z from m in
    let k = c.next_undo.ensures in
    stay_means (over c.quiet.new.acts) (over c.next_undo.new.self) t z from c.next_undo.result mm (record { maps = k.maps; unfreed = k.unfreed; rows = k.rows; actor = k.actor; begun = k.begun; begin = λ o. absurd (let x : true ≡ false = sym o ∙ (k.begun ∙ c.quiet.ensures.begun) in cc); limits = refl }) (k.means t from mm.since.stands) k.counts.told k.counts.silent (k.stays t from mm.since.stands) (k.kept (g.E.Engine.limits z.pages z.bands) t from mm.since.stands)

pub returns-in-Err-clause-counts : goal.returns-in-Err-clause-counts
returns-in-Err-clause-counts g c = counts_acts g.E.Engine.recovers (over c.args.acts.now) (over c.next_undo.new.self) (g.E.Engine.view c.quiet.new.acts.engine) c.quiet.new.acts.breaks (ap g.E.Engine.view c.quiet.ensures.engine) c.quiet.ensures.breaks _ c.in-Err.ensures.counts

pub returns-in-Err-clause-reads : goal.returns-in-Err-clause-reads
returns-in-Err-clause-reads g c = subst IsDiskFault (sym c.in-Err.ensures.only_disk) tt

pub returns-in-Err-clause-finds : goal.returns-in-Err-clause-finds
returns-in-Err-clause-finds g c = λ t z from m told e idle.
    let mm = c.quiet.ensures.means t z from m in
    let told1 = subst (λ y. (g.E.Engine.view y).Told) (sym c.quiet.ensures.engine) told in (
      rests_of g.E.Engine.recovers (over c.args.acts.now) (over c.next_undo.new.self) t z from (g.E.Engine.view c.quiet.new.acts.engine) (ap g.E.Engine.view c.quiet.ensures.engine) mm.size (c.next_undo.ensures.moments t from mm.since.stands told1),
      tt,
    )

pub again-requires-clause-chain : goal.again-requires-clause-chain
again-requires-clause-chain g c = λ told2.
    let can = c.requires.can in
    let k = c.next_undo.ensures in
    let told1 = k.counts.told told2 in
    let told = subst (λ y. (g.E.Engine.view y).Told) c.quiet.ensures.engine told1 in
    let t = can.by in
    let z = can.sizes in
    let from = can.from told in
    let mm = c.quiet.ensures.means t z from (can.means told) in
    let means = stay_means (over c.quiet.new.acts) (over c.next_undo.new.self) t z from c.next_undo.result mm (record { maps = k.maps; unfreed = k.unfreed; rows = k.rows; actor = k.actor; begun = k.begun; begin = λ o. absurd (let x : true ≡ false = sym o ∙ (k.begun ∙ c.quiet.ensures.begun) in cc); limits = refl }) (k.means t from mm.since.stands) k.counts.told k.counts.silent (k.stays t from mm.since.stands) (k.kept (g.E.Engine.limits z.pages z.bands) t from mm.since.stands) in
    ∣ (means.keeps told2).kept.chain ∣₁
