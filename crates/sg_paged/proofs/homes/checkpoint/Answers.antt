use Rattle.std.proofs.Common.{◌≡◌, ℕ, Result, ◌+◌, ◌<◌, ◌≤◌, true, false, Ok, Err, sym, ap, subst, ◌∙◌, refl}
use Rattle.sg_checkpoints.specs.Checkpoints.{HasMarked}
use Rattle.sg_actions.specs.Counts.{ActsCounts}
use Rattle.sg_actions.specs.Engine.{Moments, led, LOG_END}
use Rattle.sg_actions.specs.Led.{Stayed}
use Rattle.sg_space.specs.declared.space.SpaceFault.{SpaceFault}
use Rattle.sg_shown.specs.Shown.{over}
use Rattle.sg_shown.proofs.Calls.{counts_acts, near_of, rests_of, room_then}
use Rattle.sg_paged.proofs.Behind.{room_same, acting_is}
use Rattle.sg_paged.proofs.Rested.{stay_means, rested_of, again_can}
use Rattle.sg_paged.proofs.homes.checkpoint.Goals as goal

pub quiet-requires : goal.quiet-requires
quiet-requires g c = record { idle = λ told. (c.requires.can.can told).idle }

pub checkpoint-requires : goal.checkpoint-requires
checkpoint-requires g c = record {
  rest = λ told1.
      let can = c.requires.can in
      let told = subst (λ y. (g.E.Engine.view y).Told) c.quiet.ensures.engine told1 in
      let mm = c.quiet.ensures.means can.by can.sizes (can.from told) (can.means told) in
      (mm.keeps told1).rest c.quiet.ensures.begun;
  quiet = λ told1. c.quiet.ensures.begun;
}

pub again-requires-clause-can : goal.again-requires-clause-can
again-requires-clause-can g c = λ told2.
    let can = c.requires.can in
    let k = c.checkpoint.ensures in
    let told1 = k.counts.told told2 in
    let told = subst (λ y. (g.E.Engine.view y).Told) c.quiet.ensures.engine told1 in
    let t = can.by in
    let z = can.sizes in
    let from = can.from told in
    let mm = c.quiet.ensures.means t z from (can.means told) in
    let means = stay_means (over c.quiet.new.acts) (over c.checkpoint.new.self) t z from c.checkpoint.result mm (record { maps = k.maps; unfreed = k.unfreed; rows = k.rows; actor = k.actor; begun = k.begun; begin = λ o. absurd (let x : true ≡ false = sym o ∙ (k.begun ∙ c.quiet.ensures.begun) in cc); limits = refl }) (k.means t from mm.since.stands) k.counts.told k.counts.silent (k.stays t from mm.since.stands) (k.kept (g.E.Engine.limits z.pages z.bands) t from mm.since.stands) in
    let stays = c.in-Ok.ensures.stays t from mm.since.stands in
    again_can (over c.args.acts.now) (over c.checkpoint.new.self) t z from c.acting-who.result c.acting-who.ensures ((can.means told).keeps told) (means.keeps told2) (k.begun ∙ c.quiet.ensures.begun) ((stays.stays told1).steps ∙ ap (λ y. (g.E.Engine.view y).steps) c.quiet.ensures.engine)

pub returns-in-Ok-clause-counts : goal.returns-in-Ok-clause-counts
returns-in-Ok-clause-counts g c =
    let k = c.in-Ok.ensures in
    counts_acts g.E.Engine.recovers (over c.args.acts.now) (over c.again.new.acts) (g.E.Engine.view c.quiet.new.acts.engine) c.quiet.new.acts.breaks (ap g.E.Engine.view c.quiet.ensures.engine) c.quiet.ensures.breaks (let r : Result (Unit {0}) SpaceFault = Ok tt in r)
    (subst (λ (n : ℕ). ActsCounts (g.E.Engine.view c.quiet.new.acts.engine) (g.E.Engine.view c.again.new.acts.engine) c.quiet.new.acts.breaks n (let r : Result (Unit {0}) SpaceFault = Ok tt in r)) (sym c.again.ensures.breaks)
    (subst (λ y. ActsCounts (g.E.Engine.view c.quiet.new.acts.engine) (g.E.Engine.view y) c.quiet.new.acts.breaks c.checkpoint.new.self.breaks (let r : Result (Unit {0}) SpaceFault = Ok tt in r)) (sym c.again.ensures.engine) k.counts))

pub returns-in-Ok-clause-means : goal.returns-in-Ok-clause-means
returns-in-Ok-clause-means g c = λ t z from m.
    let mm = c.quiet.ensures.means t z from m in
    let k = c.checkpoint.ensures in
    c.again.ensures.means t z from (stay_means (over c.quiet.new.acts) (over c.checkpoint.new.self) t z from c.checkpoint.result mm (record { maps = k.maps; unfreed = k.unfreed; rows = k.rows; actor = k.actor; begun = k.begun; begin = λ o. absurd (let x : true ≡ false = sym o ∙ (k.begun ∙ c.quiet.ensures.begun) in cc); limits = refl }) (k.means t from mm.since.stands) k.counts.told k.counts.silent (k.stays t from mm.since.stands) (k.kept (g.E.Engine.limits z.pages z.bands) t from mm.since.stands))

pub returns-in-Ok-clause-rests : goal.returns-in-Ok-clause-rests
returns-in-Ok-clause-rests g c = λ t z from m told e idle.
    let mm = c.quiet.ensures.means t z from m in
    let k = c.checkpoint.ensures in
    let h = c.in-Ok.ensures in
    let a = over c.args.acts.now in
    let mid = over c.quiet.new.acts in
    let one = over c.checkpoint.new.self in
    let b = over c.again.new.acts in
    let means = c.again.ensures.means t z from (stay_means (over c.quiet.new.acts) (over c.checkpoint.new.self) t z from c.checkpoint.result mm (record { maps = k.maps; unfreed = k.unfreed; rows = k.rows; actor = k.actor; begun = k.begun; begin = λ o. absurd (let x : true ≡ false = sym o ∙ (k.begun ∙ c.quiet.ensures.begun) in cc); limits = refl }) (k.means t from mm.since.stands) k.counts.told k.counts.silent (k.stays t from mm.since.stands) (k.kept (g.E.Engine.limits z.pages z.bands) t from mm.since.stands)) in
    let told1 = subst (λ y. (g.E.Engine.view y).Told) (sym c.quiet.ensures.engine) told in
    let stays = h.stays t from mm.since.stands in
    let told2 = stays.told told1 in
    let w = subst (λ y. (g.E.Engine.view y).Told) (sym c.again.ensures.engine) told2 in
    let at = ap g.E.Engine.view c.quiet.ensures.engine in
    let stands = k.means t from mm.since.stands in (
      rests_of g.E.Engine.recovers a b t z from mid.engine at mm.size (subst (λ y. Moments (g.E.Engine.recovers t) t (led from mid.engine) (led from (g.E.Engine.view y)) mid.engine.steps) (sym c.again.ensures.engine) (h.moments t from mm.since.stands told1)),
      (
        rested_of g.E.Engine.recovers a b t z from mid.engine at (subst (λ y. Stayed (led from mid.engine) (led from (g.E.Engine.view y))) (sym c.again.ensures.engine) (stays.stays told1)) means w (record { law = g.met.E.Engine.lawful _ t from means.since.stands; first = g.met.E.Engine.durable_first _ w; images = g.met.E.Engine.images _ t from means.since.stands w })
            (room_then c.quiet.ensures.room (room_then (room_same mid one k.maps k.unfreed) (room_same one b c.again.ensures.maps c.again.ensures.unfreed))) (c.again.ensures.acts t from stands told2 ∙ acting_is c.args.acts.now.begun c.args.acts.now.actor.txn c.acting-who.result c.acting-who.ensures),
        subst (λ y. (g.E.Engine.view y).durable ≡ (g.E.Engine.view y).steps) (sym c.again.ensures.engine) (h.forced t from mm.since.stands told2),
      ),
    )

pub returns-in-Err-clause-means : goal.returns-in-Err-clause-means
returns-in-Err-clause-means g c = λ t z from m.
    let mm = c.quiet.ensures.means t z from m in
    let k = c.checkpoint.ensures in
    stay_means (over c.quiet.new.acts) (over c.checkpoint.new.self) t z from c.checkpoint.result mm (record { maps = k.maps; unfreed = k.unfreed; rows = k.rows; actor = k.actor; begun = k.begun; begin = λ o. absurd (let x : true ≡ false = sym o ∙ (k.begun ∙ c.quiet.ensures.begun) in cc); limits = refl }) (k.means t from mm.since.stands) k.counts.told k.counts.silent (k.stays t from mm.since.stands) (k.kept (g.E.Engine.limits z.pages z.bands) t from mm.since.stands)

pub returns-in-Err-clause-counts : goal.returns-in-Err-clause-counts
returns-in-Err-clause-counts g c = counts_acts g.E.Engine.recovers (over c.args.acts.now) (over c.checkpoint.new.self) (g.E.Engine.view c.quiet.new.acts.engine) c.quiet.new.acts.breaks (ap g.E.Engine.view c.quiet.ensures.engine) c.quiet.ensures.breaks _ c.in-Err.ensures.counts

pub returns-in-Err-clause-log_end : goal.returns-in-Err-clause-log_end
returns-in-Err-clause-log_end g c = near_of {T = Unit {0}} (g.E.Engine.view c.args.acts.now.engine).tail (Err c.in-Err.fault) (λ q. subst (λ y. LOG_END < (g.E.Engine.view y).tail + 131072) c.quiet.ensures.engine (c.in-Err.ensures.log_end q))

pub returns-in-Err-clause-rests : goal.returns-in-Err-clause-rests
returns-in-Err-clause-rests g c = λ t z from m told e idle.
    let mm = c.quiet.ensures.means t z from m in
    let told1 = subst (λ y. (g.E.Engine.view y).Told) (sym c.quiet.ensures.engine) told in
    (rests_of g.E.Engine.recovers (over c.args.acts.now) (over c.checkpoint.new.self) t z from (g.E.Engine.view c.quiet.new.acts.engine) (ap g.E.Engine.view c.quiet.ensures.engine) mm.size (c.checkpoint.ensures.moments t from mm.since.stands told1), tt)

pub again-requires-clause-chain : goal.again-requires-clause-chain
again-requires-clause-chain g c = λ told2.
    let can = c.requires.can in
    let k = c.checkpoint.ensures in
    let told1 = k.counts.told told2 in
    let told = subst (λ y. (g.E.Engine.view y).Told) c.quiet.ensures.engine told1 in
    let t = can.by in
    let z = can.sizes in
    let from = can.from told in
    let mm = c.quiet.ensures.means t z from (can.means told) in
    let means = stay_means (over c.quiet.new.acts) (over c.checkpoint.new.self) t z from c.checkpoint.result mm (record { maps = k.maps; unfreed = k.unfreed; rows = k.rows; actor = k.actor; begun = k.begun; begin = λ o. absurd (let x : true ≡ false = sym o ∙ (k.begun ∙ c.quiet.ensures.begun) in cc); limits = refl }) (k.means t from mm.since.stands) k.counts.told k.counts.silent (k.stays t from mm.since.stands) (k.kept (g.E.Engine.limits z.pages z.bands) t from mm.since.stands) in
    ∣ (means.keeps told2).kept.chain ∣₁

pub returns-in-Ok-clause-hands : goal.returns-in-Ok-clause-hands
returns-in-Ok-clause-hands g c =
    subst (λ y. (g.E.Engine.view y).disk.handed ≤ (g.E.Engine.view c.args.acts.now.engine).disk.handed + g.E.Engine.waiting c.args.acts.now.engine + 1067) (sym c.again.ensures.engine)
    (subst (λ y. (g.E.Engine.view c.checkpoint.new.self.engine).disk.handed ≤ (g.E.Engine.view y).disk.handed + g.E.Engine.waiting y + 1067) c.quiet.ensures.engine c.in-Ok.ensures.hands)

pub returns-in-Err-clause-hands : goal.returns-in-Err-clause-hands
returns-in-Err-clause-hands g c = subst (λ y. (g.E.Engine.view c.checkpoint.new.self.engine).disk.handed ≤ (g.E.Engine.view y).disk.handed + g.E.Engine.waiting y + 1067) c.quiet.ensures.engine c.in-Err.ensures.hands

pub returns-in-Ok-clause-marks : goal.returns-in-Ok-clause-marks
returns-in-Ok-clause-marks g c =
    subst (λ y. (g.E.Engine.view c.args.acts.now.engine).Told → HasMarked (g.E.Engine.view c.args.acts.now.engine).tail (g.E.Engine.unwritten c.args.acts.now.engine) (g.E.Engine.marked y) g.E.Engine.ends_at (g.E.Engine.view y).disk.now) (sym c.again.ensures.engine)
    (subst (λ y. (g.E.Engine.view y).Told → HasMarked (g.E.Engine.view y).tail (g.E.Engine.unwritten y) (g.E.Engine.marked c.checkpoint.new.self.engine) g.E.Engine.ends_at (g.E.Engine.view c.checkpoint.new.self.engine).disk.now) c.quiet.ensures.engine c.in-Ok.ensures.marks)
