use Rattle.std.proofs.Common.{◌≡◌, ℕ, true, false, length, Option, None, is_some, IsSome, Ok, sym, ap, subst, ◌∙◌, refl}
use Rattle.std.specs.Prelude.{◌||◌}
use Rattle.sg_alloc.specs.Flags.{map_bands_of}
use Rattle.sg_alloc.specs.declared.maps.Maps.{Maps}
use Rattle.sg_actions.specs.Engine.{led}
use Rattle.sg_actions.specs.Led.{Stayed}
use Rattle.sg_actions.specs.PuttingBack.{UndoStepped}
use Rattle.sg_actions.specs.View.{IsKept}
use Rattle.sg_actions.specs.Undoing.{next_note}
use Rattle.sg_recovery.specs.Log.{tally, notes_of, is_in}
use Rattle.sg_shown.specs.Shown.{over, Means}
use Rattle.sg_shown.proofs.Calls.{room_then}
use Rattle.sg_paged.proofs.Behind.{room_same, acting_is}
use Rattle.sg_paged.proofs.Rested.{Same, stay_means, rested_of, again_can}
use Rattle.sg_paged.proofs.Undone.{none_behind, undoes_means, undo_changes, undo_begun, changes_moved}
use Rattle.sg_paged.proofs.undoing.undo_step_to.Goals as goal

pub undo_step-requires : goal.undo_step-requires
undo_step-requires g c = λ told1.
    let can = c.requires.can in
    let told = subst (λ y. (g.E.Engine.view y).Told) c.quiet.ensures.engine told1 in
    let mm = c.quiet.ensures.means can.by can.sizes (can.from told) (can.means told) in
    let k = mm.keeps told1 in
    let at = can.can told in
    record { chain = k.kept.chain; rest = k.rest c.quiet.ensures.begun; live = subst (λ y. is_in c.args.txn.0 (tally (g.E.Engine.view y).steps).live ≡ true) (sym c.quiet.ensures.engine) at.live; within = at.within }

pub quiet-requires : goal.quiet-requires
quiet-requires g c = record { idle = λ told. (c.requires.can.can told).rest.idle }

pub again-requires-clause-can : goal.again-requires-clause-can
again-requires-clause-can g c = λ told2.
    let can = c.requires.can in
    let k = c.in-Ok-None.ensures in
    let told1 = k.counts.told told2 in
    let told = subst (λ y. (g.E.Engine.view y).Told) c.quiet.ensures.engine told1 in
    let t = can.by in
    let z = can.sizes in
    let from = can.from told in
    let mm = c.quiet.ensures.means t z from (can.means told) in
    let mid = over c.quiet.new.acts in
    let one = over c.undo_step.new.self in
    let left = subst (λ (o : Option ℕ). UndoStepped (map_bands_of (length mid.maps.pages) (length mid.maps.bands)) t (led from mid.engine) (led from one.engine) mid.rows mid.actor one.actor c.args.txn.0 c.args.stop c.undo_step.new.into o) c.in-Ok-None.field-0-is (k.did t from mm.since.stands) in
    let begun = k.begun ∙ (ap (λ (o : Option ℕ). is_some o || mid.begun) c.in-Ok-None.field-0-is ∙ c.quiet.ensures.begun) in
    let same : Same mid one = record { maps = k.maps; unfreed = k.unfreed; rows = k.rows; actor = left.actor_is; begun = begun ∙ sym c.quiet.ensures.begun; begin = λ o. absurd (let x : true ≡ false = sym o ∙ begun in cc); limits = refl } in
    let stands = k.means t from mm.since.stands in
    let means1 : Means one t z from = stay_means {T = Option ℕ} mid one t z from (Ok None) mm same stands k.counts.told tt left.stays (λ w kept. subst (λ (x : Maps). IsKept t (g.E.Engine.limits z.pages z.bands) (led from one.engine) x one.rows one.actor) (sym k.maps) ((k.undoes (g.E.Engine.limits z.pages z.bands) t from mm.since.stands w kept).gone (left.stays.told w)).kept) in
    again_can (over c.args.acts.now) one t z from c.acting-who.result c.acting-who.ensures ((can.means told).keeps told) (means1.keeps told2) begun ((left.stays.stays told1).steps ∙ ap (λ y. (g.E.Engine.view y).steps) c.quiet.ensures.engine)

pub again-requires-clause-quiet : goal.again-requires-clause-quiet
again-requires-clause-quiet g c = c.in-Ok-None.ensures.begun ∙ (ap (λ (o : Option ℕ). is_some o || c.quiet.new.acts.begun) c.in-Ok-None.field-0-is ∙ c.quiet.ensures.begun)

pub returns-in-Ok-None-clause-means : goal.returns-in-Ok-None-clause-means
returns-in-Ok-None-clause-means g c = λ t z from m.
    let mm = c.quiet.ensures.means t z from m in
    let k = c.in-Ok-None.ensures in
    let mid = over c.quiet.new.acts in
    let one = over c.undo_step.new.self in
    let left = subst (λ (o : Option ℕ). UndoStepped (map_bands_of (length mid.maps.pages) (length mid.maps.bands)) t (led from mid.engine) (led from one.engine) mid.rows mid.actor one.actor c.args.txn.0 c.args.stop c.undo_step.new.into o) c.in-Ok-None.field-0-is (k.did t from mm.since.stands) in
    let begun = k.begun ∙ (ap (λ (o : Option ℕ). is_some o || mid.begun) c.in-Ok-None.field-0-is ∙ c.quiet.ensures.begun) in
    let same : Same mid one = record { maps = k.maps; unfreed = k.unfreed; rows = k.rows; actor = left.actor_is; begun = begun ∙ sym c.quiet.ensures.begun; begin = λ o. absurd (let x : true ≡ false = sym o ∙ begun in cc); limits = refl } in
    let stands = k.means t from mm.since.stands in
    let means1 : Means one t z from = stay_means {T = Option ℕ} mid one t z from (Ok None) mm same stands k.counts.told tt left.stays (λ w kept. subst (λ (x : Maps). IsKept t (g.E.Engine.limits z.pages z.bands) (led from one.engine) x one.rows one.actor) (sym k.maps) ((k.undoes (g.E.Engine.limits z.pages z.bands) t from mm.since.stands w kept).gone (left.stays.told w)).kept) in
    c.again.ensures.means t z from means1

pub returns-in-Ok-None-clause-none : goal.returns-in-Ok-None-clause-none
returns-in-Ok-None-clause-none g c = λ t z from m told e idle is.
    let mm = c.quiet.ensures.means t z from m in
    let k = c.in-Ok-None.ensures in
    let mid = over c.quiet.new.acts in
    let one = over c.undo_step.new.self in
    let left = subst (λ (o : Option ℕ). UndoStepped (map_bands_of (length mid.maps.pages) (length mid.maps.bands)) t (led from mid.engine) (led from one.engine) mid.rows mid.actor one.actor c.args.txn.0 c.args.stop c.undo_step.new.into o) c.in-Ok-None.field-0-is (k.did t from mm.since.stands) in
    let begun = k.begun ∙ (ap (λ (o : Option ℕ). is_some o || mid.begun) c.in-Ok-None.field-0-is ∙ c.quiet.ensures.begun) in
    let same : Same mid one = record { maps = k.maps; unfreed = k.unfreed; rows = k.rows; actor = left.actor_is; begun = begun ∙ sym c.quiet.ensures.begun; begin = λ o. absurd (let x : true ≡ false = sym o ∙ begun in cc); limits = refl } in
    let stands = k.means t from mm.since.stands in
    let means1 : Means one t z from = stay_means {T = Option ℕ} mid one t z from (Ok None) mm same stands k.counts.told tt left.stays (λ w kept. subst (λ (x : Maps). IsKept t (g.E.Engine.limits z.pages z.bands) (led from one.engine) x one.rows one.actor) (sym k.maps) ((k.undoes (g.E.Engine.limits z.pages z.bands) t from mm.since.stands w kept).gone (left.stays.told w)).kept) in
    let a = over c.args.acts.now in
    let b = over c.again.new.acts in
    let means = c.again.ensures.means t z from means1 in
    let told1 = subst (λ y. (g.E.Engine.view y).Told) (sym c.quiet.ensures.engine) told in
    let told2 = left.stays.told told1 in
    let w = subst (λ y. (g.E.Engine.view y).Told) (sym c.again.ensures.engine) told2 in
    let at = ap g.E.Engine.view c.quiet.ensures.engine in (
      none_behind c.args.stop (notes_of c.args.txn.0 (tally (g.E.Engine.view c.args.acts.now.engine).steps).notes)
          (subst (λ y. next_note c.args.txn.0 c.args.stop (g.E.Engine.view y).steps ≡ None) c.quiet.ensures.engine (left.none told1)),
      rested_of g.E.Engine.recovers a b t z from mid.engine at (subst (λ y. Stayed (led from mid.engine) (led from (g.E.Engine.view y))) (sym c.again.ensures.engine) (left.stays.stays told1)) means w (record { law = g.met.E.Engine.lawful _ t from means.since.stands; first = g.met.E.Engine.durable_first _ w; images = g.met.E.Engine.images _ t from means.since.stands w })
          (room_then c.quiet.ensures.room (room_then (room_same mid one k.maps k.unfreed) (room_same one b c.again.ensures.maps c.again.ensures.unfreed))) (c.again.ensures.acts t from stands told2 ∙ acting_is c.args.acts.now.begun c.args.acts.now.actor.txn c.acting-who.result c.acting-who.ensures),
    )

pub returns-in-Ok-None-clause-some : goal.returns-in-Ok-None-clause-some
returns-in-Ok-None-clause-some g c = λ t z from m told act e idle is.
    let mm = c.quiet.ensures.means t z from m in
    let told1 = subst (λ y. (g.E.Engine.view y).Told) (sym c.quiet.ensures.engine) told in (
      changes_moved g.E.Engine.recovers (over c.args.acts.now) (over c.undo_step.new.self) (over c.again.new.acts) t z from act (ap g.E.Engine.view c.again.ensures.engine)
          (let u = undo_changes g.E.Engine.recovers (over c.args.acts.now) (over c.quiet.new.acts) (over c.undo_step.new.self) t z from c.args.txn.0 act (ap g.E.Engine.view c.quiet.ensures.engine) mm c.quiet.ensures.begun told1 (c.undo_step.ensures.undoes (g.E.Engine.limits z.pages z.bands) t from mm.since.stands told1 (mm.keeps told1).kept) is in u.0),
      tt,
    )

pub returns-in-Ok-Some-clause-means : goal.returns-in-Ok-Some-clause-means
returns-in-Ok-Some-clause-means g c = λ t z from m.
    let mm = c.quiet.ensures.means t z from m in
    let k = c.in-Ok-Some.ensures in
    let mid = over c.quiet.new.acts in
    let new = over c.undo_step.new.self in
    let did = subst (λ (o : Option ℕ). UndoStepped (map_bands_of (length mid.maps.pages) (length mid.maps.bands)) t (led from mid.engine) (led from new.engine) mid.rows mid.actor new.actor c.args.txn.0 c.args.stop c.undo_step.new.into o) c.in-Ok-Some.field-0-is (k.did t from mm.since.stands) in
    let begun = k.begun ∙ ap (λ (o : Option ℕ). is_some o || mid.begun) c.in-Ok-Some.field-0-is in
    let since = k.since t from mm.since.stands (subst IsSome (sym c.in-Ok-Some.field-0-is) refl) in
    let means = undoes_means g.E.Engine.recovers mid new t z from c.args.txn.0 c.args.stop c.undo_step.new.into c.in-Ok-Some.next mm c.quiet.ensures.begun refl k.maps k.unfreed k.rows begun since k.counts.told (λ told1. k.undoes (g.E.Engine.limits z.pages z.bands) t from mm.since.stands told1 (mm.keeps told1).kept) did in
    means

pub returns-in-Ok-Some-clause-some : goal.returns-in-Ok-Some-clause-some
returns-in-Ok-Some-clause-some g c = λ t z from m told act e idle is.
    let mm = c.quiet.ensures.means t z from m in
    let k = c.in-Ok-Some.ensures in
    let mid = over c.quiet.new.acts in
    let new = over c.undo_step.new.self in
    let did = subst (λ (o : Option ℕ). UndoStepped (map_bands_of (length mid.maps.pages) (length mid.maps.bands)) t (led from mid.engine) (led from new.engine) mid.rows mid.actor new.actor c.args.txn.0 c.args.stop c.undo_step.new.into o) c.in-Ok-Some.field-0-is (k.did t from mm.since.stands) in
    let begun = k.begun ∙ ap (λ (o : Option ℕ). is_some o || mid.begun) c.in-Ok-Some.field-0-is in
    let since = k.since t from mm.since.stands (subst IsSome (sym c.in-Ok-Some.field-0-is) refl) in
    let means = undoes_means g.E.Engine.recovers mid new t z from c.args.txn.0 c.args.stop c.undo_step.new.into c.in-Ok-Some.next mm c.quiet.ensures.begun refl k.maps k.unfreed k.rows begun since k.counts.told (λ told1. k.undoes (g.E.Engine.limits z.pages z.bands) t from mm.since.stands told1 (mm.keeps told1).kept) did in
    let told1 = subst (λ y. (g.E.Engine.view y).Told) (sym c.quiet.ensures.engine) told in
    let told2 = k.counts.tells told1 in
    let at = ap g.E.Engine.view c.quiet.ensures.engine in
    let log = k.undoes (g.E.Engine.limits z.pages z.bands) t from mm.since.stands told1 (mm.keeps told1).kept in
    let q = undo_begun g.E.Engine.recovers (over c.args.acts.now) mid new t z from c.args.txn.0 c.args.stop c.undo_step.new.into c.in-Ok-Some.next act log at mm c.quiet.ensures.begun told1 told2 means
    (record { law = g.met.E.Engine.lawful _ t from means.since.stands; first = g.met.E.Engine.durable_first _ told2; images = g.met.E.Engine.images _ t from means.since.stands told2 })
    k.counts.tail (room_then c.quiet.ensures.room (room_same mid new k.maps k.unfreed)) begun is (did told2) idle in
    let u = undo_changes g.E.Engine.recovers (over c.args.acts.now) mid new t z from c.args.txn.0 act at mm c.quiet.ensures.begun told1 log is in
    (u.0, (q.0, q.1, q.2, q.3, q.4, q.5, q.6, q.7, q.8 u.0.made u.1))

pub returns-in-Err-clause-some : goal.returns-in-Err-clause-some
returns-in-Err-clause-some g c = λ t z from m told act e idle is.
    let mm = c.quiet.ensures.means t z from m in
    let told1 = subst (λ y. (g.E.Engine.view y).Told) (sym c.quiet.ensures.engine) told in
    let u = undo_changes g.E.Engine.recovers (over c.args.acts.now) (over c.quiet.new.acts) (over c.undo_step.new.self) t z from c.args.txn.0 act (ap g.E.Engine.view c.quiet.ensures.engine) mm c.quiet.ensures.begun told1 (c.undo_step.ensures.undoes (g.E.Engine.limits z.pages z.bands) t from mm.since.stands told1 (mm.keeps told1).kept) is in
    (u.0, tt)

pub again-requires-clause-chain : goal.again-requires-clause-chain
again-requires-clause-chain g c = λ told2.
    let can = c.requires.can in
    let k = c.in-Ok-None.ensures in
    let told1 = k.counts.told told2 in
    let told = subst (λ y. (g.E.Engine.view y).Told) c.quiet.ensures.engine told1 in
    let t = can.by in
    let z = can.sizes in
    let from = can.from told in
    let mm = c.quiet.ensures.means t z from (can.means told) in
    let mid = over c.quiet.new.acts in
    let one = over c.undo_step.new.self in
    let left = subst (λ (o : Option ℕ). UndoStepped (map_bands_of (length mid.maps.pages) (length mid.maps.bands)) t (led from mid.engine) (led from one.engine) mid.rows mid.actor one.actor c.args.txn.0 c.args.stop c.undo_step.new.into o) c.in-Ok-None.field-0-is (k.did t from mm.since.stands) in
    let begun = k.begun ∙ (ap (λ (o : Option ℕ). is_some o || mid.begun) c.in-Ok-None.field-0-is ∙ c.quiet.ensures.begun) in
    let same : Same mid one = record { maps = k.maps; unfreed = k.unfreed; rows = k.rows; actor = left.actor_is; begun = begun ∙ sym c.quiet.ensures.begun; begin = λ o. absurd (let x : true ≡ false = sym o ∙ begun in cc); limits = refl } in
    let stands = k.means t from mm.since.stands in
    let means1 : Means one t z from = stay_means {T = Option ℕ} mid one t z from (Ok None) mm same stands k.counts.told tt left.stays (λ w kept. subst (λ (x : Maps). IsKept t (g.E.Engine.limits z.pages z.bands) (led from one.engine) x one.rows one.actor) (sym k.maps) ((k.undoes (g.E.Engine.limits z.pages z.bands) t from mm.since.stands w kept).gone (left.stays.told w)).kept) in
    ∣ (means1.keeps told2).kept.chain ∣₁
