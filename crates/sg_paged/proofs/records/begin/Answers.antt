use Rattle.std.specs.Prelude.{IfOk}
use Rattle.std.proofs.Common.{◌≤◌, ◌<◌, length, sym, ap, subst, ◌∙◌, refl}
use Rattle.sg_recovery.specs.Log.{tally}
use Rattle.sg_shown.specs.Shown.{over}
use Rattle.sg_shown.proofs.Calls.{room_then}
use Rattle.sg_paged.proofs.Roomy.{vacant_row}
use Rattle.sg_paged.proofs.Recorded.{Stays, room_stays}
use Rattle.sg_paged.proofs.Begun.{begun_means, begun_begins}
use Rattle.sg_paged.proofs.records.begin.Goals as goal

pub quiet-requires : goal.quiet-requires
quiet-requires g c = record { idle = λ told. (c.requires.can.can told).rest.idle }

-- fewer go on than there are rows, so one is vacant
pub begin-requires-clause-can : goal.begin-requires-clause-can
begin-requires-clause-can g c = λ told1.
    let can = c.requires.can in
    let told = subst (λ y. (g.E.Engine.view y).Told) c.quiet.ensures.engine told1 in
    let mm = c.quiet.ensures.means can.by can.sizes (can.from told) (can.means told) in
    let k = mm.keeps told1 in
    let few = subst (λ y. length (tally (g.E.Engine.view y).steps).live < 64) (sym c.quiet.ensures.engine) (can.can told).few in
    record { rest = k.rest c.quiet.ensures.begun; vacant = vacant_row k.spare k.kept.chain.rows_are.apart few }

pub returns-clause-number : goal.returns-clause-number
returns-clause-number g c = subst (λ y. IfOk c.begin.result (λ u. ((g.E.Engine.view y).tail ≤ u.0) × (u.0 < (g.E.Engine.view c.begin.new.self.engine).tail))) c.quiet.ensures.engine c.begin.ensures.number

pub returns-clause-means : goal.returns-clause-means
returns-clause-means g c = λ t z from m.
    let mm = c.quiet.ensures.means t z from m in
    let k = c.begin.ensures in
    begun_means (over c.quiet.new.acts) (over c.begin.new.self) t z from c.begin.result mm c.quiet.ensures.begun (record { maps = k.maps; unfreed = k.unfreed; actor = k.actor; begun = k.begun ∙ c.quiet.ensures.begun; limits = refl }) (k.means t from mm.since.stands)
    (λ told1. subst (λ y. length (tally (g.E.Engine.view y).steps).live < 64) (sym c.quiet.ensures.engine) (c.requires.can.can (subst (λ y. (g.E.Engine.view y).Told) c.quiet.ensures.engine told1)).few)
    k.counts (λ w. g.met.E.Engine.told_whole _ w) (k.did (g.E.Engine.limits z.pages z.bands) t from mm.since.stands)

pub returns-clause-begins : goal.returns-clause-begins
returns-clause-begins g c = λ t z from m told e idle.
    let mm = c.quiet.ensures.means t z from m in
    let told1 = subst (λ y. (g.E.Engine.view y).Told) (sym c.quiet.ensures.engine) told in
    let k = c.begin.ensures in
    let mid = over c.quiet.new.acts in
    let new = over c.begin.new.self in
    let s : Stays mid new = record { maps = k.maps; unfreed = k.unfreed; actor = k.actor; begun = k.begun ∙ c.quiet.ensures.begun; limits = refl } in
    let did = k.did (g.E.Engine.limits z.pages z.bands) t from mm.since.stands in
    let stands = k.means t from mm.since.stands in
    let means = begun_means mid new t z from c.begin.result mm c.quiet.ensures.begun s stands
    (λ w. subst (λ y. length (tally (g.E.Engine.view y).steps).live < 64) (sym c.quiet.ensures.engine) (c.requires.can.can told).few)
    k.counts (λ w. g.met.E.Engine.told_whole _ w) did in
    begun_begins g.E.Engine.recovers (over c.args.acts.now) mid new t z from c.begin.result (ap g.E.Engine.view c.quiet.ensures.engine) (room_then c.quiet.ensures.room (room_stays mid new s)) s.begun told1 k.counts (k.appends (g.E.Engine.limits z.pages z.bands) t from mm.since.stands told1 (mm.keeps told1).kept) did means
    (λ w. record { law = g.met.E.Engine.lawful _ t from stands; first = g.met.E.Engine.durable_first _ w; images = g.met.E.Engine.images _ t from stands w })

pub begin-requires-clause-chain : goal.begin-requires-clause-chain
begin-requires-clause-chain g c = λ told1.
    let can = c.requires.can in
    let told = subst (λ y. (g.E.Engine.view y).Told) c.quiet.ensures.engine told1 in
    let mm = c.quiet.ensures.means can.by can.sizes (can.from told) (can.means told) in
    ∣ (mm.keeps told1).kept.chain ∣₁
