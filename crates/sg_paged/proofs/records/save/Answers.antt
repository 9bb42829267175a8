use Rattle.std.proofs.Common.{◌≡◌, true, sym, ap, subst, ◌∙◌, refl}
use Rattle.sg_recovery.specs.Log.{tally, is_in}
use Rattle.sg_shown.specs.Shown.{over}
use Rattle.sg_shown.proofs.Calls.{room_then}
use Rattle.sg_paged.proofs.Behind.{live_row}
use Rattle.sg_paged.proofs.Marked.{save_means, save_appends}
use Rattle.sg_paged.proofs.Recorded.{Stays, room_stays}
use Rattle.sg_paged.proofs.records.save.Goals as goal

pub quiet-requires : goal.quiet-requires
quiet-requires g c = record { idle = λ told. (c.requires.can.can told).rest.idle }

pub save-requires-clause-can : goal.save-requires-clause-can
save-requires-clause-can g c = λ told1.
    let can = c.requires.can in
    let told = subst (λ y. (g.E.Engine.view y).Told) c.quiet.ensures.engine told1 in
    let mm = c.quiet.ensures.means can.by can.sizes (can.from told) (can.means told) in
    let k = mm.keeps told1 in
    let rest = k.rest c.quiet.ensures.begun in
    let live = subst (λ y. is_in c.args.txn.0 (tally (g.E.Engine.view y).steps).live ≡ true) (sym c.quiet.ensures.engine) (can.can told).live in
    record { rest = rest; row = live_row {a = over c.quiet.new.acts} c.args.txn.0 k rest.system live; live = live }

pub save-requires-clause-mark : goal.save-requires-clause-mark
save-requires-clause-mark g c = record { some = c.requires.mark.some; most = c.requires.mark.most }

pub save-requires-clause-chain : goal.save-requires-clause-chain
save-requires-clause-chain g c = λ told1.
    let can = c.requires.can in
    let told = subst (λ y. (g.E.Engine.view y).Told) c.quiet.ensures.engine told1 in
    let mm = c.quiet.ensures.means can.by can.sizes (can.from told) (can.means told) in
    ∣ (mm.keeps told1).kept.chain ∣₁

pub returns-clause-means : goal.returns-clause-means
returns-clause-means g c = λ t z from m.
    let mm = c.quiet.ensures.means t z from m in
    let k = c.save.ensures in
    save_means (over c.quiet.new.acts) (over c.save.new.self) t z from c.args.txn c.args.mark c.save.result mm c.quiet.ensures.begun
    (record { maps = k.maps; unfreed = k.unfreed; actor = k.actor; begun = k.begun ∙ c.quiet.ensures.begun; limits = refl })
    (k.means t from mm.since.stands) k.counts.told k.counts.silent (k.did (g.E.Engine.limits z.pages z.bands) t from mm.since.stands)

pub returns-clause-saves : goal.returns-clause-saves
returns-clause-saves g c = λ t z from m told e idle.
    let mm = c.quiet.ensures.means t z from m in
    let told1 = subst (λ y. (g.E.Engine.view y).Told) (sym c.quiet.ensures.engine) told in
    let k = c.save.ensures in
    let mid = over c.quiet.new.acts in
    let new = over c.save.new.self in
    let s : Stays mid new = record { maps = k.maps; unfreed = k.unfreed; actor = k.actor; begun = k.begun ∙ c.quiet.ensures.begun; limits = refl } in
    let did = k.did (g.E.Engine.limits z.pages z.bands) t from mm.since.stands in
    let stands = k.means t from mm.since.stands in
    let means = save_means mid new t z from c.args.txn c.args.mark c.save.result mm c.quiet.ensures.begun s stands k.counts.told k.counts.silent did in
    save_appends mid new t z from c.args.txn c.args.mark g.E.Engine.recovers (over c.args.acts.now) c.save.result (ap g.E.Engine.view c.quiet.ensures.engine)
    (room_then c.quiet.ensures.room (room_stays mid new s)) s.begun told1 k.counts.tells k.counts.tail
    (k.appends (g.E.Engine.limits z.pages z.bands) t from mm.since.stands told1 (mm.keeps told1).kept) did means
    (λ w. record { law = g.met.E.Engine.lawful _ t from stands; first = g.met.E.Engine.durable_first _ w; images = g.met.E.Engine.images _ t from stands w })
