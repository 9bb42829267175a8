use Rattle.std.proofs.Common.{ap, refl}
use Rattle.sg_actions.proofs.Led.{look_call}
use Rattle.sg_shown.specs.Shown.{over, acting}
use Rattle.sg_shown.proofs.Calls.{counts_engine, only_disk, rests_of}
use Rattle.sg_paged.proofs.Behind.{on_ok2, silent_of}
use Rattle.sg_paged.proofs.Rested.{Same, oldest_is, room_of, stay_means, rested_of}
use Rattle.sg_paged.proofs.homes.truncate.Goals as goal

pub returns-clause-counts : goal.returns-clause-counts
returns-clause-counts g c = counts_engine g.E.Engine.recovers (over c.args.acts.now) (over c.truncate.new.self) c.truncate.ensures.breaks (g.E.Engine.view c.args.acts.now.engine) refl c.truncate.result c.truncate.ensures.rests.counts

pub returns-clause-reads : goal.returns-clause-reads
returns-clause-reads g c = only_disk c.truncate.result c.truncate.ensures.rests.only_disk

pub returns-clause-means : goal.returns-clause-means
returns-clause-means g c = λ t z from m.
    let k = c.truncate.ensures in
    stay_means (over c.args.acts.now) (over c.truncate.new.self) t z from c.truncate.result m (record { maps = k.maps; unfreed = k.unfreed; rows = k.rows; actor = k.actor; begun = k.begun; begin = λ o. ap (λ s. (g.E.Engine.view s.value).now) k.begun_at; limits = refl }) (k.means t from m.since.stands) k.rests.counts.told
    (silent_of c.truncate.result (g.E.Engine.view c.truncate.new.self.engine).failed (λ w. g.met.E.Engine.told_whole _ w) k.rests.counts.failed) (look_call from k.rests (k.looks t from m.since.stands)).stays (k.kept (g.E.Engine.limits z.pages z.bands) t from m.since.stands)

pub returns-clause-rests : goal.returns-clause-rests
returns-clause-rests g c = λ t z from m told e idle oldest.
    let k = c.truncate.ensures in
    let a = over c.args.acts.now in
    let b = over c.truncate.new.self in
    let same : Same a b = record { maps = k.maps; unfreed = k.unfreed; rows = k.rows; actor = k.actor; begun = k.begun; begin = λ o. ap (λ s. (g.E.Engine.view s.value).now) k.begun_at; limits = refl } in
    let stands = k.means t from m.since.stands in
    let stays = (look_call from k.rests (k.looks t from m.since.stands)).stays in
    let means = stay_means a b t z from c.truncate.result m same stands k.rests.counts.told (silent_of c.truncate.result (g.E.Engine.view c.truncate.new.self.engine).failed (λ w. g.met.E.Engine.told_whole _ w) k.rests.counts.failed) stays (k.kept (g.E.Engine.limits z.pages z.bands) t from m.since.stands) in (
      rests_of g.E.Engine.recovers a b t z from a.engine refl m.size ((k.looks t from m.since.stands).moments told),
      on_ok2 c.truncate.result (λ s f. let w = s.told told in (
        rested_of g.E.Engine.recovers a b t z from a.engine refl (s.stays told) means w (record { law = g.met.E.Engine.lawful _ t from stands; first = g.met.E.Engine.durable_first _ w; images = g.met.E.Engine.images _ t from stands w }) (room_of a b same) (λ j. acting (k.begun j) (k.actor j).txn.0),
        f w,
      )) stays k.forced,
    )

pub truncate-requires-clause-idle : goal.truncate-requires-clause-idle
truncate-requires-clause-idle g c = λ told. (c.requires.can.can told).rest.idle

pub truncate-requires-clause-oldest : goal.truncate-requires-clause-oldest
truncate-requires-clause-oldest g c = λ told. oldest_is c.args.oldest _ (c.requires.can.can told).first

pub returns-clause-cuts : goal.returns-clause-cuts
returns-clause-cuts g c = c.truncate.ensures.cuts
