use Rattle.std.proofs.Common.{◌≡◌, ◌-◌, ◌+◌, ◌*◌, ◌≤◌, length, List, vec_len, vec_capacity}
use Rattle.sg_record.specs.Records.{Record}
use Rattle.sg_log.specs.Texts.{AreRecords, spelled_all}
use Rattle.sg_places.proofs.Rest.{AreBodyPlaced}
use Rattle.sg_places.proofs.collecting.collect_body.Given as goal

abbrev pub invariant-records : goal.invariant-records
invariant-records l = (l.from ≤ length l.body) × (21 * vec_len l.places ≤ 21 * vec_len l.initial.places + l.from) × (vec_capacity l.places ≡ vec_capacity l.initial.places)
    × ((rs : List Record) → AreRecords rs → spelled_all rs ≡ l.body → AreBodyPlaced l.pages l.bands l.base l.point l.lsn l.body rs l.initial.places.items l.places.items l.from)

abbrev pub decreases-records : goal.decreases-records
decreases-records l = length l.body - l.from
