use Rattle.std.proofs.Common.{◌≡◌, ◌-◌, length, List}
use Rattle.sg_ops.specs.Table.{table_of}
use Rattle.sg_record.specs.Records.{Record}
use Rattle.sg_log.specs.Texts.{AreRecords, spelled_all}
use Rattle.sg_places.proofs.Rest.{IsChecked}
use Rattle.sg_places.proofs.checking.check_body.Given as goal

abbrev pub invariant-records : goal.invariant-records
invariant-records g l = (rs : List Record) → AreRecords rs → spelled_all rs ≡ l.body
    → IsChecked (table_of (λ p. (goal.RecordOp-dyn g p).record_meaning p.1) (λ p. (goal.RangeOp-dyn g p).range_meaning p.1) l.ops) l.pages l.bands l.point (l.losers, l.opened) l.lsn l.body rs l.from l.unknown

abbrev pub decreases-records : goal.decreases-records
decreases-records g l = length l.body - l.from
