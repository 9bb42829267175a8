use Rattle.std.proofs.Common.{◌≡◌, ◌-◌, length, List}
use Rattle.sg_record.specs.Records.{Record}
use Rattle.sg_log.specs.Texts.{AreRecords, spelled_all}
use Rattle.sg_inspect.proofs.Bodies.{IsLookedAt}
use Rattle.sg_inspect.proofs.survey.are_inside.Given as goal

abbrev pub invariant-records : goal.invariant-records
invariant-records l = (rs : List Record) → AreRecords rs → spelled_all rs ≡ l.body → IsLookedAt l.s.pages l.s.bands l.body rs l.from

abbrev pub decreases-records : goal.decreases-records
decreases-records l = length l.body - l.from
