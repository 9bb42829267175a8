use Rattle.std.proofs.Common.{◌≡◌, ◌-◌, length, List}
use Rattle.sg_record.specs.Records.{Record}
use Rattle.sg_log.specs.Texts.{AreRecords, spelled_all}
use Rattle.sg_log.proofs.Whole.{IsWholeFrom}
use Rattle.sg_inspect.proofs.Bodies.{AreListed}
use Rattle.sg_inspect.proofs.listing.list_body.Given as goal

abbrev pub invariant-records : goal.invariant-records
invariant-records g l = record {
  listed : (rs : List Record) → AreRecords rs → spelled_all rs ≡ l.body → AreListed l.body l.lsn rs l.from (g.K.Sink.taken l.initial.out) (g.K.Sink.taken l.out);
  whole : IsWholeFrom l.body l.from;
  quiet : g.K.Sink.faults l.out ≡ g.K.Sink.faults l.initial.out;
}

abbrev pub decreases-records : goal.decreases-records
decreases-records g l = length l.body - l.from
