use Rattle.sg_base.proofs.Marked.{IsCheckedTo}
use Rattle.sg_base.proofs.check.stored_bytes.Given as goal

abbrev pub invariant-slots : goal.invariant-slots
invariant-slots l = IsCheckedTo l.page l.start l.slot l.taken l.bytes
