use Rattle.std.proofs.Common.{◌-◌, ◌≤◌, max}
use Rattle.sg_bits.proofs.RowBits.{Adds}
use Rattle.sg_bits.proofs.bits.set.Given as goal

-- the bits from `first` up to `here` are set, and no other was
abbrev pub invariant-words : goal.invariant-words
invariant-words l = record {
  after : l.first ≤ l.here;
  within : l.here ≤ max l.first l.end;
  adds : Adds l.initial.words l.words l.first l.here;
}

abbrev pub decreases-words : goal.decreases-words
decreases-words l = l.end - l.here
