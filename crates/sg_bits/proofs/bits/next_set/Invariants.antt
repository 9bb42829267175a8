use Rattle.std.proofs.Common.{◌-◌, ◌*◌, ℕ, ◌<◌, ◌≤◌, length}
use Rattle.sg_bits.specs.Bits.{IsSet}
use Rattle.sg_bits.proofs.bits.next_set.Given as goal

-- no bit from `from` up to `here` is set
abbrev pub invariant-words : goal.invariant-words
invariant-words l = record {
  after : l.from ≤ l.here;
  within : l.here ≤ 64 * length l.words;
  passed : (k : ℕ) → l.from ≤ k → k < l.here → IsSet l.words k → ⊥;
}

abbrev pub decreases-words : goal.decreases-words
decreases-words l = 64 * length l.words - l.here
