-- Calls of a disk that only read.
use Rattle.std.proofs.Common.{◌≡◌, Bool, IsTrue, Result, ◌∙◌, subst, arith}
use Rattle.sg_disk.specs.Disk.{State, Leaves, View, Counts, ReadBytes}
use Rattle.sg_disk.proofs.Moments.{started, goes_on, joined, weaker}
use Rattle.sg_gate.specs.Reads.{OnlyReads}

-- one read
pub only_read : {T E : Type 0} {told : Bool} {v w : View} {r : Result T E} → Counts 0 v w r → (IsTrue told → ReadBytes v w r) → (IsTrue told → w.now ≡ v.now) → OnlyReads told v w
only_read {v = v} counts does unchanged = record {
  unchanged = unchanged;
  any_moment = λ sure. goes_on (started v (Leaves v.now) (λ c leaves. leaves)) (does sure) (λ c leaves. leaves);
  handed = let most = counts.handed_most in let least = counts.handed_least in omega arith;
  later = counts.later;
}

-- and more behind them
pub reads_more : {told : Bool} {u v w : View} → OnlyReads told u v → OnlyReads told v w → OnlyReads told u w
reads_more {v = v} one two = record {
  unchanged = λ sure. two.unchanged sure ∙ one.unchanged sure;
  any_moment = λ sure. joined (one.any_moment sure) (weaker (two.any_moment sure) (λ c leaves. subst (λ (s : State). Leaves s c) (one.unchanged sure) leaves));
  handed = let a = one.handed in let b = two.handed in omega arith;
  later = let a = one.later in let b = two.later in omega arith;
}
