-- Runs of calls that only read.
use Rattle.std.proofs.Common.{◌≡◌, ◌≤◌, ℕ, Bool, IsTrue, Result, Ok, Err, OnErr, refl, ◌∙◌, subst, arith}
use Rattle.sg_base.specs.Ends.{HasRisen}
use Rattle.sg_disk.specs.Disk.{State, View, Leaves, LeavesOnly, Counts, ReadBytes}
use Rattle.sg_disk.proofs.Moments.{started, joined}
use Rattle.sg_log.specs.Reads.{OnlyReads}
use Rattle.sg_log.proofs.Holding.{moments_read}

-- no call
pub reads_none : {told : Bool} (v : View) → OnlyReads told v v
reads_none v = record { unchanged = λ yes. refl; any_moment = λ yes. started v (Leaves v.now) (λ c leaves. leaves); handed = refl; later = omega arith }

-- one call
pub reads_one : {T E : Type 0} {told : Bool} {v w : View} {r : Result T E} → Counts 0 v w r → (IsTrue told → ReadBytes v w r) → (IsTrue told → w.now ≡ v.now) → OnlyReads told v w
reads_one counts does unchanged = record { unchanged = unchanged; any_moment = λ yes. moments_read (does yes); handed = omega (arith, counts.handed_most, counts.handed_least); later = counts.later }

-- some, and then others
pub reads_more : {told : Bool} {u v w : View} → OnlyReads told u v → OnlyReads told v w → OnlyReads told u w
reads_more {v = v} {w = w} a b = record {
  unchanged = λ yes. b.unchanged yes ∙ a.unchanged yes;
  any_moment = λ yes. joined (a.any_moment yes) (subst (λ (s : State). LeavesOnly v w (Leaves s)) (a.unchanged yes) (b.any_moment yes));
  handed = b.handed ∙ a.handed;
  later = omega (arith, a.later, b.later);
}

-- a fault of a later call
pub risen_later : (before mid now : ℕ) → before ≤ mid → HasRisen mid now → HasRisen before now
risen_later before mid now le rose = λ top. let later = rose top in omega (arith, later, le)

pub failed_later : {T E : Type 0} (before mid now : ℕ) (r : Result T E) → before ≤ mid → OnErr r (HasRisen mid now) → OnErr r (HasRisen before now)
failed_later before mid now (Ok x) le rose = tt
failed_later before mid now (Err e) le rose = risen_later before mid now le rose

-- what holds behind a refusal
pub on_err : {T E P : Type 0} (r : Result T E) → P → OnErr r P
on_err (Ok x) p = tt
on_err (Err e) p = p
