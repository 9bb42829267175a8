-- What several calls leave of a disk's counts.
use Rattle.std.proofs.Common.{◌≡◌, ◌≤◌, ◌+◌, ℕ, min, arith}

-- a count that was raised twice, as far as it is counted
pub raised_twice : (before mid now first second top : ℕ) → mid ≡ min (before + first) top → now ≡ min (mid + second) top → now ≡ min (before + (first + second)) top
raised_twice before mid now first second top one two = omega (arith, one, two)

pub raised_then : (before mid now first second top : ℕ) → mid ≡ min (before + first) top → now ≡ min (mid + second) top → now ≡ min (before + first + second) top
raised_then before mid now first second top one two = omega (arith, one, two)

-- it has risen by no more than that
pub raised_most : (before now by spare top : ℕ) → now ≡ min (before + by) top → now ≤ before + (by + spare)
raised_most before now by spare top is = omega (arith, is)

-- a count to which nothing was added
pub left_alone : (before now : ℕ) → before ≤ now → now ≤ before + 0 → now ≡ before
left_alone before now least most = omega (arith, least, most)
