-- The bytes at the front of a buffer.
use Rattle.std.specs.Prelude.{◌≡◌, ℕ, ◌≤◌, List, length, take}
use Rattle.sg_script.specs.Kept.{MOST_KEPT}
use Rattle.sg_script.specs.declared.buffer.LineBuffer.TheInside.{Inside}

abbrev pub front_of : Inside → List ℕ
front_of b = take b.len b.bytes

pub record IsFront (b : Inside) : Type 0 where
  pub within : b.len ≤ MOST_KEPT
  pub size : length b.bytes ≡ MOST_KEPT
