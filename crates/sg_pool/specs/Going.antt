-- One page goes home.
use Rattle.std.specs.Prelude.{◌≡◌, ◌≢◌, ℕ, List}
use Rattle.sg_disk.specs.Disk.{Bytes, Part, put}
use Rattle.sg_gate.specs.Layout.{HEADER, home_at, IsStore}
use Rattle.sg_gate.specs.Batch.{IsSettled}

-- the home area with these bytes at the page's home
abbrev pub with_home : ℕ → List ℕ → Bytes → Bytes
with_home n page f = put (home_at n) page f

-- the header's gate is closed, nothing is pending, and the store has these bytes
pub record IsStored (p : Part) (later : Bytes) : Type 0 where
  pub closed : p.seen HEADER ≢ 1
  pub settled : IsSettled p
  pub bytes : (i : ℕ) → IsStore i → p.seen i ≡ later i
