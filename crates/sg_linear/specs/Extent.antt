-- The addresses of a linear hash table.
use Rattle.std.specs.Prelude.{◌≡◌, ◌≢◌, ℕ, ◌+◌, ◌%◌, ◌^◌, ◌<◌, ◌≤◌, ◌==◌, nat_lt, ◌⊎◌, if◌then◌else◌}
use Rattle.sg_linear.specs.declared.extent.Extent.{Extent}

-- a table of 2^level buckets and those behind them that were split off at this level
pub record Shape : Type 0 where
  pub level : ℕ
  pub split : ℕ

abbrev pub shape_of : Extent → Shape
shape_of e = record { level = e.level; split = e.split }

-- how many buckets there are
abbrev pub buckets_of : Shape → ℕ
buckets_of s = 2 ^ s.level + s.split

-- the bucket of a hash: its low bits, one more of them where the bucket has been split at this level
abbrev pub bucket_at : Shape → ℕ → ℕ
bucket_at s hash = if nat_lt (hash % 2 ^ s.level) s.split then hash % 2 ^ (s.level + 1) else hash % 2 ^ s.level

-- after one more split. Where all buckets of the level have been split the next level begins
abbrev pub next_of : Shape → Shape
next_of s = if s.split + 1 == 2 ^ s.level then record { level = s.level + 1; split = 0 } else record { level = s.level; split = s.split + 1 }

-- a hash keeps its bucket, or its bucket is the one that is split and it goes to the new one, behind all others
abbrev pub Divides : Shape → Shape → ℕ → Type 0
Divides old new hash = (bucket_at new hash ≡ bucket_at old hash) ⊎ ((bucket_at old hash ≡ old.split) × (bucket_at new hash ≡ buckets_of old))
