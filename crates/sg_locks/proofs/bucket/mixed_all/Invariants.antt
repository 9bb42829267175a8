use Rattle.std.proofs.Common.{◌≡◌, ◌<◌, drop}
use Rattle.sg_locks.specs.Buckets.{mixed_all}
use Rattle.sg_locks.proofs.bucket.mixed_all.Given as goal

abbrev pub invariant-loop-byte : goal.invariant-loop-byte
invariant-loop-byte l = record { mixed : mixed_all l.bucket (drop l.byte-index l.bytes) ≡ mixed_all l.initial.bucket l.bytes; below : l.bucket < 4096 }
