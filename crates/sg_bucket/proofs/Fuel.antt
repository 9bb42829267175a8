-- A chain has no more pages than its space.
use Rattle.std.proofs.Common.{ℕ, ◌≤◌, length}
use Rattle.sg_base.specs.Sheet.{Sheet}
use Rattle.sg_space.specs.Units.{Units, IsExact}
use Rattle.sg_space.proofs.Few.{few_units}
use Rattle.sg_bucket.specs.Bucket.{Bucket, IsLinked}

pub few_pages : {units : Units Sheet} {first : ℕ} {b : Bucket} → IsExact units → IsLinked units.at first b → length b.pages ≤ units.count
few_pages {units} {first} {b} exact h = few_units b.pages exact h.apart (λ i p e none. let some = (h.part i p e).is in cc)
