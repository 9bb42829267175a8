-- Where a touch of a transaction is to be held.
use Rattle.std.specs.Prelude.{◌≡◌, ℕ, List}
use Rattle.sg_serial.specs.Locks.{Touch, Hold, is_pair}
use Rattle.sg_model.specs.Touches.{Resource, same_resource}
use Rattle.sg_locks.specs.declared.table.Spot.{Spot}
use Rattle.sg_locks.specs.Found.{AreBucketsOf}
use Rattle.sg_locks.specs.Places.{first_place}

-- the buckets of the touch's resource, and the first place where the transaction holds that
abbrev pub IsSpotOf : Spot → ℕ → Touch Resource → List (Hold Resource) → Type 0
IsSpotOf spot t a hs = AreBucketsOf spot.buckets a.what × (spot.place ≡ first_place (is_pair same_resource t a.what) hs)
