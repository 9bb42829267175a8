-- Which registered operations an image needs to be opened.
use Rattle.std.specs.Prelude.{◌≡◌, ℕ, Bool, true, false, is_some, List}
use Rattle.sg_ops.specs.Table.{Table, record_at, range_at}
use Rattle.sg_disk.specs.Disk.{Image}
use Rattle.sg_analysis.specs.Codes.{Sort, Code, codes, IsNamed}
use Rattle.sg_analysis.specs.Codes.Sort.{OnItem, OnRange}
use Rattle.sg_open.specs.Refusals.{IsRead}

-- an operation of this sort is registered with this code
abbrev pub is_known : Table → Sort → ℕ → Bool
is_known t OnItem code = is_some (record_at t code)
is_known t OnRange code = is_some (range_at t code)

abbrev pub IsRegistered : Table → Code → Type 0
IsRegistered t k = is_known t k.sort k.code ≡ true

-- THE OPERATIONS THAT AN IMAGE NEEDS: those of its log's records from the redo point on, of losers, and of open changes
abbrev pub codes_of : (c : Image) → IsRead c → List Code
codes_of c r = codes r.super.base r.log.records

-- one of these has this code, and none of its sort is registered with it
abbrev pub IsUnregistered : Table → List Code → ℕ → Type 0
IsUnregistered t ks code = (k : Code) × IsNamed k ks × (k.code ≡ code) × (is_known t k.sort k.code ≡ false)
