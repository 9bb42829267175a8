-- The bytes of a log's records, one after another.
use Rattle.std.specs.Prelude.{ℕ, List, [], ◌∷◌}
use Rattle.std.specs.List.{flat_map}
use Rattle.sg_record.specs.Records.{Record, spelled}
use Rattle.sg_record.specs.Ranges.{IsRecord}

-- the bytes of records, one after another
abbrev pub spelled_all : List Record → List ℕ
spelled_all rs = flat_map spelled rs

-- the fields of each of these are in their ranges
abbrev pub AreRecords : List Record → Type 0
AreRecords [] = Unit {0}
AreRecords (r ∷ rs) = IsRecord r × AreRecords rs
