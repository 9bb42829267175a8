-- The operations that a log's records name, as far as an opening needs them registered.
use Rattle.std.specs.Prelude.{◌≡◌, ℕ, List, ◌++◌, None}
use Rattle.sg_log.specs.Frames.{Numbered}
use Rattle.sg_ops.specs.Table.{Table}
use Rattle.sg_record.specs.Records.{Record}
use Rattle.sg_redo.specs.Places.{changed_by}
use Rattle.sg_analysis.specs.Analysis.{analysis_of}
use Rattle.sg_places.specs.Asked.{undone_of, unknown_in, first_unknown}
use Rattle.sg_phys_laws.specs.Points.{redo_point}

-- the operation that a record names is registered, if it names one
abbrev pub IsRegistered : Table → Record → Type 0
IsRegistered t r = unknown_in t (changed_by r.says) ≡ None

-- ENOUGH IS REGISTERED for an opening of a log with these records, whose first byte has the number base: the operations of records from the
-- redo point on, of those of transactions that go on, and of the system's open changes
abbrev pub IsEnough : Table → (base : ℕ) → List Numbered → Type 0
IsEnough t base ns = first_unknown t (redo_point base ns) (undone_of (analysis_of base ns)) ns ≡ None

-- and so it is for each front that has these: an image of the disk has a front with all that is durable
abbrev pub AllEnough : Table → (base : ℕ) → (ds all : List Numbered) → Type 0
AllEnough t base ds all = (front more : List Numbered) → (ds ++ front) ++ more ≡ all → IsEnough t base (ds ++ front)
