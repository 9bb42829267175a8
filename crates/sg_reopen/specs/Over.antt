-- A STORE OVER ALL ITS LIVES AND CUTS.
use Rattle.std.specs.Prelude.{◌≡◌, List, ◌++◌}
use Rattle.sg_disk.specs.Disk.{Image}
use Rattle.sg_log.specs.Frames.{Numbered}
use Rattle.sg_engine.specs.History.{Homes, made, AreSame}
use Rattle.sg_engine.specs.Engine.{Origin, entries, geometry}
use Rattle.sg_engine.specs.Cut.{Stand, cut_at}
use Rattle.sg_reopen.specs.Again.{StandsAgain}

-- AN IMAGE OF A STORE, over all that it has ever done: ds are all records since it was made that were durable, all are all that were appended.
-- Some of the first of them may be gone, and then the image stands again for the store without them
pub record StandsOver (o : Origin) (ds all : List Numbered) (c : Image) : Type 0 where
  pub stand : Stand
  pub gone : List Numbered
  pub durable : List Numbered
  pub appended : List Numbered
  pub of_durable : ds ≡ gone ++ durable
  pub of_all : all ≡ gone ++ appended
  pub again : StandsAgain (cut_at o stand gone) durable appended c

-- THESE RECORDS GIVE ALL, once they are repeated over this home area: the pages and the bands that all records since the store was made,
-- those that are gone and these, make of its first home area
abbrev pub GivesAll : Origin → (gone records : List Numbered) → Homes → Type 0
GivesAll o gone records h = AreSame (geometry o.super) (made (entries o records) h) (made (entries o (gone ++ records)) o.first)

-- these records are a front of all that were appended, and have all that were durable
pub record IsBetween (ds records all : List Numbered) : Type 0 where
  pub since : List Numbered
  pub more : List Numbered
  pub durable : records ≡ ds ++ since
  pub front : all ≡ records ++ more
