-- HOW MUCH AN OPENING REPEATS of an image: functions of the image.
use Rattle.std.specs.Prelude.{◌≡◌, ℕ, nat_le, List, ◌++◌, length, filter, Some, None}
use Rattle.sg_disk.specs.Disk.{Image}
use Rattle.sg_log.specs.Frames.{Numbered, LOG_END}
use Rattle.sg_analysis.specs.Sights.{last_checkpoint}
use Rattle.sg_engine.specs.Engine.{log_area}
use Rattle.sg_find.specs.Synced.{redo_point}
use Rattle.sg_phys_laws.specs.Reading.{frames_read}
use Rattle.sg_phys_laws.specs.Recovers.{super_in}
use Rattle.sg_places.specs.Placed.{places_in}

-- the records of an image's log, by its superblock and its bytes
abbrev pub log_in : Image → List Numbered
log_in c = frames_read LOG_END (c (log_area (super_in c))) (super_in c).base 0

-- HOW MANY CHANGES AN OPENING REPEATS: the records of the log from its redo point on that change a page or a band
abbrev pub repeated_in : Image → ℕ
repeated_in c = length (places_in (super_in c).pages (super_in c).base (redo_point (super_in c).base (log_in c)) (log_in c))

-- how many records the log has with this number or a greater one
abbrev pub records_from : ℕ → Image → ℕ
records_from number c = length (filter (λ n. nat_le number n.lsn) (log_in c))

-- THE LAST CHECKPOINT of the log has this number, and has redo begin at this estimate
abbrev pub LastMarked : Image → (lsn estimate : ℕ) → Type 0
LastMarked c lsn estimate = last_checkpoint (log_in c) ≡ Some (lsn, estimate)

-- a checkpoint is the last one of these records, and none is among those that may come behind them
pub record IsLastOf (ds all : List Numbered) (lsn estimate : ℕ) : Type 0 where
  pub marked : last_checkpoint ds ≡ Some (lsn, estimate)
  pub more : List Numbered
  pub is_all : all ≡ ds ++ more
  pub none_more : last_checkpoint more ≡ None
