-- What a store's pages and bands, with its log, are as plain values.
use Rattle.std.specs.Prelude.{Bool}
use Rattle.sg_disk.specs.Disk.{View}
use Rattle.sg_disk.specs.declared.disk.Disk.{Ghosts}
use Rattle.sg_disk.specs.declared.presumed.Presumed.{Ghosts as Presumptions}
use Rattle.sg_ops.specs.Table.{Table}
use Rattle.sg_action.specs.States.{State}
use Rattle.sg_actions.specs.Engine.{EngineSeen}
use Rattle.sg_phys.specs.Phys.{IsGiven, Parts, StandsBy, past_of, gone_by, settled, seen_by}
use Rattle.sg_pages.specs.declared.phys.Phys.{Phys}

abbrev pub parts : {D : Type 0} {h : Presumptions D} {g : Ghosts D} → (D → View) → Phys D h g → Parts
parts view s = record {
  past = past_of (view s.found.value) s.superblock (gone_by s.cuts.items (λ e. view e.value) (λ c. settled c.area c.base c.gate) (λ c. c.start)) s.checkpoint;
  disk = view s.engine.disk;
  log = s.engine.log;
  pool = s.engine.pool;
  failed = s.failed;
  full = s.full;
  end = s.end;
  gate = s.gate;
  tried = s.tried;
  breaks = s.breaks;
  records = s.records;
}

-- what it shows
abbrev pub seen : {D : Type 0} {h : Presumptions D} {g : Ghosts D} → (told : Bool) → (presumed : Type 0) → (D → View) → Phys D h g → EngineSeen
seen told presumed view s = seen_by (IsGiven told presumed) (parts view s)

-- which operations it stands for, and which first pages and bands
abbrev pub stands : {D : Type 0} {h : Presumptions D} {g : Ghosts D} → (told : Bool) → (presumed : Type 0) → (D → View) → Phys D h g → Table → State → Type 0
stands told presumed view s = StandsBy (IsGiven told presumed) (parts view s)
