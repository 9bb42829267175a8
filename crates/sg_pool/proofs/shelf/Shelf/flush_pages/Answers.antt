use Rattle.sg_pool.proofs.Flushing.{flushing_starts, flushing_next, run_on}
use Rattle.sg_pool.proofs.shelf.Shelf.flush_pages.Goals as goal

pub batches-init : goal.batches-init
batches-init g c = flushing_starts g.D.Disk.told c.args.self.now (g.D.Disk.view c.args.disk.now)

pub returns-in_err-from-clause-moments : goal.returns-in_err-from-clause-moments
returns-in_err-from-clause-moments g c told ready =
    let inv = c.batches.invariant in
    run_on g.D.Disk.told c.args.self.now c.batches.self (g.D.Disk.view c.args.disk.now) (g.D.Disk.view c.batches.disk) c.batches.from inv told ready (g.D.Disk.view c.flush_batch.new.disk)
    (c.flush_batch.ensures.moments told (inv.ready told ready))

pub batches-preserved : goal.batches-preserved
batches-preserved g c =
    let inv = c.batches.invariant in let now = c.in_ok-from.ensures in
    flushing_next g.D.Disk.told c.args.self.now c.batches.self c.flush_batch.new.self (g.D.Disk.view c.args.disk.now) (g.D.Disk.view c.batches.disk) (g.D.Disk.view c.flush_batch.new.disk) c.batches.from c.in_ok-from.from inv
    (record {
      within = now.onward.0;
      kept = record { geometry = c.flush_batch.ensures.geometry; count = c.flush_batch.ensures.count; pages = c.flush_batch.ensures.pages; frames = c.flush_batch.ensures.frames; wins = c.flush_batch.ensures.wins };
      cleared = now.cleared;
      others = now.others;
      later = c.flush_batch.ensures.later;
      quiet = now.heeded;
      handed = c.flush_batch.ensures.kept;
      backed = now.backed;
      units_are = now.units;
      partly = now.partly;
      logs = now.logs;
      moments = c.flush_batch.ensures.moments;
    })
