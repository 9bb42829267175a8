use Rattle.std.proofs.Common.{inl}
use Rattle.sg_shown.specs.Shown.{shown}
use Rattle.sg_store.specs.Seen.{core_of}
use Rattle.stasis.specs.Telling.{shown_of}
use Rattle.stasis.proofs.Closed.{closed}
use Rattle.stasis.proofs.Settling.{close_heeds, reads_leave}
use Rattle.stasis.proofs.closing.close_store.Goals as goal

pub returns-clause-moments : goal.returns-clause-moments
returns-clause-moments g c =
    rw c.into_disk-disk.ensures (rw c.into_engine.ensures (rw c.into_acts.ensures (λ t live objects durable h.
    closed t (shown_of c.args.store) (core_of c.args.store) live objects durable h.tells h.has (shown c.close-closed.result.1.acts) c.close-closed.result.0 c.close-closed.ensures.closes)))

pub returns-clause-kept : goal.returns-clause-kept
returns-clause-kept g c =
    rw c.into_disk-disk.ensures (rw c.into_engine.ensures (rw c.into_acts.ensures (λ t live objects durable h i leaves.
    (closed t (shown_of c.args.store) (core_of c.args.store) live objects durable h.tells h.has (shown c.close-closed.result.1.acts) c.close-closed.result.0 c.close-closed.ensures.closes).each i (inl leaves))))

pub returns-clause-opens : goal.returns-clause-opens
returns-clause-opens g c =
    rw c.into_disk-disk.ensures (rw c.into_engine.ensures (rw c.into_acts.ensures (λ t live objects durable h.
    (closed t (shown_of c.args.store) (core_of c.args.store) live objects durable h.tells h.has (shown c.close-closed.result.1.acts) c.close-closed.result.0 c.close-closed.ensures.closes).each _
    (inl (reads_leave (g.D.Disk.view c.close-closed.result.1.acts.engine.engine.disk).now (g.met.D.Disk.reads c.close-closed.result.1.acts.engine.engine.disk h.tells.tells.0))))))

pub returns-clause-heeded : goal.returns-clause-heeded
returns-clause-heeded g c =
    rw c.into_disk-disk.ensures (rw c.into_engine.ensures (rw c.into_acts.ensures
    (let p = c.close-closed.ensures.causes in
    close_heeds (shown_of c.args.store) (shown c.close-closed.result.1.acts) (core_of c.args.store) p.0 c.close-closed.result.0 p.1 c.close-closed.ensures.heeds)))
