use Rattle.sg_phys_laws.proofs.Counted.{not_called}
use Rattle.std.proofs.Common.{◌<◌, inl, refl, arith}
use Rattle.sg_record.specs.Shown.{shown}
use Rattle.sg_pool.specs.Pooled.{sizes}
use Rattle.sg_phys_laws.proofs.Numbers.{place_late, placed_below, grown_kept, near}
use Rattle.sg_phys_laws.proofs.Paging.{on_ok, number_ok}
use Rattle.sg_phys_laws.proofs.Poised.{none_stood}
use Rattle.sg_phys_laws.proofs.Wrapped.{bytes_may, bytes_logged, bytes_run}
use Rattle.sg_phys_laws.proofs.Handing.{within_end, past_end}
use Rattle.sg_engine.specs.declared.fault.EngineFault.TheVariants.{LogEnd}
use Rattle.sg_phys_laws.proofs.logging.log_to_band.Goals as goal

pub returns-then-b-bands-clause-above : goal.returns-then-b-bands-clause-above
returns-then-b-bands-clause-above g c = let e = c.place.ensures in let l = place_late c.args.engine.now.log (shown c.args.r.now) in omega (arith, e, l)

pub returns-clause-above : goal.returns-clause-above
returns-clause-above g c = let e = c.place.ensures in let l = place_late c.args.engine.now.log (shown c.args.r.now) in omega (arith, e, l)

pub returns-then-b-bands-clause-runs : goal.returns-then-b-bands-clause-runs
returns-then-b-bands-clause-runs g c own o ds ps told a = record {
  moments = inl (none_stood o (g.D.Disk.view c.args.engine.now.disk) c.args.engine.now.log ds ps c.args.engine.now.pool a.phys.engine);
  allowed = tt;
  registered = a.registered;
}

pub returns-clause-number : goal.returns-clause-number
returns-clause-number g c = number_ok c.change_band.result c.change_band.ensures.lsn c.place.ensures

pub returns-clause-below : goal.returns-clause-below
returns-clause-below g c = on_ok c.change_band.result c.change_band.ensures.tail (λ end. placed_below c.args.engine.now.log c.change_band.new.self.log (shown c.args.r.now) c.place.result c.place.ensures end)

pub returns-clause-near : goal.returns-clause-near
returns-clause-near g c e = near c.args.engine.now.log (shown c.args.r.now) c.requires.range (c.change_band.ensures.log_end e)

pub returns-clause-logs : goal.returns-clause-logs
returns-clause-logs g c own o ds ps told a =
    let lt : c.args.b.0 < (sizes c.args.engine.now.pool).bands = omega (arith, c.if-b-bands.false, c.bands.ensures) in
    on_ok c.change_band.result (c.change_band.ensures.goes_on o ds ps told a.phys.engine (bytes_may own o _ _ ds ps _ (shown c.args.r.now) c.args.b.0 c.args.at c.args.bytes.now a lt))
    (λ gone. bytes_logged own o (g.D.Disk.view c.args.engine.now.disk) (g.D.Disk.view c.change_band.new.self.disk) c.args.engine.now.log c.change_band.new.self.log ds ps (shown c.args.r.now) c.place.result c.args.engine.now.pool c.change_band.new.self.pool c.args.b.0 c.args.at c.args.bytes.now a c.requires.fits c.place.ensures gone)

pub returns-clause-runs : goal.returns-clause-runs
returns-clause-runs g c own o ds ps told a =
    let lt : c.args.b.0 < (sizes c.args.engine.now.pool).bands = omega (arith, c.if-b-bands.false, c.bands.ensures) in
    let may = bytes_may own o _ _ ds ps _ (shown c.args.r.now) c.args.b.0 c.args.at c.args.bytes.now a lt in
    bytes_run own o (g.D.Disk.view c.args.engine.now.disk) (g.D.Disk.view c.change_band.new.self.disk) c.args.engine.now.log c.change_band.new.self.log ds ps c.args.engine.now.pool c.change_band.new.self.pool (shown c.args.r.now) c.place.result c.args.b.0 c.args.at c.args.bytes.now c.change_band.result a c.requires.fits c.place.ensures
    (λ k early. c.change_band.ensures.moments o ds ps k told a.phys.engine early may)
    (λ k early. c.change_band.ensures.allowed o ds ps k told a.phys.engine early)

pub returns-clause-grown : goal.returns-clause-grown
returns-clause-grown g c = on_ok c.change_band.result c.change_band.ensures.tail (λ end. grown_kept c.args.engine.now.log c.args.engine.now.log c.change_band.new.self.log (shown c.args.r.now) (inl refl) c.requires.range end)

pub returns-clause-within : goal.returns-clause-within
returns-clause-within g c = within_end c.args.engine.now.log (shown c.args.r.now) c.place.result LogEnd c.change_band.result c.place.ensures c.change_band.ensures.full

pub returns-clause-past : goal.returns-clause-past
returns-clause-past g c e = past_end c.args.engine.now.log (shown c.args.r.now) c.place.result c.place.ensures (c.change_band.ensures.log_end e)

pub returns-then-b-bands-clause-counts : goal.returns-then-b-bands-clause-counts
returns-then-b-bands-clause-counts g c = not_called (g.D.Disk.view c.args.engine.now.disk) c.args.engine.now.log c.args.engine.now.pool

pub returns-then-b-bands-clause-failed : goal.returns-then-b-bands-clause-failed
returns-then-b-bands-clause-failed g c lt is = absurd (omega (arith, lt, c.if-b-bands.true, c.bands.ensures))

pub returns-clause-counts : goal.returns-clause-counts
returns-clause-counts g c = record { later = c.change_band.ensures.later; heeded = c.change_band.ensures.heeded; hands = c.change_band.ensures.grown; size = c.change_band.ensures.size }

pub returns-clause-failed : goal.returns-clause-failed
returns-clause-failed g c lt is = c.change_band.ensures.failed is
