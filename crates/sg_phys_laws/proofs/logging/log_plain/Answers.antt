use Rattle.std.proofs.Common.{sym, subst}
use Rattle.sg_pool.specs.Pooled.{sizes}
use Rattle.sg_engine.specs.Calls.{WaitsFrame}
use Rattle.sg_engine.proofs.Waits.{waits_appended}
use Rattle.std.proofs.Common.{inl, refl, ap, arith}
use Rattle.sg_record.specs.Shown.{shown}
use Rattle.sg_phys_laws.proofs.Numbers.{place_late, placed_below, grown_kept, near}
use Rattle.sg_phys_laws.proofs.Paging.{on_ok, each_ok, number_ok}
use Rattle.sg_phys_laws.proofs.Wrapped.{plain_may, plain_logged}
use Rattle.sg_phys_laws.proofs.Handing.{within_end, past_end, hands_record}
use Rattle.sg_engine.specs.declared.fault.EngineFault.TheVariants.{LogEnd}
use Rattle.sg_phys_laws.proofs.logging.log_plain.Goals as goal

pub returns-clause-above : goal.returns-clause-above
returns-clause-above g c = let e = c.place.ensures in let l = place_late c.args.engine.now.log (shown c.args.r.now) in omega (arith, e, l)

pub returns-clause-number : goal.returns-clause-number
returns-clause-number g c = number_ok c.append.result c.append.ensures.lsn c.place.ensures

pub returns-clause-below : goal.returns-clause-below
returns-clause-below g c = on_ok c.append.result c.append.ensures.tail (λ end. placed_below c.args.engine.now.log c.append.new.self.log (shown c.args.r.now) c.place.result c.place.ensures end)

pub returns-clause-near : goal.returns-clause-near
returns-clause-near g c e = near c.args.engine.now.log (shown c.args.r.now) c.requires.range (c.append.ensures.log_end e)

pub returns-clause-logs : goal.returns-clause-logs
returns-clause-logs g c own given o ds ps told a =
    on_ok c.append.result (c.append.ensures.goes_on o ds ps told a.phys.engine (plain_may own o _ _ ds ps _ (shown c.args.r.now) a.by c.requires.says a.phys.engine))
    (λ gone. plain_logged own o (g.D.Disk.view c.args.engine.now.disk) (g.D.Disk.view c.append.new.self.disk) c.args.engine.now.log c.append.new.self.log ds ps (shown c.args.r.now) c.place.result c.args.engine.now.pool c.append.new.self.pool a.by c.requires.says a.phys c.place.ensures gone)

pub returns-clause-runs : goal.returns-clause-runs
returns-clause-runs g c own given o ds ps told a = record {
  moments = inl (λ k early. c.append.ensures.moments o ds ps k told a.phys.engine early);
  allowed = each_ok _ _ c.append.result (λ k early. c.append.ensures.allowed o ds ps k told a.phys.engine early);
  registered = a.registered;
}

pub returns-clause-grown : goal.returns-clause-grown
returns-clause-grown g c = on_ok c.append.result c.append.ensures.tail (λ end. grown_kept c.args.engine.now.log c.args.engine.now.log c.append.new.self.log (shown c.args.r.now) (inl refl) c.requires.range end)

pub returns-clause-within : goal.returns-clause-within
returns-clause-within g c = within_end c.args.engine.now.log (shown c.args.r.now) c.place.result LogEnd c.append.result c.place.ensures c.append.ensures.full

pub returns-clause-past : goal.returns-clause-past
returns-clause-past g c e = past_end c.args.engine.now.log (shown c.args.r.now) c.place.result c.place.ensures (c.append.ensures.log_end e)

pub returns-clause-hands : goal.returns-clause-hands
returns-clause-hands g c = hands_record c.args.engine.now.log c.append.new.self.log (shown c.args.r.now) (g.D.Disk.view c.args.engine.now.disk).handed (g.D.Disk.view c.append.new.self.disk).handed c.append.result c.requires.range
    (λ room. ap (λ d. (g.D.Disk.view d).handed) (c.append.ensures.no_call room)) c.append.ensures.handed c.append.ensures.log

pub returns-clause-counts : goal.returns-clause-counts
returns-clause-counts g c = record { later = c.append.ensures.later; heeded = c.append.ensures.heeded; hands = c.append.ensures.grown; size = ap sizes c.append.ensures.pool }

pub returns-clause-waits : goal.returns-clause-waits
returns-clause-waits g c = on_ok c.append.result c.append.ensures.log (λ is. subst WaitsFrame (sym is) (waits_appended c.args.engine.now.log (shown c.args.r.now) c.requires.range))

pub returns-clause-failed : goal.returns-clause-failed
returns-clause-failed g c o ds ps told e lies is = c.append.ensures.failed is
