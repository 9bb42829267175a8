use Rattle.std.proofs.Common.{ℕ, Err}
use Rattle.sg_phys_laws.proofs.Counted.{not_called, counted_then, risen_behind, lies_page}
use Rattle.std.proofs.Common.{◌<◌, ◌∙◌, inl, sym, ap, subst, arith}
use Rattle.sg_base.specs.Op.{op_of}
use Rattle.sg_record.specs.Shown.{shown}
use Rattle.std.proofs.Common.{List}
use Rattle.sg_log.specs.Frames.{Numbered}
use Rattle.sg_phys_laws.specs.States.{homes_of}
use Rattle.sg_pool.specs.Pooled.{sizes}
use Rattle.sg_pool.specs.Units.{Geometry}
use Rattle.sg_phys_laws.proofs.Numbers.{place_late, placed_above, placed_below, grown_kept, near_kept}
use Rattle.sg_phys_laws.proofs.Paging.{may_go, gone_further, page_run, on_ok, number_ok}
use Rattle.sg_phys_laws.proofs.Poised.{none_stood}
use Rattle.sg_phys_laws.proofs.logging.log_to_page.Goals as goal
use Rattle.sg_phys_laws.proofs.Handing.{within_end, past_end}
use Rattle.sg_engine.specs.declared.fault.EngineFault.TheVariants.{LogEnd}
use Rattle.sg_phys_laws.proofs.logging.log_to_page.Goals.{In-Ok}

pub returns-then-p-pages-clause-above : goal.returns-then-p-pages-clause-above
returns-then-p-pages-clause-above g c = let e = c.place.ensures in let l = place_late c.args.engine.now.log (shown c.args.r.now) in omega (arith, e, l)

pub returns-in-Err-clause-above : goal.returns-in-Err-clause-above
returns-in-Err-clause-above g c = let e = c.place.ensures in let l = place_late c.args.engine.now.log (shown c.args.r.now) in omega (arith, e, l)

pub returns-clause-above : goal.returns-clause-above
returns-clause-above g c = placed_above c.args.engine.now.log c.load_page.new.self.log (shown c.args.r.now) c.place-2.result c.in-Ok.ensures.log_kept c.place-2.ensures

pub returns-then-p-pages-clause-runs : goal.returns-then-p-pages-clause-runs
returns-then-p-pages-clause-runs g c own o ds ps told a = record {
  moments = inl (none_stood o (g.D.Disk.view c.args.engine.now.disk) c.args.engine.now.log ds ps c.args.engine.now.pool a.phys.engine);
  allowed = tt;
  registered = a.registered;
}

pub returns-in-Err-clause-runs : goal.returns-in-Err-clause-runs
returns-in-Err-clause-runs g c own o ds ps told a = record {
  moments = inl (λ k early. c.load_page.ensures.moments o ds ps k told a.phys.engine early);
  allowed = tt;
  registered = a.registered;
}

pub returns-clause-logs : goal.returns-clause-logs
returns-clause-logs g c own o ds ps told a =
    let m = g.D.Disk.view c.load_page.new.self.disk in
    let w = g.D.Disk.view c.change_page.new.self.disk in
    let h = c.in-Ok.ensures.goes_on o ds ps told a.phys.engine in
    let lt : c.args.p.0 < (sizes c.load_page.new.self.pool).pages = subst (λ (n : Geometry). c.args.p.0 < n.pages) (sym c.load_page.ensures.size) (omega (arith, c.if-p-pages.false, c.pages.ensures)) in
    let go = may_go own _ o _ m c.args.engine.now.log c.load_page.new.self.log ds ps c.args.engine.now.pool c.load_page.new.self.pool (shown c.args.r.now) c.args.p.0 (op_of c.args.op.now) c.page.result.now a h c.requires.range c.requires.says
    c.brings_bytes.ensures c.links_fit.ensures c.are_bytes.ensures c.page.ensures.size (c.page.ensures.bytes o h.durable h.waiting h.engine ∙ ap (λ (l : List Numbered). (homes_of o l).page c.args.p.0) h.is_all) lt in
    on_ok c.change_page.result (c.change_page.ensures.goes_on o h.durable h.waiting told h.engine go.may)
    (λ gone. gone_further own o m w c.load_page.new.self.log c.change_page.new.self.log ds _ c.load_page.new.self.pool c.change_page.new.self.pool (shown c.args.r.now) c.place-2.result h c.place-2.ensures gone go.agrees)

pub returns-clause-runs : goal.returns-clause-runs
returns-clause-runs g c own o ds ps told a =
    let v = g.D.Disk.view c.args.engine.now.disk in
    let m = g.D.Disk.view c.load_page.new.self.disk in
    let w = g.D.Disk.view c.change_page.new.self.disk in
    let h = c.in-Ok.ensures.goes_on o ds ps told a.phys.engine in
    let lt : c.args.p.0 < (sizes c.load_page.new.self.pool).pages = subst (λ (n : Geometry). c.args.p.0 < n.pages) (sym c.load_page.ensures.size) (omega (arith, c.if-p-pages.false, c.pages.ensures)) in
    let go = may_go own _ o _ m c.args.engine.now.log c.load_page.new.self.log ds ps c.args.engine.now.pool c.load_page.new.self.pool (shown c.args.r.now) c.args.p.0 (op_of c.args.op.now) c.page.result.now a h c.requires.range c.requires.says
    c.brings_bytes.ensures c.links_fit.ensures c.are_bytes.ensures c.page.ensures.size (c.page.ensures.bytes o h.durable h.waiting h.engine ∙ ap (λ (l : List Numbered). (homes_of o l).page c.args.p.0) h.is_all) lt in
    page_run own o v m w c.args.engine.now.log c.load_page.new.self.log c.change_page.new.self.log ds ps c.args.engine.now.pool c.load_page.new.self.pool c.change_page.new.self.pool (shown c.args.r.now) c.place-2.result c.change_page.result h c.place-2.ensures a.registered go.agrees
    (λ k early. c.load_page.ensures.moments o ds ps k told a.phys.engine early)
    (λ k early. c.in-Ok.ensures.allowed o ds ps k told a.phys.engine early)
    (λ k early. c.change_page.ensures.moments o h.durable h.waiting k told h.engine early go.may)
    (λ k early. c.change_page.ensures.allowed o h.durable h.waiting k told h.engine early)

pub returns-clause-number : goal.returns-clause-number
returns-clause-number g c = number_ok c.change_page.result c.change_page.ensures.lsn c.place-2.ensures

pub returns-clause-below : goal.returns-clause-below
returns-clause-below g c = on_ok c.change_page.result c.change_page.ensures.tail (λ end. placed_below c.load_page.new.self.log c.change_page.new.self.log (shown c.args.r.now) c.place-2.result c.place-2.ensures end)

pub returns-clause-near : goal.returns-clause-near
returns-clause-near g c e = near_kept c.args.engine.now.log c.load_page.new.self.log (shown c.args.r.now) c.in-Ok.ensures.log_kept c.requires.range (c.change_page.ensures.log_end e)

pub returns-clause-grown : goal.returns-clause-grown
returns-clause-grown g c = on_ok c.change_page.result c.change_page.ensures.tail (λ end. grown_kept c.args.engine.now.log c.load_page.new.self.log c.change_page.new.self.log (shown c.args.r.now) c.in-Ok.ensures.log_kept c.requires.range end)

pub returns-clause-within : goal.returns-clause-within
returns-clause-within g c = within_end c.load_page.new.self.log (shown c.args.r.now) c.place-2.result LogEnd c.change_page.result c.place-2.ensures c.change_page.ensures.full

pub returns-clause-past : goal.returns-clause-past
returns-clause-past g c e = past_end c.load_page.new.self.log (shown c.args.r.now) c.place-2.result c.place-2.ensures (c.change_page.ensures.log_end e)

pub returns-then-p-pages-clause-counts : goal.returns-then-p-pages-clause-counts
returns-then-p-pages-clause-counts g c = not_called (g.D.Disk.view c.args.engine.now.disk) c.args.engine.now.log c.args.engine.now.pool

pub returns-then-p-pages-clause-failed : goal.returns-then-p-pages-clause-failed
returns-then-p-pages-clause-failed g c o ds ps told e lies is =
    let lt = lies_page _ (shown c.args.r.now) c.args.p.0 (op_of c.args.op.now) c.requires.says lies in
    absurd (omega (arith, lt, c.if-p-pages.true, c.pages.ensures))

pub returns-in-Err-clause-counts : goal.returns-in-Err-clause-counts
returns-in-Err-clause-counts g c = record { later = c.load_page.ensures.later; heeded = c.in-Err.ensures.heeded; hands = c.load_page.ensures.grown; size = c.load_page.ensures.size }

pub returns-in-Err-clause-failed : goal.returns-in-Err-clause-failed
returns-in-Err-clause-failed g c o ds ps told e lies is = c.load_page.ensures.failed o ds ps told e (c.in-Err.is ∙ ap Err c.in-Err.ensures.fault)

pub returns-clause-counts : goal.returns-clause-counts
returns-clause-counts g c =
    counted_then {S = Unit {0}} {T = ℕ} (g.D.Disk.view c.args.engine.now.disk) (g.D.Disk.view c.load_page.new.self.disk) (g.D.Disk.view c.change_page.new.self.disk) c.args.engine.now.log c.load_page.new.self.log c.change_page.new.self.log
    c.args.engine.now.pool c.load_page.new.self.pool c.change_page.new.self.pool tt c.change_page.result
    (record { later = c.load_page.ensures.later; heeded = c.in-Ok.ensures.heeded; hands = c.load_page.ensures.grown; size = c.load_page.ensures.size })
    (record { later = c.change_page.ensures.later; heeded = c.change_page.ensures.heeded; hands = c.change_page.ensures.grown; size = c.change_page.ensures.size })

pub returns-clause-failed : goal.returns-clause-failed
returns-clause-failed g c o ds ps told e lies is =
    let h = c.in-Ok.ensures.goes_on o ds ps told e in
    risen_behind _ _ _ c.in-Ok.ensures.heeded (c.change_page.ensures.failed o h.durable h.waiting told h.engine is)
