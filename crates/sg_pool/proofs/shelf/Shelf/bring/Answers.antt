use Rattle.std.proofs.Common.{ℕ, Some, None, length, sym, ◌∙◌, ap, subst, le_trans}
use Rattle.std.proofs.lemmas.Result.{on_ok_weaker, IfErr-weaker, err_from_is_err_and}
use Rattle.sg_base.specs.declared.area.Area.TheVariants.{Home}
use Rattle.sg_frames.specs.Held.{Held}
use Rattle.sg_gate.specs.Layout.{home_at}
use Rattle.sg_pool.specs.Units.{page_at, IsBacked, IsCleaned, Geometry}
use Rattle.sg_pool.specs.Moments.{IsMoment, IsSameOrForced}
use Rattle.sg_pool.specs.Held.{page_in, since_of}
use Rattle.sg_pool.specs.Shelves.{geometry_of, units, lasts, LoadFails, BringFails}
use Rattle.sg_pool.specs.Well.{IsWell}
use Rattle.sg_pool.specs.declared.fault.PoolFault.{PoolFault}
use Rattle.sg_disk.specs.Disk.{State}
use Rattle.sg_pool.proofs.HomesKept.{untouched_then, own_home}
use Rattle.sg_pool.proofs.Counting.{grown_more, heeds_then}
use Rattle.sg_pool.proofs.Changing.{twice}
use Rattle.sg_pool.proofs.Bringing.{on_told, disk_told, on_told_weaker, log_now, then_reads, absent_still, cleaned_more, backed_in, at_home, bring_fails}
use Rattle.sg_pool.proofs.shelf.Shelf.bring.Goals as goal

pub load-requires-clause-absent : goal.load-requires-clause-absent
load-requires-clause-absent g c = let s = c.args.self.now in absent_still s.slots.items c.clean.new.self.slots.items c.args.f c.args.p c.requires.there s.shelf.apart c.in_ok-clean.ensures.slots c.requires.absent

pub returns-clause-slots : goal.returns-clause-slots
returns-clause-slots g c = let s = c.args.self.now in
    on_ok_weaker c.load.result (λ is. is ∙ twice s.slots.items c.clean.new.self.slots.items c.args.f (record { number = page_in s.slots.items c.args.f; since = None }) (record { number = Some c.args.p; since = None }) c.in_ok-clean.ensures.slots) c.load.ensures.slots

pub returns-clause-units : goal.returns-clause-units
returns-clause-units g c told apart backed =
    let s = c.args.self.now in let t = c.clean.new.self in
    let v = g.D.Disk.view c.args.disk.now in let w = g.D.Disk.view c.clean.new.disk in let z = g.D.Disk.view c.load.new.disk in
    let now = backed_in (geometry_of s) (geometry_of t) (w.now Home) (units (w.now Home).seen t) c.clean.ensures.geometry (c.in_ok-clean.ensures.backed told apart backed) in
    on_told_weaker c.load.result (IsCleaned (geometry_of t) (units (w.now Home).seen t) (units (z.now Home).seen c.load.new.self)) (IsCleaned (geometry_of s) (units (v.now Home).seen s) (units (z.now Home).seen c.load.new.self))
    (cleaned_more (geometry_of s) (geometry_of t) (units (v.now Home).seen s) (units (w.now Home).seen t) (units (z.now Home).seen c.load.new.self) c.clean.ensures.geometry (c.in_ok-clean.ensures.units told apart backed.ready))
    (c.load.ensures.units told now)

pub returns-clause-log : goal.returns-clause-log
returns-clause-log g c ds ps told apart ready holds =
    on_told c.load.result (IsSameOrForced (g.D.Disk.view c.load.new.disk) c.args.log.now c.clean.new.log ds ps)
    (log_now (g.D.Disk.view c.clean.new.disk) (g.D.Disk.view c.load.new.disk) c.args.log.now c.clean.new.log ds ps (c.load.ensures.unchanged told) (c.in_ok-clean.ensures.log ds ps told apart ready holds))

pub returns-clause-moments : goal.returns-clause-moments
returns-clause-moments g c ds ps told apart ready holds below =
    let s = c.args.self.now in
    let v = g.D.Disk.view c.args.disk.now in let w = g.D.Disk.view c.clean.new.disk in let z = g.D.Disk.view c.load.new.disk in
    then_reads v w z (IsMoment (geometry_of s) v c.args.log.now ds ps (lasts s) (units (v.now Home).seen s)) (c.clean.ensures.moments ds ps told apart ready holds below) (c.load.ensures.moments told)

pub returns-clause-faults : goal.returns-clause-faults
returns-clause-faults g c =
    let s = c.args.self.now in let t = c.clean.new.self in
    let v = g.D.Disk.view c.args.disk.now in let w = g.D.Disk.view c.clean.new.disk in let z = g.D.Disk.view c.load.new.disk in
    let still = absent_still s.slots.items t.slots.items c.args.f c.args.p c.requires.there s.shelf.apart c.in_ok-clean.ensures.slots c.requires.absent in
    IfErr-weaker c.load.result (LoadFails g.D.Disk.told c.args.p w z) (BringFails g.D.Disk.told c.args.log.now.area c.args.p v z s)
    (bring_fails g.D.Disk.told c.args.log.now.area c.args.p v w z s t c.clean.ensures.later c.requires.page
    (λ told apart backed. sym (at_home t.slots.items t.frames.pages c.args.p (page_at (w.now Home).seen (home_at c.args.p)) still) ∙ (c.in_ok-clean.ensures.units told apart backed.ready).page c.args.p c.requires.page))
    c.load.ensures.faults

pub returns-clause-others : goal.returns-clause-others
returns-clause-others g c h differ = c.load.ensures.others h differ ∙ c.clean.ensures.pages h

pub returns-clause-grown : goal.returns-clause-grown
returns-clause-grown g c = grown_more c.args.log.now c.clean.new.log (g.D.Disk.view c.args.disk.now) (g.D.Disk.view c.clean.new.disk) (g.D.Disk.view c.load.new.disk) c.clean.ensures.grown c.load.ensures.kept

pub returns-clause-heeded : goal.returns-clause-heeded
returns-clause-heeded g c = heeds_then {U = ℕ} 0 c.load.result (g.D.Disk.view c.args.disk.now) (g.D.Disk.view c.clean.new.disk) (g.D.Disk.view c.load.new.disk) c.in_ok-clean.ensures.heeded c.load.ensures.heeded

pub returns-clause-untouched : goal.returns-clause-untouched
returns-clause-untouched g c told apart backed =
    let s = c.args.self.now in let t = c.clean.new.self in
    let v = g.D.Disk.view c.args.disk.now in let w = g.D.Disk.view c.clean.new.disk in let z = g.D.Disk.view c.load.new.disk in
    let now = backed_in (geometry_of s) (geometry_of t) (w.now Home) (units (w.now Home).seen t) c.clean.ensures.geometry (c.in_ok-clean.ensures.backed told apart backed) in
    on_told_weaker c.load.result (IsCleaned (geometry_of t) (units (w.now Home).seen t) (units (z.now Home).seen c.load.new.self)) _
    (λ cleaned. untouched_then (geometry_of s) (v.now Home).seen (w.now Home).seen (z.now Home).seen (units (w.now Home).seen t) (units (z.now Home).seen c.load.new.self) (c.in_ok-clean.ensures.untouched told apart backed.ready)
    (ap (λ (u : State). (u Home).seen) (c.load.ensures.unchanged told)) (subst (λ (h : Geometry). IsCleaned h (units (w.now Home).seen t) (units (z.now Home).seen c.load.new.self)) c.clean.ensures.geometry cleaned))
    (c.load.ensures.units told now)

pub returns-clause-home : goal.returns-clause-home
returns-clause-home g c told apart backed =
    let s = c.args.self.now in let t = c.clean.new.self in
    let v = g.D.Disk.view c.args.disk.now in let w = g.D.Disk.view c.clean.new.disk in let z = g.D.Disk.view c.load.new.disk in
    on_told c.load.result _
    (ap (λ (u : State). page_at (u Home).seen (home_at c.args.p)) (c.load.ensures.unchanged told)
    ∙ own_home (geometry_of s) (v.now Home) (w.now Home) (units (v.now Home).seen s) (units (w.now Home).seen t) backed (c.in_ok-clean.ensures.backed told apart backed) (c.in_ok-clean.ensures.units told apart backed.ready) c.args.p c.requires.page
    (ap (since_of s.slots.items) c.requires.absent))

-- the frame's own page didn't come home, and nothing else was done
pub returns-in_err-clean : goal.returns-in_err-clean
returns-in_err-clean g c =
    let s = c.args.self.now in
    let v = g.D.Disk.view c.args.disk.now in let w = g.D.Disk.view c.clean.new.disk in
    let all = c.clean.ensures in let failed = c.in_err-clean.ensures in let e = c.in_err-clean.field-0.0 in
    let p = err_from_is_err_and c.from_residual.result c.from_residual.ensures.1 in
    rw (p.1, p.2) (record {
      slots = tt;
      count = sym c.clean.new.self.shelf.many ∙ (ap (λ (h : Held). length h.pages) all.frames ∙ s.shelf.many);
      others = λ h differ. all.pages h;
      wins = all.wins;
      windows = ap (λ (h : Held). h.windows) all.frames;
      geometry = all.geometry;
      backed = λ told apart backed. disk_told (Unit {0}) e _ failed.fault;
      units = λ told apart backed. disk_told (Unit {0}) e _ failed.fault;
      log = λ ds ps told apart ready holds. disk_told (Unit {0}) e _ failed.fault;
      moments = all.moments;
      well = λ told apart backed. tt;
      log_kept = all.log_kept;
      home = λ told apart backed. disk_told (Unit {0}) e _ failed.fault;
      untouched = λ told apart backed. disk_told (Unit {0}) e _ failed.fault;
      spared = all.spared;
      later = all.later;
      heeded = failed.heeded;
      kept = all.kept;
      grown = all.grown;
      faults = subst (λ (f : PoolFault). BringFails g.D.Disk.told c.args.log.now.area c.args.p v w s f) (sym failed.fault) failed.failed;
    })

pub returns-clause-wins : goal.returns-clause-wins
returns-clause-wins g c = c.load.ensures.wins ∙ c.clean.ensures.wins

pub returns-clause-windows : goal.returns-clause-windows
returns-clause-windows g c = c.load.ensures.windows ∙ ap (λ (h : Held). h.windows) c.clean.ensures.frames

pub returns-clause-geometry : goal.returns-clause-geometry
returns-clause-geometry g c = c.load.ensures.geometry ∙ c.clean.ensures.geometry

pub returns-clause-backed : goal.returns-clause-backed
returns-clause-backed g c told apart backed =
    let s = c.args.self.now in let t = c.clean.new.self in
    let w = g.D.Disk.view c.clean.new.disk in let z = g.D.Disk.view c.load.new.disk in
    let now = backed_in (geometry_of s) (geometry_of t) (w.now Home) (units (w.now Home).seen t) c.clean.ensures.geometry (c.in_ok-clean.ensures.backed told apart backed) in
    on_told_weaker c.load.result (IsBacked (geometry_of t) (z.now Home) (units (z.now Home).seen c.load.new.self)) (IsBacked (geometry_of s) (z.now Home) (units (z.now Home).seen c.load.new.self))
    (subst (λ (h : Geometry). IsBacked h (z.now Home) (units (z.now Home).seen c.load.new.self)) c.clean.ensures.geometry)
    (c.load.ensures.backed told now)

pub returns-clause-well : goal.returns-clause-well
returns-clause-well g c told apart backed =
    let s = c.args.self.now in let t = c.clean.new.self in
    let home = page_at ((g.D.Disk.view c.clean.new.disk).now Home).seen (home_at c.args.p) in
    let still = absent_still s.slots.items t.slots.items c.args.f c.args.p c.requires.there s.shelf.apart c.in_ok-clean.ensures.slots c.requires.absent in
    on_ok_weaker c.load.result (subst IsWell (sym (at_home t.slots.items t.frames.pages c.args.p home still) ∙ (c.in_ok-clean.ensures.units told apart backed.ready).page c.args.p c.requires.page)) (c.load.ensures.well told)

pub returns-clause-log_kept : goal.returns-clause-log_kept
returns-clause-log_kept g c = c.clean.ensures.log_kept

pub returns-clause-spared : goal.returns-clause-spared
returns-clause-spared g c = c.clean.ensures.spared

pub returns-clause-later : goal.returns-clause-later
returns-clause-later g c = le_trans c.clean.ensures.later c.load.ensures.later

pub returns-clause-kept : goal.returns-clause-kept
returns-clause-kept g c = le_trans c.clean.ensures.kept c.load.ensures.kept
