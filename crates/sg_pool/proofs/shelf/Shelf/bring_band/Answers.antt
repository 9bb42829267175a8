use Rattle.std.proofs.Common.{ℕ, ◌∙◌, arith, ap, subst, le_trans}
use Rattle.std.proofs.lemmas.Result.{on_ok_weaker, err_from_is_err_and}
use Rattle.sg_base.specs.declared.area.Area.TheVariants.{Home}
use Rattle.sg_frames.specs.Held.{Held}
use Rattle.sg_pool.specs.Moments.{IsMoment}
use Rattle.sg_pool.specs.Shelves.{geometry_of, units, lasts}
use Rattle.sg_disk.specs.Disk.{State}
use Rattle.sg_pool.specs.Held.{since_of}
use Rattle.sg_pool.specs.Units.{Geometry, IsBacked, IsCleaned, band_byte}
use Rattle.sg_pool.proofs.HomesKept.{untouched_then, own_bytes}
use Rattle.sg_pool.proofs.Counting.{grown_more, heeds_then}
use Rattle.sg_pool.proofs.BandsHome.{lasts_twice, gone_kept, on_ok_all}
use Rattle.sg_pool.proofs.Bringing.{log_now, then_reads, cleaned_more, backed_in}
use Rattle.sg_pool.proofs.Clearing.{frames_same}
use Rattle.sg_pool.proofs.shelf.Shelf.bring_band.Goals as goal

pub load_band-requires-clause-absent : goal.load_band-requires-clause-absent
load_band-requires-clause-absent g c = let s = c.args.self.now in let clear = c.in_ok-clean_window.ensures.clear in
    frames_same s.wins.slots.items c.clean_window.new.self.wins.slots.items clear.count clear.numbers s.wins.windows.apart c.args.b ∙ c.requires.absent

pub load_band-requires-clause-clean : goal.load_band-requires-clause-clean
load_band-requires-clause-clean g c = c.in_ok-clean_window.ensures.clear.cleared c.args.w (omega arith) (omega arith)

pub returns-clause-units : goal.returns-clause-units
returns-clause-units g c told apart backed =
    let s = c.args.self.now in let t = c.clean_window.new.self in
    let v = g.D.Disk.view c.args.disk.now in let w = g.D.Disk.view c.clean_window.new.disk in let z = g.D.Disk.view c.load_band.new.disk in
    let now = backed_in (geometry_of s) (geometry_of t) (w.now Home) (units (w.now Home).seen t) c.clean_window.ensures.geometry (c.in_ok-clean_window.ensures.backed told apart backed) in
    on_ok_weaker c.load_band.result (cleaned_more (geometry_of s) (geometry_of t) (units (v.now Home).seen s) (units (w.now Home).seen t) (units (z.now Home).seen c.load_band.new.self) c.clean_window.ensures.geometry (c.in_ok-clean_window.ensures.units told apart backed))
    (c.load_band.ensures.units told now)

pub returns-clause-moments : goal.returns-clause-moments
returns-clause-moments g c ds ps told apart ready holds logged =
    let s = c.args.self.now in
    let v = g.D.Disk.view c.args.disk.now in let w = g.D.Disk.view c.clean_window.new.disk in let z = g.D.Disk.view c.load_band.new.disk in
    then_reads v w z (IsMoment (geometry_of s) v c.args.log.now ds ps (lasts s) (units (v.now Home).seen s)) (c.clean_window.ensures.moments ds ps told apart ready holds logged) (c.load_band.ensures.moments told)

pub returns-clause-log : goal.returns-clause-log
returns-clause-log g c ds ps told apart holds =
    on_ok_weaker c.load_band.result (λ held. log_now (g.D.Disk.view c.clean_window.new.disk) (g.D.Disk.view c.load_band.new.disk) c.args.log.now c.clean_window.new.log ds ps (c.load_band.ensures.unchanged told) (c.in_ok-clean_window.ensures.log ds ps told apart holds)) c.load_band.ensures.held

pub returns-clause-lasts : goal.returns-clause-lasts
returns-clause-lasts g c = lasts_twice c.args.self.now.wins c.clean_window.new.self.wins c.load_band.new.self.wins c.clean_window.ensures.lasts c.load_band.ensures.lasts

pub returns-clause-gone : goal.returns-clause-gone
returns-clause-gone g c logged = on_ok_weaker c.load_band.result (λ kept. gone_kept c.clean_window.new.log.gate c.args.self.now.wins c.clean_window.new.self.wins c.load_band.new.self.wins (c.in_ok-clean_window.ensures.gone logged) kept) c.load_band.ensures.changes

pub returns-clause-grown : goal.returns-clause-grown
returns-clause-grown g c = grown_more c.args.log.now c.clean_window.new.log (g.D.Disk.view c.args.disk.now) (g.D.Disk.view c.clean_window.new.disk) (g.D.Disk.view c.load_band.new.disk) c.clean_window.ensures.grown c.load_band.ensures.kept

pub returns-clause-heeded : goal.returns-clause-heeded
returns-clause-heeded g c = heeds_then {U = ℕ} 0 c.load_band.result (g.D.Disk.view c.args.disk.now) (g.D.Disk.view c.clean_window.new.disk) (g.D.Disk.view c.load_band.new.disk) c.in_ok-clean_window.ensures.heeded c.load_band.ensures.heeded

pub returns-clause-count : goal.returns-clause-count
returns-clause-count g c = c.load_band.ensures.count ∙ c.clean_window.ensures.count

pub returns-clause-untouched : goal.returns-clause-untouched
returns-clause-untouched g c told apart backed =
    let s = c.args.self.now in let t = c.clean_window.new.self in
    let v = g.D.Disk.view c.args.disk.now in let w = g.D.Disk.view c.clean_window.new.disk in let z = g.D.Disk.view c.load_band.new.disk in
    let now = backed_in (geometry_of s) (geometry_of t) (w.now Home) (units (w.now Home).seen t) c.clean_window.ensures.geometry (c.in_ok-clean_window.ensures.backed told apart backed) in
    on_ok_weaker c.load_band.result (λ (cleaned : IsCleaned (geometry_of t) (units (w.now Home).seen t) (units (z.now Home).seen c.load_band.new.self)).
    untouched_then (geometry_of s) (v.now Home).seen (w.now Home).seen (z.now Home).seen (units (w.now Home).seen t) (units (z.now Home).seen c.load_band.new.self) (c.in_ok-clean_window.ensures.untouched told apart backed)
    (ap (λ (u : State). (u Home).seen) (c.load_band.ensures.unchanged told)) (subst (λ (h : Geometry). IsCleaned h (units (w.now Home).seen t) (units (z.now Home).seen c.load_band.new.self)) c.clean_window.ensures.geometry cleaned))
    (c.load_band.ensures.units told now)

pub returns-clause-home : goal.returns-clause-home
returns-clause-home g c told apart backed =
    let s = c.args.self.now in let t = c.clean_window.new.self in
    let v = g.D.Disk.view c.args.disk.now in let w = g.D.Disk.view c.clean_window.new.disk in
    on_ok_all c.load_band.result _ (λ i small. ap (λ (u : State). (u Home).seen (band_byte (geometry_of s) c.args.b i)) (c.load_band.ensures.unchanged told)
    ∙ own_bytes (geometry_of s) (v.now Home) (w.now Home) (units (v.now Home).seen s) (units (w.now Home).seen t) backed (c.in_ok-clean_window.ensures.backed told apart backed) (c.in_ok-clean_window.ensures.units told apart backed) c.args.b c.requires.band
    (ap (since_of s.wins.slots.items) c.requires.absent) i small)

-- the window's own band didn't come home, and nothing else was done
pub returns-in_err-clean_window : goal.returns-in_err-clean_window
returns-in_err-clean_window g c =
    let all = c.clean_window.ensures in let failed = c.in_err-clean_window.ensures in
    let p = err_from_is_err_and c.from_residual.result c.from_residual.ensures.1 in
    rw (p.1, p.2) (record {
      held = tt;
      others = tt;
      slots = all.slots;
      lasts = all.lasts;
      geometry = all.geometry;
      pages = ap (λ (h : Held). h.pages) all.frames;
      backed = λ told apart backed. tt;
      units = λ told apart backed. tt;
      log = λ ds ps told apart holds. tt;
      moments = all.moments;
      gone = λ logged. tt;
      log_kept = all.log_kept;
      home = λ told apart backed. tt;
      spared = all.spared;
      count = all.count;
      untouched = λ told apart backed. tt;
      later = all.later;
      heeded = failed.heeded;
      kept = all.kept;
      grown = all.grown;
      failed = failed.failed;
      fault = failed.fault;
    })

pub returns-clause-slots : goal.returns-clause-slots
returns-clause-slots g c = c.load_band.ensures.slots ∙ c.clean_window.ensures.slots

pub returns-clause-geometry : goal.returns-clause-geometry
returns-clause-geometry g c = c.load_band.ensures.geometry ∙ c.clean_window.ensures.geometry

pub returns-clause-pages : goal.returns-clause-pages
returns-clause-pages g c = c.load_band.ensures.pages ∙ ap (λ (h : Held). h.pages) c.clean_window.ensures.frames

pub returns-clause-backed : goal.returns-clause-backed
returns-clause-backed g c told apart backed =
    let s = c.args.self.now in let t = c.clean_window.new.self in
    let w = g.D.Disk.view c.clean_window.new.disk in let z = g.D.Disk.view c.load_band.new.disk in
    let now = backed_in (geometry_of s) (geometry_of t) (w.now Home) (units (w.now Home).seen t) c.clean_window.ensures.geometry (c.in_ok-clean_window.ensures.backed told apart backed) in
    on_ok_weaker c.load_band.result (subst (λ (h : Geometry). IsBacked h (z.now Home) (units (z.now Home).seen c.load_band.new.self)) c.clean_window.ensures.geometry) (c.load_band.ensures.backed told now)

pub returns-clause-log_kept : goal.returns-clause-log_kept
returns-clause-log_kept g c = c.clean_window.ensures.log_kept

pub returns-clause-spared : goal.returns-clause-spared
returns-clause-spared g c = c.clean_window.ensures.spared

pub returns-clause-later : goal.returns-clause-later
returns-clause-later g c = le_trans c.clean_window.ensures.later c.load_band.ensures.later

pub returns-clause-kept : goal.returns-clause-kept
returns-clause-kept g c = le_trans c.clean_window.ensures.kept c.load_band.ensures.kept
