use Rattle.std.proofs.Common.{◌≡◌, inl, ◌++◌, [], length, OnOk, Err, sym, ◌∙◌, ap, subst, ℕ, Some, List, le_trans}
use Rattle.std.proofs.lemmas.Result.{on_ok_weaker, err_from_is_err_and}
use Rattle.sg_base.specs.declared.area.Area.TheVariants.{Home}
use Rattle.sg_disk.specs.Disk.{Image, Part, LeavesOnly}
use Rattle.sg_disk.proofs.Moments.{weaker}
use Rattle.sg_gate.specs.Batch.{IsReady}
use Rattle.sg_log.specs.Held.{Tail, Holds}
use Rattle.sg_log.proofs.Runs.{failed_later}
use Rattle.sg_window.specs.Runs.{IsTorn}
use Rattle.sg_pool.specs.Bands.{IsDirty, AreCleared}
use Rattle.sg_pool.specs.Frames.{AreBelow}
use Rattle.sg_pool.specs.declared.windows.Windows.{Windows}
use Rattle.sg_pool.specs.Shelves.{geometry_of, units}
use Rattle.sg_pool.specs.Units.{Geometry, IsBacked, IsCleaned}
use Rattle.sg_pool.specs.declared.slot.Slot.{Slot}
use Rattle.sg_pool.specs.Held.{page_in, since_of}
use Rattle.sg_pool.proofs.Oldest.{on_ok_two}
use Rattle.sg_pool.proofs.HomesKept.{all_untouched, all_cleared}
use Rattle.sg_pool.proofs.Counting.{grown_more, heeds_then}
use Rattle.sg_pool.proofs.Bringing.{cleaned_more, backed_in, risen_more}
use Rattle.sg_pool.proofs.Forcing.{is_forced}
use Rattle.sg_pool.proofs.Settling.{holds_at}
use Rattle.sg_pool.proofs.FlushingAll.{force_then_pages, then_windows}
use Rattle.sg_pool.proofs.shelf.Shelf.flush.Goals as goal

pub returns-in-Err-clause-moments : goal.returns-in-Err-clause-moments
returns-in-Err-clause-moments g c ds ps told apart backed holds below logged = weaker (c.force.ensures.any_moment ds ps told holds) (λ (im : Image) before. inl before)

pub returns-clause-moments : goal.returns-clause-moments
returns-clause-moments g c ds ps told apart backed holds below logged =
    let s = c.args.self.now in let now = c.force.new.self in let t = c.flush_pages.new.self in
    let v = g.D.Disk.view c.args.disk.now in let w = g.D.Disk.view c.force.new.disk in let z = g.D.Disk.view c.flush_pages.new.disk in let y = g.D.Disk.view c.flush_windows.new.disk in
    let same = c.in-Ok.ensures.elsewhere told in
    let there : IsReady (w.now Home) = subst IsReady (sym (same Home (λ e. apart (sym e)))) backed.ready in
    let after = subst (λ (t : Tail). Holds w t (ds ++ ps) []) c.in-Ok.ensures.log (c.in-Ok.ensures.holds ds ps told holds) in
    let first = force_then_pages (geometry_of s) s.slots.items s.wins s.frames s.shelf.apart v w c.args.log.now now ds ps apart same c.in-Ok.ensures.log after backed below z
    (c.force.ensures.any_moment ds ps told holds) (c.flush_pages.ensures.moments told there) in
    let partly = c.in_ok-flush_pages.ensures.partly told there in
    let run = subst (λ (h : Geometry). LeavesOnly z y (IsTorn z.now (IsDirty h t.wins 0 (length t.wins.slots.items)))) c.flush_pages.ensures.kept.geometry (c.flush_windows.ensures.any_moment told) in
    let run_in = subst (λ (ws : Windows). LeavesOnly z y (IsTorn z.now (IsDirty (geometry_of s) ws 0 (length ws.slots.items)))) c.flush_pages.ensures.kept.wins run in
    then_windows (geometry_of s) s.slots.items s.wins s.frames s.shelf.apart v w c.args.log.now now ds ps apart same c.in-Ok.ensures.log after backed below z y
    first (c.in_ok-flush_pages.ensures.logs told there) partly.0 partly.1 logged run_in

pub returns-clause-units : goal.returns-clause-units
returns-clause-units g c told apart ready =
    let s = c.args.self.now in let t = c.flush_pages.new.self in
    let v = g.D.Disk.view c.args.disk.now in let w = g.D.Disk.view c.force.new.disk in let z = g.D.Disk.view c.flush_pages.new.disk in let y = g.D.Disk.view c.flush_windows.new.disk in
    let home : w.now Home ≡ v.now Home = c.in-Ok.ensures.elsewhere told Home (λ e. apart (sym e)) in
    let there : IsReady (w.now Home) = subst IsReady (sym home) ready in
    let first = subst (λ (p : Part). IsCleaned (geometry_of s) (units p.seen s) (units (z.now Home).seen t)) home (c.in_ok-flush_pages.ensures.units told there) in
    on_ok_weaker c.flush_windows.result (cleaned_more (geometry_of s) (geometry_of t) (units (v.now Home).seen s) (units (z.now Home).seen t) (units (y.now Home).seen c.flush_windows.new.self) c.flush_pages.ensures.kept.geometry first)
    (c.flush_windows.ensures.units told (c.in_ok-flush_pages.ensures.partly told there).0)

pub returns-clause-holds : goal.returns-clause-holds
returns-clause-holds g c ds ps told apart ready holds =
    let now = c.force.new.self in
    let v = g.D.Disk.view c.args.disk.now in let w = g.D.Disk.view c.force.new.disk in let y = g.D.Disk.view c.flush_windows.new.disk in
    let home : w.now Home ≡ v.now Home = c.in-Ok.ensures.elsewhere told Home (λ e. apart (sym e)) in
    let there : IsReady (w.now Home) = subst IsReady (sym home) ready in
    let area : now.area ≡ c.args.log.now.area = ap (λ (t : Tail). t.area) c.in-Ok.ensures.log ∙ (is_forced c.args.log.now).area in
    let not_home : now.area ≡ Home → ⊥ = λ e. apart (sym area ∙ e) in
    on_ok_weaker c.flush_windows.result (λ logs. holds_at w y now (ds ++ ps) [] (logs now.area not_home ∙ c.in_ok-flush_pages.ensures.logs told there now.area not_home) (c.in-Ok.ensures.holds ds ps told holds)) (c.flush_windows.ensures.logs told)

pub returns-clause-logged : goal.returns-clause-logged
returns-clause-logged g c tail below = c.flush_windows.ensures.logged tail (subst (λ (x : Windows). AreBelow tail x) (sym c.flush_pages.ensures.kept.wins) below)

pub returns-clause-grown : goal.returns-clause-grown
returns-clause-grown g c =
    let v = g.D.Disk.view c.args.disk.now in let z = g.D.Disk.view c.flush_pages.new.disk in
    grown_more c.args.log.now c.force.new.self v z (g.D.Disk.view c.flush_windows.new.disk) (grown_more c.args.log.now c.force.new.self v (g.D.Disk.view c.force.new.disk) z c.force.ensures.grown c.flush_pages.ensures.handed) c.flush_windows.ensures.kept

pub returns-clause-count_windows : goal.returns-clause-count_windows
returns-clause-count_windows g c = c.flush_windows.ensures.count ∙ ap (λ (x : Windows). length x.slots.items) c.flush_pages.ensures.kept.wins

pub returns-clause-heeded : goal.returns-clause-heeded
returns-clause-heeded g c = heeds_then {U = ℕ} 0 c.flush_windows.result (g.D.Disk.view c.args.disk.now) (g.D.Disk.view c.flush_pages.new.disk) (g.D.Disk.view c.flush_windows.new.disk) (c.in_ok-flush_pages.ensures.heeded ∙ c.in-Ok.ensures.heeded) c.flush_windows.ensures.heeded

pub returns-clause-untouched : goal.returns-clause-untouched
returns-clause-untouched g c told apart ready =
    let s = c.args.self.now in let t = c.flush_pages.new.self in let u = c.flush_windows.new.self in
    let v = g.D.Disk.view c.args.disk.now in let w = g.D.Disk.view c.force.new.disk in let z = g.D.Disk.view c.flush_pages.new.disk in let y = g.D.Disk.view c.flush_windows.new.disk in
    let home : w.now Home ≡ v.now Home = c.in-Ok.ensures.elsewhere told Home (λ e. apart (sym e)) in
    let partly = c.in_ok-flush_pages.ensures.partly told (subst IsReady (sym home) ready) in
    on_ok_two c.flush_windows.result _ _ _ (λ clear superblock. all_untouched (geometry_of s) (geometry_of u) (v.now Home).seen (y.now Home).seen u.slots.items u.wins u.frames
    (λ i low. superblock i low ∙ (partly.1.superblock i low ∙ ap (λ (p : Part). p.seen i) home))
    (λ h. ap (λ (l : List Slot). since_of l (Some h)) c.flush_windows.ensures.slots ∙ c.in_ok-flush_pages.ensures.clean h) (all_cleared t.wins u.wins clear))
    c.flush_windows.ensures.clear (c.flush_windows.ensures.superblock told partly.0)

-- some page didn't come home, and nothing else was done
pub returns-in_err-flush_pages : goal.returns-in_err-flush_pages
returns-in_err-flush_pages g c =
    let s = c.args.self.now in let now = c.force.new.self in
    let v = g.D.Disk.view c.args.disk.now in let w = g.D.Disk.view c.force.new.disk in let z = g.D.Disk.view c.flush_pages.new.disk in
    let all = c.flush_pages.ensures in let failed = c.in_err-flush_pages.ensures in
    let p = err_from_is_err_and c.from_residual.result c.from_residual.ensures.1 in
    rw (p.1, p.2) (record {
      clean = tt;
      clear = tt;
      count = all.kept.count;
      pages = all.kept.pages;
      bands = λ x. ap (λ (ws : Windows). page_in ws.slots.items x) all.kept.wins;
      frames = all.kept.frames;
      logged = λ tail below. subst (λ (ws : Windows). AreBelow tail ws) (sym all.kept.wins) below;
      geometry = all.kept.geometry;
      backed = λ told apart backed. tt;
      units = λ told apart ready. tt;
      log = tt;
      count_windows = ap (λ (ws : Windows). length ws.slots.items) all.kept.wins;
      untouched = λ told apart ready. tt;
      holds = λ ds ps told apart ready holds. tt;
      moments = λ ds ps told apart backed holds below logged.
          let same = c.in-Ok.ensures.elsewhere told in
          let there : IsReady (w.now Home) = subst IsReady (sym (same Home (λ e. apart (sym e)))) backed.ready in
          let after = subst (λ (t : Tail). Holds w t (ds ++ ps) []) c.in-Ok.ensures.log (c.in-Ok.ensures.holds ds ps told holds) in
          force_then_pages (geometry_of s) s.slots.items s.wins s.frames s.shelf.apart v w c.args.log.now now ds ps apart same c.in-Ok.ensures.log after backed below z
          (c.force.ensures.any_moment ds ps told holds) (all.moments told there);
      later = le_trans c.force.ensures.later all.later;
      heeded = heeds_then {U = ℕ} {T = Unit {0}} 0 (Err c.in_err-flush_pages.field-0.0) v w z c.in-Ok.ensures.heeded failed.heeded;
      kept = le_trans c.force.ensures.kept all.handed;
      grown = grown_more c.args.log.now now v w z c.force.ensures.grown all.handed;
      failed = risen_more v.faults w.faults z.faults c.force.ensures.later failed.failed;
      fault = failed.fault;
    })

pub returns-clause-clean : goal.returns-clause-clean
returns-clause-clean g c = on_ok_weaker c.flush_windows.result (λ clear h. ap (λ (l : List Slot). since_of l (Some h)) c.flush_windows.ensures.slots ∙ c.in_ok-flush_pages.ensures.clean h) c.flush_windows.ensures.clear

pub returns-clause-clear : goal.returns-clause-clear
returns-clause-clear g c =
    subst (λ (ws : Windows). OnOk c.flush_windows.result (AreCleared ws c.flush_windows.new.self.wins 0 (length ws.slots.items))) c.flush_pages.ensures.kept.wins c.flush_windows.ensures.clear

pub returns-clause-count : goal.returns-clause-count
returns-clause-count g c = ap length c.flush_windows.ensures.slots ∙ c.flush_pages.ensures.kept.count

pub returns-clause-pages : goal.returns-clause-pages
returns-clause-pages g c h = ap (λ (l : List Slot). page_in l h) c.flush_windows.ensures.slots ∙ c.flush_pages.ensures.kept.pages h

pub returns-clause-bands : goal.returns-clause-bands
returns-clause-bands g c w = c.flush_windows.ensures.bands w ∙ ap (λ (ws : Windows). page_in ws.slots.items w) c.flush_pages.ensures.kept.wins

pub returns-clause-frames : goal.returns-clause-frames
returns-clause-frames g c = c.flush_windows.ensures.frames ∙ c.flush_pages.ensures.kept.frames

pub returns-clause-geometry : goal.returns-clause-geometry
returns-clause-geometry g c = c.flush_windows.ensures.geometry ∙ c.flush_pages.ensures.kept.geometry

pub returns-clause-backed : goal.returns-clause-backed
returns-clause-backed g c told apart backed =
    let s = c.args.self.now in let t = c.flush_pages.new.self in
    let z = g.D.Disk.view c.flush_pages.new.disk in let y = g.D.Disk.view c.flush_windows.new.disk in
    let home = c.in-Ok.ensures.elsewhere told Home (λ e. apart (sym e)) in
    let there = subst (λ (p : Part). IsBacked (geometry_of s) p (units p.seen s)) (sym home) backed in
    let now = backed_in (geometry_of s) (geometry_of t) (z.now Home) (units (z.now Home).seen t) c.flush_pages.ensures.kept.geometry (c.in_ok-flush_pages.ensures.backed told there) in
    on_ok_weaker c.flush_windows.result (subst (λ (h : Geometry). IsBacked h (y.now Home) (units (y.now Home).seen c.flush_windows.new.self)) c.flush_pages.ensures.kept.geometry) (c.flush_windows.ensures.backed told now)

pub returns-clause-log : goal.returns-clause-log
returns-clause-log g c = on_ok_weaker c.flush_windows.result (λ clear. c.in-Ok.ensures.log) c.flush_windows.ensures.clear

pub returns-clause-later : goal.returns-clause-later
returns-clause-later g c = le_trans c.force.ensures.later (le_trans c.flush_pages.ensures.later c.flush_windows.ensures.later)

pub returns-clause-kept : goal.returns-clause-kept
returns-clause-kept g c = le_trans c.force.ensures.kept (le_trans c.flush_pages.ensures.handed c.flush_windows.ensures.kept)

pub returns-clause-failed : goal.returns-clause-failed
returns-clause-failed g c =
    let v = g.D.Disk.view c.args.disk.now in let z = g.D.Disk.view c.flush_pages.new.disk in let y = g.D.Disk.view c.flush_windows.new.disk in
    failed_later v.faults z.faults y.faults c.flush_windows.result (le_trans c.force.ensures.later c.flush_pages.ensures.later) c.flush_windows.ensures.failed
