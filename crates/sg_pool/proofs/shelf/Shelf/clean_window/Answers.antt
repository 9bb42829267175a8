use Rattle.std.proofs.Common.{◌≡◌, ◌<◌, ◌+◌, ℕ, Some, refl, sym, ◌∙◌, ap, subst, arith}
use Rattle.sg_pool.specs.Held.{since_of}
use Rattle.sg_pool.specs.Windows.{last_in}
use Rattle.std.proofs.lemmas.Result.{err_from_is_err_and}
use Rattle.sg_base.specs.declared.area.Area.TheVariants.{Home}
use Rattle.sg_pool.specs.Bands.{AreCleared}
use Rattle.sg_pool.specs.Shelves.{geometry_of}
use Rattle.sg_pool.proofs.HomesKept.{bands_untouched}
use Rattle.sg_pool.proofs.BandsHome.{bands_cleaned, bands_backed, cleared_lasts, cleared_gone}
use Rattle.sg_pool.proofs.shelf.Shelf.clean_window.Goals as goal

pub returns-clause-backed : goal.returns-clause-backed
returns-clause-backed g c told apart backed =
    let s = c.args.self.now in let v = g.D.Disk.view c.args.disk.now in let z = g.D.Disk.view c.write_back_window.new.disk in
    let clear : AreCleared s.wins c.clear.new.self c.args.w (c.args.w + 1) = record { count = c.clear.ensures.count; numbers = c.clear.ensures.numbers; cleared = c.clear.ensures.cleared; unmarked = c.clear.ensures.unmarked; others = c.clear.ensures.others; other_marks = c.clear.ensures.other_marks } in
    bands_backed (geometry_of s) s.wins c.args.w (c.args.w + 1) s.slots.items s.frames c.clear.new.self clear (v.now Home) (z.now Home) (c.in_ok-write_back_window.ensures.home told apart backed) backed

pub returns-clause-units : goal.returns-clause-units
returns-clause-units g c told apart backed =
    let s = c.args.self.now in let v = g.D.Disk.view c.args.disk.now in let z = g.D.Disk.view c.write_back_window.new.disk in
    let clear : AreCleared s.wins c.clear.new.self c.args.w (c.args.w + 1) = record { count = c.clear.ensures.count; numbers = c.clear.ensures.numbers; cleared = c.clear.ensures.cleared; unmarked = c.clear.ensures.unmarked; others = c.clear.ensures.others; other_marks = c.clear.ensures.other_marks } in
    bands_cleaned (geometry_of s) s.wins c.args.w (c.args.w + 1) s.slots.items s.frames c.clear.new.self clear (v.now Home) (z.now Home) (c.in_ok-write_back_window.ensures.home told apart backed)

pub returns-clause-lasts : goal.returns-clause-lasts
returns-clause-lasts g c = let s = c.args.self.now in
    let clear : AreCleared s.wins c.clear.new.self c.args.w (c.args.w + 1) = record { count = c.clear.ensures.count; numbers = c.clear.ensures.numbers; cleared = c.clear.ensures.cleared; unmarked = c.clear.ensures.unmarked; others = c.clear.ensures.others; other_marks = c.clear.ensures.other_marks } in
    cleared_lasts s.wins c.clear.new.self c.args.w (c.args.w + 1) clear

pub returns-clause-gone : goal.returns-clause-gone
returns-clause-gone g c logged = let s = c.args.self.now in
    let clear : AreCleared s.wins c.clear.new.self c.args.w (c.args.w + 1) = record { count = c.clear.ensures.count; numbers = c.clear.ensures.numbers; cleared = c.clear.ensures.cleared; unmarked = c.clear.ensures.unmarked; others = c.clear.ensures.others; other_marks = c.clear.ensures.other_marks } in
    cleared_gone s.wins c.clear.new.self c.args.w (c.args.w + 1) clear c.write_back_window.new.log.gate (λ v k low high had.
    let e : v ≡ c.args.w = omega (arith, low, high) in
    subst (λ (y : ℕ). last_in s.wins.marks.items (Some y) < c.write_back_window.new.log.gate) (sym e) (c.in_ok-write_back_window.ensures.gone logged k (ap (λ (y : ℕ). since_of s.wins.slots.items (Some y)) (sym e) ∙ had)))

pub returns-clause-untouched : goal.returns-clause-untouched
returns-clause-untouched g c told apart backed =
    let s = c.args.self.now in let v = g.D.Disk.view c.args.disk.now in let z = g.D.Disk.view c.write_back_window.new.disk in
    let clear : AreCleared s.wins c.clear.new.self c.args.w (c.args.w + 1) = record { count = c.clear.ensures.count; numbers = c.clear.ensures.numbers; cleared = c.clear.ensures.cleared; unmarked = c.clear.ensures.unmarked; others = c.clear.ensures.others; other_marks = c.clear.ensures.other_marks } in
    bands_untouched (geometry_of s) s.wins c.args.w (c.args.w + 1) s.slots.items s.frames c.clear.new.self clear (v.now Home) (z.now Home) (c.in_ok-write_back_window.ensures.home told apart backed)

-- the window's band didn't come home, and nothing else was done
pub returns-in_err-write_back_window : goal.returns-in_err-write_back_window
returns-in_err-write_back_window g c =
    let all = c.write_back_window.ensures in let failed = c.in_err-write_back_window.ensures in
    let p = err_from_is_err_and c.from_residual.result c.from_residual.ensures.1 in
    rw (p.1, p.2) (record {
      clear = tt;
      frames = refl;
      slots = refl;
      lasts = λ b o since. (since, refl);
      geometry = refl;
      backed = λ told apart backed. tt;
      units = λ told apart backed. tt;
      log = λ ds ps told apart holds. tt;
      moments = all.moments;
      gone = λ logged. tt;
      log_kept = all.log_kept;
      spared = all.spared;
      count = refl;
      untouched = λ told apart backed. tt;
      later = all.later;
      heeded = failed.heeded;
      kept = all.kept;
      grown = all.grown;
      failed = failed.failed;
      fault = failed.fault;
    })

pub returns-clause-clear : goal.returns-clause-clear
returns-clause-clear g c = record { count = c.clear.ensures.count; numbers = c.clear.ensures.numbers; cleared = c.clear.ensures.cleared; unmarked = c.clear.ensures.unmarked; others = c.clear.ensures.others; other_marks = c.clear.ensures.other_marks }

pub returns-clause-log : goal.returns-clause-log
returns-clause-log g c = c.in_ok-write_back_window.ensures.log

pub returns-clause-moments : goal.returns-clause-moments
returns-clause-moments g c = c.write_back_window.ensures.moments

pub returns-clause-spared : goal.returns-clause-spared
returns-clause-spared g c = c.write_back_window.ensures.spared

pub returns-clause-grown : goal.returns-clause-grown
returns-clause-grown g c = c.write_back_window.ensures.grown
