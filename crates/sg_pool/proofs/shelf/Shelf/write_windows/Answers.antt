use Rattle.std.proofs.Common.{◌≡◌, ◌≤◌, ◌<◌, ℕ, refl, ◌∙◌, arith, subst}
use Rattle.sg_disk.specs.Disk.{Image}
use Rattle.sg_disk.proofs.Moments.{weaker, joined}
use Rattle.sg_pool.specs.Bands.{AreBandsWritten}
use Rattle.sg_pool.specs.Shelves.{geometry_of}
use Rattle.sg_pool.proofs.Banding.{bands_start, bands_more, bands_torn, none_torn}
use Rattle.sg_pool.proofs.shelf.Shelf.write_windows.Goals as goal

pub windows-init : goal.windows-init
windows-init g c = let s = c.args.self.now in let v = g.D.Disk.view c.args.disk.now in
    record {
      later = omega arith;
      quiet = refl;
      kept = omega arith;
      done = λ told. bands_start (geometry_of s) s.wins s.frames.windows v.now c.args.from c.args.from (λ w b low high held. absurd (omega arith));
      moments = λ told. none_torn (geometry_of s) s.wins s.frames.windows v c.args.from c.args.to;
    }

pub returns-in_err-write_window-clause-any_moment : goal.returns-in_err-write_window-clause-any_moment
returns-in_err-write_window-clause-any_moment g c told =
    let s = c.args.self.now in let inv = c.windows.invariant in
    let v = g.D.Disk.view c.args.disk.now in let t = g.D.Disk.view c.windows.disk in
    let low : c.args.from ≤ c.windows.w = omega arith in let high : c.windows.w < c.args.to = omega arith in
    joined (inv.moments told) (weaker (c.write_window.ensures.any_moment told) (λ (im : Image) torn. bands_torn (geometry_of s) s.wins s.frames.windows v.now t.now c.args.from c.windows.w c.args.to im low high (inv.done told).rest torn))

pub windows-preserved : goal.windows-preserved
windows-preserved g c =
    let s = c.args.self.now in let inv = c.windows.invariant in
    let v = g.D.Disk.view c.args.disk.now in let t = g.D.Disk.view c.windows.disk in let u = g.D.Disk.view c.write_window.new.disk in
    let low : c.args.from ≤ c.windows.w = omega arith in let high : c.windows.w < c.args.to = omega arith in
    record {
      later = let a = inv.later in let b = c.write_window.ensures.later in omega (arith, a, b);
      quiet = c.in_ok-write_window.ensures.heeded ∙ inv.quiet;
      kept = let a = inv.kept in let b = c.write_window.ensures.kept in omega (arith, a, b);
      done = λ told. bands_more (geometry_of s) s.wins s.frames.windows v.now t.now u.now c.args.from c.windows.w low (inv.done told) (c.in_ok-write_window.ensures.done told);
      moments = λ told. joined (inv.moments told) (weaker (c.write_window.ensures.any_moment told) (λ (im : Image) torn. bands_torn (geometry_of s) s.wins s.frames.windows v.now t.now c.args.from c.windows.w c.args.to im low high (inv.done told).rest torn));
    }

pub returns-clause-done : goal.returns-clause-done
returns-clause-done g c told =
    let s = c.args.self.now in
    let order = c.requires.order in let last = c.windows.auto.w-end in
    let e : c.windows.w ≡ c.args.to = let x = last order in omega (arith, x) in
    subst (λ (x : ℕ). AreBandsWritten (geometry_of s) s.wins s.frames.windows c.args.from x (g.D.Disk.view c.args.disk.now).now (g.D.Disk.view c.windows.disk).now) e (c.windows.invariant.done told)
