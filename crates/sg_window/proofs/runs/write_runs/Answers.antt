use Rattle.std.proofs.Common.{◌≡◌, ◌≤◌, ◌+◌, ◌-◌, ◌<◌, ℕ, List, length, take, drop, get_or, refl, ap, ◌∙◌, arith}
use Rattle.sg_segment.specs.Runs.{IsFirstRun}
use Rattle.sg_base.specs.declared.page.TheConstants.{BAND_SIZE}
use Rattle.sg_window.proofs.Counting.{called_none, called_more, called_all, called_idle, met_marked}
use Rattle.sg_window.proofs.Writing.{run_torn, runs_more, slice_are, slice_long}
use Rattle.sg_window.proofs.runs.write_runs.Goals as goal

pub returns-in_err-write_at-clause-any_moment : goal.returns-in_err-write_at-clause-any_moment
returns-in_err-write_at-clause-any_moment g c told =
    let window = c.args.window.now in
    let start = c.in-Some.start in
    let count = c.in-Some.count in
    let run : IsFirstRun c.args.dirty.now c.runs.from start count = c.in-Some.ensures in
    let fits = run.in_window in
    let far : start + count - start ≡ count = omega arith in
    let text = take (start + count - start) (drop start window) in
    run_torn (g.D.Disk.view c.args.disk.now) (g.D.Disk.view c.runs.disk) (g.D.Disk.view c.write_at.new.self) c.write_at.result c.args.base window text c.args.dirty.now c.runs.from start count BAND_SIZE
    (c.runs.invariant.moments told).1 run (ap (λ (n : ℕ). length (take n (drop start window))) far ∙ slice_long window start count (omega arith))
    (λ j lt. ap (λ (n : ℕ). get_or (take n (drop start window)) j 0) far ∙ slice_are window start count j lt) fits (c.runs.invariant.moments told).0 (c.write_at.ensures.does told)

pub runs-preserved : goal.runs-preserved
runs-preserved g c =
    let window = c.args.window.now in
    let start = c.in-Some.start in
    let count = c.in-Some.count in
    let run : IsFirstRun c.args.dirty.now c.runs.from start count = c.in-Some.ensures in
    let fits = run.in_window in
    let far : start + count - start ≡ count = omega arith in
    let text = take (start + count - start) (drop start window) in
    let long : length text ≡ count = ap (λ (n : ℕ). length (take n (drop start window))) far ∙ slice_long window start count (omega arith) in
    let are : (j : ℕ) → j < count → get_or text j 0 ≡ get_or window (start + j) 0 = λ j lt. ap (λ (n : ℕ). get_or (take n (drop start window)) j 0) far ∙ slice_are window start count j lt in
    record {
      within = fits;
      later = let a = c.runs.invariant.later in let b = c.write_at.ensures.counts.later in omega arith;
      quiet = c.in_ok-write_at.ensures.counts.quiet ∙ c.runs.invariant.quiet;
      kept = let a = c.runs.invariant.kept in let b = c.write_at.ensures.counts.handed_least in omega (arith, a, b);
      handed = let a = c.runs.invariant.handed in let b = c.write_at.ensures.counts.handed_most in let after = run.after in omega (arith, a, b, after, long);
      called = called_more c.args.dirty.now c.runs.from start count _ _ _ c.runs.invariant.called run c.write_at.ensures.counts.calls;
      moments = λ told. (
        run_torn (g.D.Disk.view c.args.disk.now) (g.D.Disk.view c.runs.disk) (g.D.Disk.view c.write_at.new.self) c.write_at.result c.args.base window text c.args.dirty.now c.runs.from start count BAND_SIZE
            (c.runs.invariant.moments told).1 run long are fits (c.runs.invariant.moments told).0 (c.write_at.ensures.does told),
        runs_more (g.D.Disk.view c.args.disk.now).now (g.D.Disk.view c.runs.disk).now (g.D.Disk.view c.write_at.new.self).now c.args.base window text c.args.dirty.now c.runs.from start count
            (c.runs.invariant.moments told).1 run long are (c.in_ok-write_at.ensures.does told).ok,
      );
    }

pub returns-in_err-write_at-clause-handed : goal.returns-in_err-write_at-clause-handed
returns-in_err-write_at-clause-handed g c =
    let window = c.args.window.now in
    let start = c.in-Some.start in
    let count = c.in-Some.count in
    let run : IsFirstRun c.args.dirty.now c.runs.from start count = c.in-Some.ensures in
    let fits = run.in_window in
    let after = run.after in
    let far : start + count - start ≡ count = omega arith in
    let long : length (take (start + count - start) (drop start window)) ≡ count = ap (λ (n : ℕ). length (take n (drop start window))) far ∙ slice_long window start count (omega arith) in
    let a = c.runs.invariant.handed in let b = c.write_at.ensures.counts.handed_most in
    omega (arith, a, b, after, long, fits)

pub returns-in_err-write_at-clause-idle : goal.returns-in_err-write_at-clause-idle
returns-in_err-write_at-clause-idle g c idle = let run : IsFirstRun c.args.dirty.now c.runs.from c.in-Some.start c.in-Some.count = c.in-Some.ensures in met_marked c.args.dirty.now c.runs.from c.in-Some.start c.in-Some.count run idle

pub returns-clause-calls : goal.returns-clause-calls
returns-clause-calls g c runs are low = called_all c.args.dirty.now c.runs.from _ _ c.runs.invariant.called c.in_default.ensures runs are low

pub returns-clause-idle : goal.returns-clause-idle
returns-clause-idle g c idle = called_idle c.args.dirty.now c.runs.from _ _ c.runs.invariant.called c.in_default.ensures idle
