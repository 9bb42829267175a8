use Rattle.std.proofs.Common.{◌≡◌, ◌+◌, ◌*◌, ℕ, length, min, refl, subst, sym, ◌∙◌, ap, add-one, arith}
use Rattle.sg_disk.specs.Disk.{FULL}
use Rattle.sg_gate.specs.Layout.{PAGE}
use Rattle.sg_disk.proofs.Counted.{raised_twice}
use Rattle.sg_gate.proofs.Costs.{raised_more, page_calls}
use Rattle.sg_gate.proofs.Copies.{IsCopied, copied_starts, copied_page, all_bytes, all_done}
use Rattle.sg_gate.proofs.Copying.{so_far_starts, after_page, aside_more, after_sync, after_gate, after_last}
use Rattle.sg_gate.proofs.batch.copy_home.Goals as goal

pub pages-init : goal.pages-init
pages-init g c = record {
  quiet = refl;
  later = omega arith;
  calls = (λ low. absurd (omega arith), λ none. refl);
  handed = (λ low. absurd (omega arith), λ none. refl);
  kept = omega arith;
  copied = λ short told. copied_starts (g.D.Disk.view c.args.disk.now) c.args.numbers.now short;
  moments = λ pages told opened settled batch. so_far_starts (g.D.Disk.view c.args.disk.now) c.args.numbers.now pages opened settled batch;
}

pub returns-in_err-copy_page-clause-any_moment : goal.returns-in_err-copy_page-clause-any_moment
returns-in_err-copy_page-clause-any_moment g c pages told opened settled batch =
    after_page (g.D.Disk.view c.args.disk.now) c.args.numbers.now pages opened settled batch c.pages.k (length c.pages.page)
    (c.pages.invariant.moments pages told opened settled batch) (omega arith) (omega arith) (c.copy_page.ensures.any_moment told)

pub pages-preserved : goal.pages-preserved
pages-preserved g c =
    let v = g.D.Disk.view c.args.disk.now in
    let w = g.D.Disk.view c.pages.disk in
    let z = g.D.Disk.view c.copy_page.new.disk in
    let k = c.pages.k in
    let two : 2 * k + 2 ≡ 2 * (k + 1) = omega arith in
    let page : PAGE * k + PAGE ≡ PAGE * (k + 1) = omega arith in
    record {
      quiet = c.in_ok-copy_page.ensures.quiet ∙ c.pages.invariant.quiet;
      later = let a = c.pages.invariant.later in let b = c.copy_page.ensures.later in omega arith;
      calls = (λ low. raised_more v.calls w.calls z.calls k (2 * k) 2 FULL c.pages.invariant.calls.0 c.pages.invariant.calls.1 (λ none. omega arith) c.in_ok-copy_page.ensures.calls ∙ ap (λ (n : ℕ). min (v.calls + n) FULL) two, λ none. absurd (omega arith));
      handed = (λ low. raised_more v.handed w.handed z.handed k (PAGE * k) PAGE FULL c.pages.invariant.handed.0 c.pages.invariant.handed.1 (λ none. omega arith) c.in_ok-copy_page.ensures.all_handed ∙ ap (λ (n : ℕ). min (v.handed + n) FULL) page, λ none. absurd (omega arith));
      kept = let a = c.pages.invariant.kept in let b = c.copy_page.ensures.kept in omega arith;
      copied = λ short told. subst (λ (j : ℕ). IsCopied (g.D.Disk.view c.args.disk.now) c.args.numbers.now short j (g.D.Disk.view c.copy_page.new.disk).now) (sym (add-one c.pages.k))
          (copied_page (g.D.Disk.view c.args.disk.now) c.args.numbers.now short (g.D.Disk.view c.pages.disk) (g.D.Disk.view c.copy_page.new.disk) c.pages.k (length c.pages.page) (c.pages.invariant.copied short told) (omega arith) (omega arith) (c.in_ok-copy_page.ensures.done told));
      moments = λ pages told opened settled batch.
          let so_far = c.pages.invariant.moments pages told opened settled batch in (
            after_page (g.D.Disk.view c.args.disk.now) c.args.numbers.now pages opened settled batch c.pages.k (length c.pages.page) so_far (omega arith) (omega arith) (c.copy_page.ensures.any_moment told),
            aside_more (g.D.Disk.view c.args.disk.now) c.args.numbers.now pages opened settled batch c.pages.k (length c.pages.page) (g.D.Disk.view c.pages.disk).now so_far.1 (omega arith) (omega arith) (g.D.Disk.view c.copy_page.new.disk).now (c.in_ok-copy_page.ensures.done told),
          );
    }

pub returns-in_err-sync-clause-any_moment : goal.returns-in_err-sync-clause-any_moment
returns-in_err-sync-clause-any_moment g c pages told opened settled batch =
    after_sync (g.D.Disk.view c.args.disk.now) c.args.numbers.now pages opened settled batch (g.D.Disk.view c.pages.disk) (c.pages.invariant.moments pages told opened settled batch) (c.sync.ensures.does told)

pub returns-in_err-write_at-clause-any_moment : goal.returns-in_err-write_at-clause-any_moment
returns-in_err-write_at-clause-any_moment g c pages told opened settled batch =
    let at_end : c.pages.k ≡ length c.args.numbers.now = omega arith in
    let copied = subst (λ (j : ℕ). IsCopied (g.D.Disk.view c.args.disk.now) c.args.numbers.now c.requires.most j (g.D.Disk.view c.pages.disk).now) at_end (c.pages.invariant.copied c.requires.most told) in
    after_gate (g.D.Disk.view c.args.disk.now) c.args.numbers.now pages opened settled batch (g.D.Disk.view c.pages.disk) (c.pages.invariant.moments pages told opened settled batch)
    (all_bytes (g.D.Disk.view c.args.disk.now) c.args.numbers.now c.requires.most (g.D.Disk.view c.pages.disk).now copied) (c.in_ok-sync.ensures.does told) (c.write_at.ensures.does told)

pub returns-in_err-sync-2-clause-any_moment : goal.returns-in_err-sync-2-clause-any_moment
returns-in_err-sync-2-clause-any_moment g c pages told opened settled batch =
    let at_end : c.pages.k ≡ length c.args.numbers.now = omega arith in
    let copied = subst (λ (j : ℕ). IsCopied (g.D.Disk.view c.args.disk.now) c.args.numbers.now c.requires.most j (g.D.Disk.view c.pages.disk).now) at_end (c.pages.invariant.copied c.requires.most told) in
    after_last (g.D.Disk.view c.args.disk.now) c.args.numbers.now pages opened settled batch (g.D.Disk.view c.pages.disk) (c.pages.invariant.moments pages told opened settled batch)
    (all_bytes (g.D.Disk.view c.args.disk.now) c.args.numbers.now c.requires.most (g.D.Disk.view c.pages.disk).now copied) (c.in_ok-sync.ensures.does told) (c.in_ok-write_at.ensures.does told) (c.sync-2.ensures.does told)

pub returns-clause-any_moment : goal.returns-clause-any_moment
returns-clause-any_moment g c pages told opened settled batch =
    let at_end : c.pages.k ≡ length c.args.numbers.now = omega arith in
    let copied = subst (λ (j : ℕ). IsCopied (g.D.Disk.view c.args.disk.now) c.args.numbers.now c.requires.most j (g.D.Disk.view c.pages.disk).now) at_end (c.pages.invariant.copied c.requires.most told) in
    after_last (g.D.Disk.view c.args.disk.now) c.args.numbers.now pages opened settled batch (g.D.Disk.view c.pages.disk) (c.pages.invariant.moments pages told opened settled batch)
    (all_bytes (g.D.Disk.view c.args.disk.now) c.args.numbers.now c.requires.most (g.D.Disk.view c.pages.disk).now copied) (c.in_ok-sync.ensures.does told) (c.in_ok-write_at.ensures.does told) (c.sync-2.ensures.does told)

pub returns-clause-done : goal.returns-clause-done
returns-clause-done g c told =
    let at_end : c.pages.k ≡ length c.args.numbers.now = omega arith in
    let copied = subst (λ (j : ℕ). IsCopied (g.D.Disk.view c.args.disk.now) c.args.numbers.now c.requires.most j (g.D.Disk.view c.pages.disk).now) at_end (c.pages.invariant.copied c.requires.most told) in
    (all_done (g.D.Disk.view c.args.disk.now) c.args.numbers.now c.requires.most (g.D.Disk.view c.pages.disk).now copied {w = g.D.Disk.view c.pages.disk} refl (c.in_ok-sync.ensures.does told) (c.in_ok-write_at.ensures.does told) (c.in_ok-sync-2.ensures.does told)).0

pub returns-clause-logs : goal.returns-clause-logs
returns-clause-logs g c told =
    let at_end : c.pages.k ≡ length c.args.numbers.now = omega arith in
    let copied = subst (λ (j : ℕ). IsCopied (g.D.Disk.view c.args.disk.now) c.args.numbers.now c.requires.most j (g.D.Disk.view c.pages.disk).now) at_end (c.pages.invariant.copied c.requires.most told) in
    (all_done (g.D.Disk.view c.args.disk.now) c.args.numbers.now c.requires.most (g.D.Disk.view c.pages.disk).now copied {w = g.D.Disk.view c.pages.disk} refl (c.in_ok-sync.ensures.does told) (c.in_ok-write_at.ensures.does told) (c.in_ok-sync-2.ensures.does told)).1

pub returns-clause-calls : goal.returns-clause-calls
returns-clause-calls g c =
    let v = g.D.Disk.view c.args.disk.now in
    let k = c.pages.k in
    let last : k ≡ length c.args.numbers.now = omega arith in
    let three = raised_twice _ _ _ 2 1 FULL (raised_twice _ _ _ 1 1 FULL c.sync.ensures.counts.calls c.write_at.ensures.counts.calls) c.sync-2.ensures.counts.calls in
    page_calls v.calls (g.D.Disk.view c.pages.disk).calls (g.D.Disk.view c.sync-2.new.self).calls k (length c.args.numbers.now) FULL last c.pages.invariant.calls.0 c.pages.invariant.calls.1 three
