use Rattle.std.proofs.Common.{◌≡◌, ℕ, zero, suc, ◌-◌, ◌<◌, ◌≤◌, ◌==◌, get_or, false, sym, ap, ◌∙◌, subst, arith}
use Rattle.sg_recovery.proofs.Basic.{number_is, same_number}
use Rattle.sg_recovery.proofs.Chaining.{clash}
use Rattle.sg_analysis.specs.Analysis.{oldest_first}
use Rattle.sg_analysis.specs.Firsts.{cut_to}
use Rattle.sg_analysis.proofs.Stacked.{top_of, cut_none, cut_one, none_kept}
use Rattle.sg_analysis.proofs.stacks.cut_off.Goals as goal

some : (n : ℕ) → (n == 0) ≡ false → 0 < n
some zero e = absurd (clash (0 == 0) e (same_number 0))
some (suc n) e = omega arith

pub returns-then-index-least : goal.returns-then-index-least
returns-then-index-least c ns e =
    let h = c.above.invariant ns e in
    let t = top_of c.above.numbers.items c.len.result h.0 h.1 (c.len.ensures ∙ c.above.numbers.ok.0) (subst (λ n. 0 < n) (sym c.len.ensures) (some _ (sym c.is_empty.ensures ∙ c.above-test.true))) in
    let low : t.top ≤ c.args.least = subst (λ n. n ≤ c.args.least) (c.index.ensures ∙ t.here c.index.result.now) c.if-index-least.true in
    h.1 ∙ ap oldest_first (t.all ∙ (sym (cut_none c.args.least t.top t.more low) ∙ (ap (cut_to c.args.least) (sym t.all) ∙ h.2)))

pub above-preserved : goal.above-preserved
above-preserved c ns e =
    let h = c.above.invariant ns e in
    let long = c.len-in-above.ensures in
    let t = top_of c.above.numbers.items c.len-in-above.result h.0 h.1 (long ∙ c.above.numbers.ok.0) (subst (λ n. 0 < n) (sym long) (some _ (sym c.is_empty.ensures ∙ c.above-test.true))) in
    let high : c.args.least < t.top =
    subst (λ n. c.args.least < n) (c.index.ensures ∙ (ap (λ n. get_or c.above.numbers.items (n - 1) c.index.result.now) (c.len.ensures ∙ sym long) ∙ t.here c.index.result.now)) c.if-index-least.false in
    (t.more, c.truncate.ensures.items ∙ t.others, sym (cut_one c.args.least t.top t.more high) ∙ (ap (cut_to c.args.least) (sym t.all) ∙ h.2))

pub returns : goal.returns
returns c ns e =
    let h = c.above.invariant ns e in
    let none = none_kept c.above.numbers.items h.0 h.1 (sym c.above.numbers.ok.0 ∙ number_is _ 0 (sym c.is_empty.ensures ∙ c.above-test.false)) in
    h.1 ∙ ap oldest_first (none ∙ (ap (cut_to c.args.least) (sym none) ∙ h.2))
