use mathlib.Core.Logic.{∥∥₁_elim}
use Rattle.std.proofs.Common.{◌≡◌, true, false, ℕ, Option, None, IsSome, sym, subst, ◌∙◌}
use Rattle.std.proofs.Props.{props}
use Rattle.std.proofs.lemmas.Result.{err_from_is_err_and}
use Rattle.std.specs.Prelude.{IfSome}
use Rattle.sg_found.specs.Found.{IsOpenAt}
use Rattle.sg_resumed.proofs.Counted.{no_table, off_looked, off_failed, off_broken}
use Rattle.sg_resumed.proofs.Going.{open_none}
use Rattle.sg_resumed.proofs.taking_off.find_in.Goals as goal

pub returns-in_err-at-clause-counts : goal.returns-in_err-at-clause-counts
returns-in_err-at-clause-counts g c =
    let p = err_from_is_err_and c.from_residual.result c.from_residual.ensures.1 in
    off_failed {T = Option (ℕ × ℕ)} {U = ℕ} c.args.breaks.now c.from_residual.result c.in_err-at.field-0.0 p.0 p.1 p.2 (g.met.E.Engine.told_whole _) (g.met.E.Engine.told_whole _) (g.met.E.Engine.full_failed _) c.in_err-at.ensures.looks

pub returns-in_default-clause-counts : goal.returns-in_default-clause-counts
returns-in_default-clause-counts g c =
    let k = c.count_break.ensures in
    let h = c.in_ok-at.ensures in
    let never : (g.E.Engine.view c.args.engine.now).Told → ⊥ = λ told. ∥∥₁_elim (g.met.E.Engine.some c.args.engine.now told) (hlevel props) (λ x.
    absurd (let no : IsSome {T = ℕ × ℕ} None = subst (λ (o : Option (ℕ × ℕ)). IsSome o) c.in_default.is (h.some x.0 x.1 x.2 told) in cc)) in
    off_broken {T = Option (ℕ × ℕ)} {U = ℕ} c.args.breaks.now c.count_break.new.breaks c.count_break.result k.answer k.risen k.later (λ told. never ((h.looks.looks no_table).told told)) (λ told. absurd (never told)) h.looks

pub returns-then-has_failed-clause-counts : goal.returns-then-has_failed-clause-counts
returns-then-has_failed-clause-counts g c =
    let k = c.count_break-then-has_failed.ensures in
    let h = c.in_ok-at.ensures in
    let bad : (g.E.Engine.view c.find_action.new.engine).failed ≡ true = sym c.has_failed.ensures ∙ c.if-has_failed.true in
    let silent : (g.E.Engine.view c.find_action.new.engine).Told → ⊥ = λ told. absurd (let no : true ≡ false = sym bad ∙ g.met.E.Engine.told_whole _ told in cc) in
    off_broken {T = Option (ℕ × ℕ)} {U = ℕ} c.args.breaks.now c.count_break-then-has_failed.new.breaks c.count_break-then-has_failed.result k.answer k.risen k.later silent (λ told. absurd (silent (h.looks.tells told))) h.looks

pub returns-then-at-before-clause-counts : goal.returns-then-at-before-clause-counts
returns-then-at-before-clause-counts g c = off_looked {T = Option (ℕ × ℕ)} {U = ℕ} c.args.breaks.now 0 (sym c.has_failed.ensures ∙ c.if-has_failed.false) c.in_ok-at.ensures.looks

pub returns-then-at-before-clause-found : goal.returns-then-at-before-clause-found
returns-then-at-before-clause-found g c = λ t from m told.
    let e = g.E.Engine.view c.args.engine.now in
    let o : IsOpenAt e.steps e.base c.args.actor.now.txn.0 c.in-Some.at c.in-Some.before = subst (λ (r : Option (ℕ × ℕ)). IfSome r (λ p. IsOpenAt e.steps e.base c.args.actor.now.txn.0 p.0 p.1)) c.in-Some.is (c.in_ok-at.ensures.found t from m told) in
    open_none e.base e.steps c.args.actor.now.txn.0 c.in-Some.at c.in-Some.before (c.requires.formed told) c.if-actor-eq0.true c.if-at-before.true o

pub returns-clause-counts : goal.returns-clause-counts
returns-clause-counts g c = off_looked {T = Option (ℕ × ℕ)} {U = ℕ} c.args.breaks.now c.in-Some.at (sym c.has_failed.ensures ∙ c.if-has_failed.false) c.in_ok-at.ensures.looks
