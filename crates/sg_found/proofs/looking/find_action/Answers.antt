use mathlib.Core.Logic.{∥∥₁_elim, ∥∥₁_prop}
use Rattle.sg_space.proofs.Known.{same_some}
use Rattle.std.proofs.Common.{◌∙◌, Some, None, ◌≡◌, ℕ, IsSome, Option, Ok, Err, refl, sym, subst, arith}
use Rattle.std.proofs.lemmas.Result.{err_from_is_err_and}
use Rattle.sg_ops.specs.Table.{fresh_table}
use Rattle.sg_recovery.specs.Log.{tally}
use Rattle.sg_actions.specs.Steps.{Steps, step_at}
use Rattle.sg_found.specs.Found.{HasBack, IsOpenAt}
use Rattle.sg_found.proofs.Backing.{looked_then, looked_ok, looked_fails, looked_steps, open_of, from_some}
use Rattle.sg_found.proofs.Newest.{last_there, last_above}
use Rattle.sg_found.proofs.looking.find_action.Goals as goal

pub find_from-requires : goal.find_from-requires
find_from-requires g c = record {
  there = λ told. subst (λ (n : ℕ). IsSome (step_at (g.E.Engine.view c.args.engine.now).steps n)) (sym (c.requires.last told)) (last_there (g.E.Engine.view c.args.engine.now).base (g.E.Engine.view c.args.engine.now).steps c.args.txn (c.requires.formed told) (c.requires.unfinished told));
  kept = λ told.
      let e = g.E.Engine.view c.args.engine.now in
      let start = c.requires.start told in
      let last = c.requires.last told in
      let above = last_above e.base e.steps c.args.txn (c.requires.formed told) (c.requires.unfinished told) in
      omega (arith, start, last, above);
}

pub find_before-requires : goal.find_before-requires
find_before-requires g c =
    let k = c.in_ok-first.ensures in
    record {
      there = λ told1. ∥∥₁_elim (g.met.E.Engine.some c.args.engine.now ((k.looks.looks fresh_table).told told1)) ∥∥₁_prop (λ x.
          let told = (k.looks.looks x.0).told told1 in
          let steps = looked_steps k.looks x.0 x.1 x.2 told (g.met.E.Engine.told_whole c.find_from.new.engine) told1 in
          let o = open_of (c.requires.formed told) (c.requires.unfinished told) (c.requires.last told) c.in_ok-first.field-0 (k.found x.0 x.1 x.2 told) c.in-Some.is in
          ∣ subst (λ (rs : Steps). HasBack rs c.start-start.result c.in-Some.first) (sym steps)
          (record { base = (g.E.Engine.view c.args.engine.now).base; begins = c.requires.start told ∙ sym c.start-start.ensures; above = (c.requires.formed told).above; before = o.0; ds = (tally (g.E.Engine.view c.args.engine.now).steps).opened; all = refl; back = o.1.back }) ∣₁);
    }

pub returns-in_err-before-clause-looks : goal.returns-in_err-before-clause-looks
returns-in_err-before-clause-looks g c =
    let p = err_from_is_err_and c.from_residual-in_err-before.result c.from_residual-in_err-before.ensures.1 in
    looked_fails {T = Option ℕ} {U = Option (ℕ × ℕ)} c.from_residual-in_err-before.result c.in_err-before.field-0.0 p.0 p.1 p.2 (looked_then {T = Option ℕ} {U = Option ℕ} (Err c.in_err-before.field-0.0) c.in_ok-first.ensures.looks c.in_err-before.ensures.looks)

pub returns-in-Some-2-clause-looks : goal.returns-in-Some-2-clause-looks
returns-in-Some-2-clause-looks g c = looked_ok {T = Option ℕ} {U = Option (ℕ × ℕ)} _ (looked_then {T = Option ℕ} {U = Option ℕ} (Ok c.in_ok-before.field-0) c.in_ok-first.ensures.looks c.in_ok-before.ensures.looks)

pub returns-in-None-clause-looks : goal.returns-in-None-clause-looks
returns-in-None-clause-looks g c = looked_ok {T = Option ℕ} {U = Option (ℕ × ℕ)} _ (looked_then {T = Option ℕ} {U = Option ℕ} (Ok c.in_ok-before.field-0) c.in_ok-first.ensures.looks c.in_ok-before.ensures.looks)

pub returns-in-Some-2-clause-found : goal.returns-in-Some-2-clause-found
returns-in-Some-2-clause-found g c = λ t from m told.
    let k = c.in_ok-first.ensures in
    let told1 = k.looks.tells told in
    let m1 = (k.looks.looks t).means from m in
    let steps = looked_steps k.looks t from m told (g.met.E.Engine.told_whole c.find_from.new.engine) told1 in
    let o = open_of (c.requires.formed told) (c.requires.unfinished told) (c.requires.last told) c.in_ok-first.field-0 (k.found t from m told) c.in-Some.is in
    let h : HasBack (g.E.Engine.view c.find_from.new.engine).steps c.start-start.result c.in-Some.first = subst (λ (rs : Steps). HasBack rs c.start-start.result c.in-Some.first) (sym steps)
    (record { base = (g.E.Engine.view c.args.engine.now).base; begins = c.requires.start told ∙ sym c.start-start.ensures; above = (c.requires.formed told).above; before = o.0; ds = (tally (g.E.Engine.view c.args.engine.now).steps).opened; all = refl; back = o.1.back }) in
    let found : c.in_ok-before.field-0 ≡ Some h.before = c.in_ok-before.ensures.found t from m1 told1 h in
    let is : c.in-Some-2.before ≡ o.0 = same_some c.in-Some-2.before h.before (sym c.in-Some-2.is ∙ found) in
    subst (λ (n : ℕ). IsOpenAt (g.E.Engine.view c.args.engine.now).steps (g.E.Engine.view c.args.engine.now).base c.args.txn c.in-Some.first n) (sym is) o.1

pub returns-in-None-clause-some : goal.returns-in-None-clause-some
returns-in-None-clause-some g c = λ t from m told.
    let k = c.in_ok-first.ensures in
    let told1 = k.looks.tells told in
    let m1 = (k.looks.looks t).means from m in
    let steps = looked_steps k.looks t from m told (g.met.E.Engine.told_whole c.find_from.new.engine) told1 in
    let o = open_of (c.requires.formed told) (c.requires.unfinished told) (c.requires.last told) c.in_ok-first.field-0 (k.found t from m told) c.in-Some.is in
    let h : HasBack (g.E.Engine.view c.find_from.new.engine).steps c.start-start.result c.in-Some.first = subst (λ (rs : Steps). HasBack rs c.start-start.result c.in-Some.first) (sym steps)
    (record { base = (g.E.Engine.view c.args.engine.now).base; begins = c.requires.start told ∙ sym c.start-start.ensures; above = (c.requires.formed told).above; before = o.0; ds = (tally (g.E.Engine.view c.args.engine.now).steps).opened; all = refl; back = o.1.back }) in
    absurd (let no : None ≡ Some h.before = sym c.in-None.is ∙ c.in_ok-before.ensures.found t from m1 told1 h in cc)

pub returns-in_default-clause-some : goal.returns-in_default-clause-some
returns-in_default-clause-some g c = λ t from m told.
    absurd (from_some c.args.txn (c.requires.formed told) (c.requires.unfinished told) (c.requires.last told) c.in_ok-first.field-0 (c.in_ok-first.ensures.none t from m told) c.in_default.is)
