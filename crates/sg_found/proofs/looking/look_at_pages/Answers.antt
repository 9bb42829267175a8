use Rattle.std.proofs.Common.{Bool, true, false, ◌≡◌, ◌<◌, ◌+◌, ℕ, IsSome, Ok, Err, sym, ap, subst, ◌∙◌, refl, arith, inl, inr}
use Rattle.std.proofs.lemmas.Bool.{cases_eq}
use Rattle.std.proofs.lemmas.Result.{err_from_is_err_and}
use Rattle.sg_action.specs.States.{State}
use Rattle.sg_found.specs.Looks.{SaysBytes}
use Rattle.sg_found.proofs.Backing.{looked_none, looked_then, looked_ok, looked_fails, looked_now}
use Rattle.sg_found.proofs.looking.look_at_pages.Goals as goal

pub pages-init : goal.pages-init
pages-init g c = record {
  looks = looked_none 0 (g.met.E.Engine.told_whole _) (λ t from m told. g.met.E.Engine.images c.args.engine.now t from m told);
  bytes = λ t from m told p less set. absurd (omega (arith, less));
}

pub returns-in_err-look_if_taken-clause-looks : goal.returns-in_err-look_if_taken-clause-looks
returns-in_err-look_if_taken-clause-looks g c =
    let p = err_from_is_err_and c.from_residual.result c.from_residual.ensures.1 in
    looked_fails {T = Bool} {U = Bool} c.from_residual.result c.in_err-look_if_taken.field-0.0 p.0 p.1 p.2 (looked_then {T = ℕ} {U = Bool} (Err c.in_err-look_if_taken.field-0.0) c.pages.invariant.looks c.in_err-look_if_taken.ensures.looks)

pub pages-preserved : goal.pages-preserved
pages-preserved g c =
    let i = c.pages.invariant in
    let k = c.in_ok-look_if_taken.ensures in
    let looks = looked_ok {T = Bool} {U = ℕ} 0 (looked_then {T = ℕ} {U = Bool} (Ok c.in_ok-look_if_taken.field-0) i.looks k.looks) in
    record {
      looks = looks;
      bytes = λ t from m told p less set. elim (cases_eq p c.pages.p) [
        | inl e ↦
            let told1 = looks.tells told in
            let same = looked_now looks t from m told (g.met.E.Engine.told_whole c.look_if_taken.new.engine) told1 (g.met.E.Engine.now_is _ t from m told) (g.met.E.Engine.now_is _ t from ((looks.looks t).means from m) told1) in
            let here = k.bytes c.if-not-branch.false (subst (λ (n : ℕ). Rattle.sg_actions.specs.Taken.is_set c.args.maps.now.pages n ≡ Rattle.std.proofs.Common.true) e set) in
            subst (λ (n : ℕ). SaysBytes (g.E.Engine.view c.args.engine.now).now n) (sym e) (subst (λ (y : State). SaysBytes y c.pages.p) same here)
        | inr d ↦ i.bytes t from m told p (omega (arith, less, d)) set
      ];
    }

pub returns-then-not-branch-clause-looks : goal.returns-then-not-branch-clause-looks
returns-then-not-branch-clause-looks g c = looked_ok {T = Bool} {U = Bool} false (looked_then {T = ℕ} {U = Bool} (Ok c.in_ok-look_if_taken.field-0) c.pages.invariant.looks c.in_ok-look_if_taken.ensures.looks)

pub returns-clause-looks : goal.returns-clause-looks
returns-clause-looks g c = looked_ok {T = ℕ} {U = Bool} true c.pages.invariant.looks

pub returns-clause-bytes : goal.returns-clause-bytes
returns-clause-bytes g c = λ t from m all told p less set. c.pages.invariant.bytes t from m told p (omega arith) set

pub returns-then-not-branch-clause-none : goal.returns-then-not-branch-clause-none
returns-then-not-branch-clause-none g c = λ t from m no told.
    let i = c.pages.invariant in
    let k = c.in_ok-look_if_taken.ensures in
    let looks = looked_ok {T = Bool} {U = ℕ} 0 (looked_then {T = ℕ} {U = Bool} (Ok c.in_ok-look_if_taken.field-0) i.looks k.looks) in
    let told1 = looks.tells told in
    let same = looked_now looks t from m told (g.met.E.Engine.told_whole c.look_if_taken.new.engine) told1 (g.met.E.Engine.now_is _ t from m told) (g.met.E.Engine.now_is _ t from ((looks.looks t).means from m) told1) in
    record { page = c.pages.p; below = c.pages-test.true; set = k.set c.if-not-branch.true; none = ap (λ (x : State). x.pages c.pages.p) (sym same) ∙ k.none c.if-not-branch.true }
