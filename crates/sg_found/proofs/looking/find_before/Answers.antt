use mathlib.Core.Logic.{∥∥₁_elim}
use Rattle.std.proofs.Common.{◌≤◌, ℕ, Option, Some, None, Ok, Err, sym, ap, subst, ◌∙◌, arith}
use Rattle.std.proofs.Props.{props}
use Rattle.std.proofs.lemmas.Result.{err_from_is_err_and}
use Rattle.sg_record.specs.Changes.{Change as Changing}
use Rattle.sg_recovery.specs.Laws.{Each}
use Rattle.sg_recovery.specs.Log.{Open, tally}
use Rattle.sg_actions.specs.Steps.{Steps, step_at}
use Rattle.sg_found.specs.Found.{back_by, IsBack}
use Rattle.sg_found.specs.declared.looking.Back.{Back}
use Rattle.sg_found.proofs.Backing.{back_there, back_on, back_ends, back_none, back_below, back_cut, back_lower, back_never, looked_none, looked_then, looked_ok, looked_fails, looked_steps, looked_there}
use Rattle.sg_found.proofs.looking.find_before.Goals as goal

pub changes-init : goal.changes-init
changes-init g c = record {
  looks = looked_none 0 (g.met.E.Engine.told_whole _) (λ t from m told. g.met.E.Engine.images c.args.engine.now t from m told);
  goes = λ t from m told h. (h.ds, h.back, λ low w. w);
}

pub look_back-requires : goal.look_back-requires
look_back-requires g c =
    let i = c.changes.invariant in
    record {
      there = looked_there c.changes.at i.looks (g.met.E.Engine.some c.args.engine.now) (g.met.E.Engine.told_whole c.changes.engine) (λ t from m told.
          ∥∥₁_elim (c.requires.there told) (hlevel props) (λ h. let b = i.goes t from m told h in back_there b.0 b.1 (let z : h.base ≤ c.args.start = omega (arith, h.begins) in z) (omega (arith, c.if-at-start.false)) c.changes-test.true));
      kept = λ told. let behind = c.if-at-start-2.false in let first = c.start.ensures in omega (arith, behind, first);
    }

pub changes-preserved : goal.changes-preserved
changes-preserved g c =
    let i = c.changes.invariant in
    let k = c.in_ok-prev.ensures in
    record {
      looks = looked_ok {T = Back} {U = ℕ} 0 (looked_then {T = ℕ} {U = Back} (Ok c.in_ok-prev.field-0) i.looks k.looks);
      goes = λ t from m told h.
          let b = i.goes t from m told h in
          let told1 = i.looks.tells told in
          let m1 = (i.looks.looks t).means from m in
          let saw = k.saw t from m1 told1 in
          let steps = looked_steps i.looks t from m told (g.met.E.Engine.told_whole c.changes.engine) told1 in
          let next = back_on b.0 b.1 (let z : h.base ≤ c.args.start = omega (arith, h.begins) in z) (omega (arith, c.if-at-start.false)) c.changes-test.true (sym c.in-Changed.is ∙ (saw ∙ ap (λ (rs : Steps). back_by (step_at rs c.changes.at)) steps)) in
          (next.0, next.1, λ low w. next.2 low (b.2 low w));
    }

pub returns-in_err-prev-clause-looks : goal.returns-in_err-prev-clause-looks
returns-in_err-prev-clause-looks g c =
    let p = err_from_is_err_and c.from_residual.result c.from_residual.ensures.1 in
    looked_fails {T = Back} {U = Option ℕ} c.from_residual.result c.in_err-prev.field-0.0 p.0 p.1 p.2 (looked_then {T = ℕ} {U = Back} (Err c.in_err-prev.field-0.0) c.changes.invariant.looks c.in_err-prev.ensures.looks)

pub returns-then-prev-at-clause-looks : goal.returns-then-prev-at-clause-looks
returns-then-prev-at-clause-looks g c = looked_ok {T = Back} {U = Option ℕ} None (looked_then {T = ℕ} {U = Back} (Ok c.in_ok-prev.field-0) c.changes.invariant.looks c.in_ok-prev.ensures.looks)

pub returns-in-TakenOff-clause-looks : goal.returns-in-TakenOff-clause-looks
returns-in-TakenOff-clause-looks g c = looked_ok {T = Back} {U = Option ℕ} None (looked_then {T = ℕ} {U = Back} (Ok c.in_ok-prev.field-0) c.changes.invariant.looks c.in_ok-prev.ensures.looks)

pub returns-in-Other-clause-looks : goal.returns-in-Other-clause-looks
returns-in-Other-clause-looks g c = looked_ok {T = Back} {U = Option ℕ} (Some c.changes.at) (looked_then {T = ℕ} {U = Back} (Ok c.in_ok-prev.field-0) c.changes.invariant.looks c.in_ok-prev.ensures.looks)

pub returns-in-Other-clause-found : goal.returns-in-Other-clause-found
returns-in-Other-clause-found g c = λ t from m told h.
    let i = c.changes.invariant in
    let b = i.goes t from m told h in
    let told1 = i.looks.tells told in
    let m1 = (i.looks.looks t).means from m in
    let saw = c.in_ok-prev.ensures.saw t from m1 told1 in
    let steps = looked_steps i.looks t from m told (g.met.E.Engine.told_whole c.changes.engine) told1 in
    ap (λ (n : ℕ). Some n) (back_ends b.0 b.1 (sym c.in-Other.is ∙ (saw ∙ ap (λ (rs : Steps). back_by (step_at rs c.changes.at)) steps)))

pub returns-clause-found : goal.returns-clause-found
returns-clause-found g c = λ t from m told h.
    let b = c.changes.invariant.goes t from m told h in
    ap (λ (n : ℕ). Some n) (back_none b.0 (subst (λ (n : ℕ). IsBack (g.E.Engine.view c.args.engine.now).steps h.base h.before n b.0) c.changes-test.false b.1))

pub returns-then-at-start-clause-looks : goal.returns-then-at-start-clause-looks
returns-then-at-start-clause-looks g c = looked_ok {T = ℕ} {U = Option ℕ} (Some c.changes.at) c.changes.invariant.looks

pub returns-then-at-start-clause-found : goal.returns-then-at-start-clause-found
returns-then-at-start-clause-found g c = λ t from m told h.
    let b = c.changes.invariant.goes t from m told h in
    ap (λ (n : ℕ). Some n) (back_below b.0 b.1 h.begins h.above c.if-at-start.true)

pub returns-then-at-start-2-clause-found : goal.returns-then-at-start-2-clause-found
returns-then-at-start-2-clause-found g c = λ t from m told h.
    let i = c.changes.invariant in
    let b = i.goes t from m told h in
    let told1 = i.looks.tells told in
    let low = g.E.Engine.first_byte c.changes.engine in
    let wanted : Each (λ (d : Open Changing). low ≤ d.lsn) (tally (g.E.Engine.view c.changes.engine).steps).opened = (g.met.E.Engine.wanted c.changes.engine told1).opened in
    let steps = looked_steps i.looks t from m told (g.met.E.Engine.told_whole c.changes.engine) told1 in
    let opened : Each (λ (d : Open Changing). low ≤ d.lsn) h.ds = subst (Each (λ (d : Open Changing). low ≤ d.lsn)) (ap (λ (rs : Steps). (tally rs).opened) steps ∙ sym h.all) wanted in
    let before = c.if-at-start-2.true in
    let first = c.start.ensures in
    ap (λ (n : ℕ). Some n) (back_cut low b.0 b.1 (b.2 low opened) (omega (arith, before, first)))

pub returns-then-prev-at-clause-found : goal.returns-then-prev-at-clause-found
returns-then-prev-at-clause-found g c = λ t from m told h.
    let i = c.changes.invariant in
    let b = i.goes t from m told h in
    let told1 = i.looks.tells told in
    let m1 = (i.looks.looks t).means from m in
    let saw = c.in_ok-prev.ensures.saw t from m1 told1 in
    let steps = looked_steps i.looks t from m told (g.met.E.Engine.told_whole c.changes.engine) told1 in
    let less = back_lower b.0 b.1 h.begins (omega (arith, c.if-at-start.false)) c.changes-test.true (sym c.in-Changed.is ∙ (saw ∙ ap (λ (rs : Steps). back_by (step_at rs c.changes.at)) steps)) in
    absurd (omega (arith, less, c.if-prev-at.true))

pub returns-in-TakenOff-clause-found : goal.returns-in-TakenOff-clause-found
returns-in-TakenOff-clause-found g c = λ t from m told h.
    let i = c.changes.invariant in
    let b = i.goes t from m told h in
    let told1 = i.looks.tells told in
    let m1 = (i.looks.looks t).means from m in
    let saw = c.in_ok-prev.ensures.saw t from m1 told1 in
    let steps = looked_steps i.looks t from m told (g.met.E.Engine.told_whole c.changes.engine) told1 in
    absurd (back_never b.0 b.1 h.begins (omega (arith, c.if-at-start.false)) c.changes-test.true (sym c.in-TakenOff.is ∙ (saw ∙ ap (λ (rs : Steps). back_by (step_at rs c.changes.at)) steps)))
