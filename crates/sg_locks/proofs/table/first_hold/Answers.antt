use Rattle.std.proofs.Common.{sym, ap, ◌∙◌}
use Rattle.std.specs.Prelude.{◌==◌}
use Rattle.sg_locks.specs.declared.table.Hold as code
use Rattle.sg_locks.specs.Shown.{shown_hold}
use Rattle.sg_locks.proofs.Places.{place_none, place_found}
use Rattle.sg_locks.proofs.table.first_hold.Goals as goal

pub loop-place-preserved : goal.loop-place-preserved
loop-place-preserved c =
    place_none shown_hold (λ h. h.transaction == c.args.t.0) c.args.holds.now c.loop-place.place c.index-holds-place.result c.loop-place-test.true c.loop-place.invariant
    (ap (λ (h : code.Hold). h.transaction.0 == c.args.t.0) (sym c.index-holds-place.is) ∙ (sym c.eq.ensures ∙ c.if-eq.false))

pub returns-then-eq : goal.returns-then-eq
returns-then-eq c =
    sym (place_found shown_hold (λ h. h.transaction == c.args.t.0) c.args.holds.now c.loop-place.place c.index-holds-place.result c.loop-place-test.true c.loop-place.invariant
    (ap (λ (h : code.Hold). h.transaction.0 == c.args.t.0) (sym c.index-holds-place.is) ∙ (sym c.eq.ensures ∙ c.if-eq.true)))
