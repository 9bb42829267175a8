use Rattle.std.proofs.Common.{◌≡◌, ◌<◌, ap, refl, arith, sym, subst}
use Rattle.sg_shown.specs.Shown.{over}
use Rattle.sg_paged.proofs.Behind.{means_with}
use Rattle.sg_paged.proofs.resting.broken.Goals as goal

pub returns-clause-disk : goal.returns-clause-disk
returns-clause-disk g c = ap (λ y. (g.E.Engine.view y).disk) c.report.ensures.engine

pub returns-clause-gate : goal.returns-clause-gate
returns-clause-gate g c = ap (λ y. (g.E.Engine.view y).gate) c.report.ensures.engine

pub returns-clause-tail : goal.returns-clause-tail
returns-clause-tail g c = ap (λ y. (g.E.Engine.view y).tail) c.report.ensures.engine

pub returns-clause-told : goal.returns-clause-told
returns-clause-told g c = subst (λ y. (g.E.Engine.view y).Told → (g.E.Engine.view c.args.acts.now.engine).Told) (sym c.report.ensures.engine) (λ h. h)

pub returns-clause-later : goal.returns-clause-later
returns-clause-later g c =
    let f : (g.E.Engine.view c.report.new.self.engine).faults ≡ (g.E.Engine.view c.args.acts.now.engine).faults = ap (λ y. (g.E.Engine.view y).faults) c.report.ensures.engine in
    let l = c.report.ensures.later in
    omega (arith, f, l)

pub returns-clause-risen : goal.returns-clause-risen
returns-clause-risen g c = λ few.
    let f : (g.E.Engine.view c.report.new.self.engine).faults ≡ (g.E.Engine.view c.args.acts.now.engine).faults = ap (λ y. (g.E.Engine.view y).faults) c.report.ensures.engine in
    let r : c.args.acts.now.breaks < c.report.new.self.breaks = c.report.ensures.risen (omega (arith, few)) in
    omega (arith, f, r)

pub returns-clause-means : goal.returns-clause-means
returns-clause-means g c = λ t z from m. let k = c.report.ensures in
    means_with (over c.args.acts.now) (over c.report.new.self) t z from (ap g.E.Engine.view k.engine) (ap g.E.Engine.means k.engine) refl k.maps k.unfreed k.rows k.actor k.begun (ap (λ s. (g.E.Engine.view s.value).now) k.begun_at) m
