use Rattle.std.proofs.Common.{Err, Result, ap, subst, ◌∙◌}
use Rattle.std.specs.Prelude.{IfErr}
use Rattle.sg_contents.specs.Standing.{Contents}
use Rattle.sg_reader.specs.Alike.{ReadsAs}
use Rattle.sg_alloc.specs.declared.maps.Maps.{Maps}
use Rattle.sg_reach.specs.Fault as reach
use Rattle.sg_reach.specs.declared.fault.ReachFault.{ReachFault}
use Rattle.sg_resumed.specs.Walking.{HasWalked}
use Rattle.sg_space.specs.declared.space.SpaceFault.TheVariants.{Disk}
use Rattle.sg_starting.specs.declared.opening.StartFault.{StartFault}
use Rattle.sg_starting.specs.declared.opening.StartFault.TheVariants.{Space}
use Rattle.sg_regained.specs.Regained.{started}
use Rattle.sg_regained.proofs.Reaching.{reaches_ok, reaches_err, reaches_break, reached_as}
use Rattle.sg_regained.proofs.Regained.{on_ok_at}
use Rattle.sg_regained.proofs.regaining.reach_with.Goals as goal

pub returns-in-Err : goal.returns-in-Err
returns-in-Err g c =
    let w = c.go_over-engine.result in
    let k = c.go_over-engine.ensures in
    let walked = subst (λ (r : Result (Unit {0}) ReachFault). HasWalked {T = Unit {0}} g.E.Engine.recovers (g.E.Engine.view c.args.engine) (g.E.Engine.view w.engine) 0 w.breaks (g.E.Engine.means c.args.engine) (g.E.Engine.means w.engine) r) c.in-Err.is k.walked in
    let broken = subst (λ (r : Result (Unit {0}) ReachFault). IfErr r (reach.IfBroken ((g.E.Engine.view c.args.engine).Told → (s : Contents) → ReadsAs c.args.pages c.args.bands (g.E.Engine.view c.args.engine).now s → ⊥))) c.in-Err.is k.broken in
    reached_as w.breaks c.stopped.result.breaks (Err (started c.in-Err.fault)) c.stopped.result.taken c.stopped.ensures.breaks
    (c.stopped.ensures.taken ∙ ap (λ (e : StartFault). let r : Result Maps StartFault = Err e in r) c.why_of.ensures)
    (reaches_err {U = Unit {0}} c.in-Err.fault walked broken c.stopped.ensures.stopped)

pub returns-then-not-has_sizes : goal.returns-then-not-has_sizes
returns-then-not-has_sizes g c =
    let w = c.go_over-engine.result in
    let k = c.go_over-engine.ensures in
    let s = c.stopped-then-not-has_sizes in
    let walked = subst (λ (r : Result (Unit {0}) ReachFault). HasWalked {T = Unit {0}} g.E.Engine.recovers (g.E.Engine.view c.args.engine) (g.E.Engine.view w.engine) 0 w.breaks (g.E.Engine.means c.args.engine) (g.E.Engine.means w.engine) r) c.in-Ok.is k.walked in
    reached_as c.one_more.result s.result.breaks (Err (Space Disk)) s.result.taken s.ensures.breaks s.ensures.taken
    (reaches_break {U = Unit {0}} c.one_more.result c.one_more.ensures.later c.one_more.ensures.risen
    (λ told. (let i = on_ok_at w.found c.in-Ok.field-0 c.in-Ok.is k.taken told in c.has_sizes.ensures.no c.if-not-has_sizes.true i.pages_are i.bands_are))
    walked s.ensures.stopped)

pub returns : goal.returns
returns g c =
    let w = c.go_over-engine.result in
    let k = c.go_over-engine.ensures in
    let walked = subst (λ (r : Result (Unit {0}) ReachFault). HasWalked {T = Unit {0}} g.E.Engine.recovers (g.E.Engine.view c.args.engine) (g.E.Engine.view w.engine) 0 w.breaks (g.E.Engine.means c.args.engine) (g.E.Engine.means w.engine) r) c.in-Ok.is k.walked in
    reaches_ok {U = Unit {0}} c.go_over-engine.new.into walked (c.has_sizes.ensures.pages c.if-not-has_sizes.false) (c.has_sizes.ensures.bands c.if-not-has_sizes.false)
    (on_ok_at w.found c.in-Ok.field-0 c.in-Ok.is k.taken) (λ t from m. on_ok_at w.found c.in-Ok.field-0 c.in-Ok.is (k.bytes t from m))
