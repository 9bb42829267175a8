use Rattle.std.proofs.Common.{Option, Err, subst}
use Rattle.sg_alloc.specs.declared.maps.Maps.{Maps}
use Rattle.sg_space.specs.declared.space.SpaceFault.TheVariants.{Disk}
use Rattle.sg_starting.specs.declared.opening.StartFault.TheVariants.{Space}
use Rattle.sg_regained.specs.Regained.{CanGoOver}
use Rattle.sg_regained.proofs.Reaching.{reaches_none, reached_as, none_lent, ok_always, ok_never}
use Rattle.sg_regained.proofs.regaining.reach_lent.Goals as goal

-- NO FLAGS ARE LENT

pub returns-in_default-clause-reached : goal.returns-in_default-clause-reached
returns-in_default-clause-reached g c =
    let s = c.stopped in
    reached_as 1 s.result.breaks (Err (Space Disk)) s.result.taken s.ensures.breaks s.ensures.taken
    (reaches_none (λ told. none_lent c.args.room c.args.unfreed.now c.args.pages c.args.bands c.in_default.is (c.requires.can told)) s.ensures.stopped)

pub returns-in_default-clause-freed : goal.returns-in_default-clause-freed
returns-in_default-clause-freed g c = ok_never _ c.stopped.result.taken (Space Disk) c.stopped.ensures.taken

-- THEY ARE TOO FEW

pub returns-then-not-can_reach-clause-reached : goal.returns-then-not-can_reach-clause-reached
returns-then-not-can_reach-clause-reached g c =
    let s = c.stopped-then-not-can_reach in
    reached_as 1 s.result.breaks (Err (Space Disk)) s.result.taken s.ensures.breaks s.ensures.taken
    (reaches_none (λ told. c.can_reach.ensures.no c.if-not-can_reach.true
    (subst (λ (r : Option Maps). CanGoOver r c.args.unfreed.now c.args.pages c.args.bands) c.in-Some.is (c.requires.can told))) s.ensures.stopped)

pub returns-then-not-can_reach-clause-freed : goal.returns-then-not-can_reach-clause-freed
returns-then-not-can_reach-clause-freed g c = ok_never _ c.stopped-then-not-can_reach.result.taken (Space Disk) c.stopped-then-not-can_reach.ensures.taken

-- A WALK GOES

pub returns-clause-freed : goal.returns-clause-freed
returns-clause-freed g c = ok_always c.reach_with.result.taken (c.can_reach.ensures.freed c.if-not-can_reach.false)
