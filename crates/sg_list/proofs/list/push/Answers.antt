use Rattle.sg_list.proofs.Pushing.{push_possible, pushed}
use Rattle.sg_list.proofs.list.push.Goals as goal

pub change-requires-clause-can : goal.change-requires-clause-can
change-requires-clause-can g c = λ told.
    let back = c.in_ok-slot.ensures.counts.told told in
    let h = c.requires.can back in
    let shows = g.met.P.PageSpace.told_shows _ back in
    push_possible _ _ _ c.args.root.0 c.in_ok-slot.slot h.0 c.args.item.now (c.in_ok-slot.ensures.read shows h.0 h.1) c.in_ok-slot.ensures.kept shows h.1 h.2

pub returns-clause-did : goal.returns-clause-did
returns-clause-did g c =
    pushed _ _ _ _ c.args.root.0 c.in_ok-slot.slot c.args.item.now c.in_ok-slot.ensures.kept (g.met.P.PageSpace.told_shows _) c.in_ok-slot.ensures.read c.requires.can c.in_ok-change.ensures.did
