use Rattle.sg_catalog.proofs.change.set_peak.Goals as goal

pub returns-in_err-change-clause-later : goal.returns-in_err-change-clause-later
returns-in_err-change-clause-later g c = g.met.P.PageSpace.later_then _ _ _ _ (c.links_at.ensures.later _) c.change.ensures.later

pub returns-clause-later : goal.returns-clause-later
returns-clause-later g c = g.met.P.PageSpace.later_then _ _ _ _ (c.links_at.ensures.later _) c.change.ensures.later
