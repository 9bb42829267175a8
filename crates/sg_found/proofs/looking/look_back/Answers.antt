use Rattle.std.proofs.Common.{sym, ap, ◌∙◌}
use Rattle.sg_actions.specs.Steps.{step_of}
use Rattle.sg_actions.proofs.Offing.{shown_is}
use Rattle.sg_actions.proofs.PuttingBack.{no_fault}
use Rattle.sg_found.specs.Found.{back_by}
use Rattle.sg_found.proofs.looking.look_back.Goals as goal

pub returns-in-Ok-clause-saw : goal.returns-in-Ok-clause-saw
returns-in-Ok-clause-saw g c = λ t from m told.
    let read = c.in_ok-size.ensures.read t from m told in
    c.back_of.ensures ∙ sym (ap back_by (read.step ∙ ap step_of (sym (shown_is _ _ _ _ _ c.in-Ok.ensures.exact read.is))))

pub returns-in-Err-clause-saw : goal.returns-in-Err-clause-saw
returns-in-Err-clause-saw g c = λ t from m told.
    let read = c.in_ok-size.ensures.read t from m told in
    absurd (no_fault c.in-Err.ensures.exact read.is)
