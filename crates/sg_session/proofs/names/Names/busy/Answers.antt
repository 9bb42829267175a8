use Rattle.std.proofs.Common.{Option, None, sym, ap, subst}
use Rattle.std.specs.Prelude.{IsSome}
use Rattle.sg_serial.specs.Runs.{Live}
use Rattle.sg_words.specs.Answers.Answer.{Busy}
use Rattle.sg_run.specs.Named.{name_in}
use Rattle.sg_session.proofs.names.Names.busy.Goals as goal

no_some : IsSome {T = Live} None → ⊥
no_some e = cc

pub returns-in-Some-clause-named : goal.returns-in-Some-clause-named
returns-in-Some-clause-named c is into = ap (λ (o : Option Live). Busy (name_in o)) c.in-Some.ensures

pub returns-in-None-clause-named : goal.returns-in-None-clause-named
returns-in-None-clause-named c is = absurd (no_some (subst IsSome (sym c.in-None.ensures) is))
