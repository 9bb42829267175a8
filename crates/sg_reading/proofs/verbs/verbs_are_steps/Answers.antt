use Rattle.std.specs.Prelude.{is_ok}
use Rattle.sg_model.specs.Step.{on}
use Rattle.sg_reading.specs.Reading.{plain}
use Rattle.sg_reading.specs.Model.{bare_ground}
use Rattle.sg_reading.proofs.Done as done
use Rattle.sg_reading.proofs.Keeping as keeping
use Rattle.sg_reading.proofs.verbs.verbs_are_steps.Goals as goal

pub returns-clause-step : goal.returns-clause-step
returns-clause-step c = λ t d name verb o. done.done_step t bare_ground d name verb o

pub returns-clause-formed : goal.returns-clause-formed
returns-clause-formed c = λ t law d verb thing. keeping.verb_formed t law d verb (is_ok (on t verb (plain thing)).0) thing
