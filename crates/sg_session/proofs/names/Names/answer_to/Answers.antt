use Rattle.std.proofs.Common.{◌≡◌, ℕ, List, sym, subst}
use Rattle.sg_store.specs.declared.fault.Refused.{Refused}
use Rattle.sg_words.specs.Answered.{shown_answer}
use Rattle.sg_run.specs.Named.{answer_to}
use Rattle.sg_store.specs.Refusals.{said_refusal}
use Rattle.sg_session.specs.Names.{all_live, IsNamed}
use Rattle.sg_session.specs.Causes.{trouble_in, trouble_of}
use Rattle.sg_session.proofs.names.Names.answer_to.Goals as goal

pub returns-in-Busy-clause-says : goal.returns-in-Busy-clause-says
returns-in-Busy-clause-says c =
    subst (λ (why : Refused). IsNamed (all_live c.args.self.now.all.items) why → (into : List ℕ) → shown_answer into c.busy.result ≡ answer_to (all_live c.args.self.now.all.items) (said_refusal why)) (sym c.in-Busy.is) c.busy.ensures.named

pub returns-in-Busy-clause-trouble : goal.returns-in-Busy-clause-trouble
returns-in-Busy-clause-trouble c =
    subst (λ (why : Refused). (into : List ℕ) → trouble_in (shown_answer into c.busy.result) ≡ trouble_of why) (sym c.in-Busy.is) c.busy.ensures.trouble
