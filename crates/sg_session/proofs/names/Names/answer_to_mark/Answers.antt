use Rattle.std.proofs.Common.{◌≡◌, ℕ, List, sym, subst}
use Rattle.sg_store.specs.declared.fault.MarkRefused.{MarkRefused}
use Rattle.sg_words.specs.Answered.{shown_answer}
use Rattle.sg_store.specs.Refusals.{said_why}
use Rattle.sg_session.specs.Lines.{answer_mark}
use Rattle.sg_session.specs.Names.{all_live, IsNamedAtMark}
use Rattle.sg_session.specs.Causes.{trouble_in, trouble_at_mark}
use Rattle.sg_session.proofs.names.Names.answer_to_mark.Goals as goal

pub returns-in-Store-clause-says : goal.returns-in-Store-clause-says
returns-in-Store-clause-says c =
    subst (λ (why : MarkRefused). IsNamedAtMark (all_live c.args.self.now.all.items) why → (into : List ℕ) → shown_answer into c.answer_to.result ≡ answer_mark (all_live c.args.self.now.all.items) (said_why why)) (sym c.in-Store.is) c.answer_to.ensures.says

pub returns-in-Store-clause-trouble : goal.returns-in-Store-clause-trouble
returns-in-Store-clause-trouble c =
    subst (λ (why : MarkRefused). (into : List ℕ) → trouble_in (shown_answer into c.answer_to.result) ≡ trouble_at_mark why) (sym c.in-Store.is) c.answer_to.ensures.trouble
