use Rattle.std.proofs.Common.{Result, Ok, Err, OnOk, OnErr}
use Rattle.sg_session.specs.Answered.{shown}
use Rattle.sg_session.proofs.session.Session.line.Goals as goal

on_ok : {T E A B : Type 0} (r : Result T E) → (A → B) → OnOk r A → OnOk r B
on_ok (Ok u) f is = f is
on_ok (Err e) f is = tt

on_err : {T E A B : Type 0} (r : Result T E) → (A → B) → OnErr r A → OnErr r B
on_err (Ok u) f is = tt
on_err (Err e) f is = f is

pub returns-clause-line : goal.returns-clause-line
returns-clause-line g c = on_ok c.write_answered.result (λ took. record {
  answer = shown c.answer-answer.new.into c.answer-answer.result;
  caused = c.answer-answer.ensures.caused;
  by_stop = c.answer-answer.ensures.still;
  answers = c.answer-answer.ensures.line;
  took = took;
}) c.write_answered.ensures.took

pub returns-clause-cut : goal.returns-clause-cut
returns-clause-cut g c = on_err c.write_answered.result (λ took. record {
  answer = shown c.answer-answer.new.into c.answer-answer.result;
  caused = c.answer-answer.ensures.caused;
  by_stop = c.answer-answer.ensures.still;
  answers = c.answer-answer.ensures.line;
  took = took;
}) c.write_answered.ensures.cut
