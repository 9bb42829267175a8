use Rattle.sg_words.specs.Requests.Request.{Do}
use Rattle.sg_words.proofs.Counts.{numbered_read}
use Rattle.std.proofs.Common.{Some, sym, ap, ◌∙◌}
use Rattle.std.specs.Prelude.{◌&&◌}
use Rattle.sg_words.proofs.Counts.{halves}
use Rattle.sg_words.proofs.Joined.{joined_on}
use Rattle.sg_words.proofs.request.with_value.Goals as goal

pub returns-clause-joined : goal.returns-clause-joined
returns-clause-joined c = λ e.
    let numbers = c.in-Some-numbers.are_joined in
    let last = halves (c.is_next.result && numbers) c.in-Some-one_value.is_last e in
    let both = halves c.is_next.result numbers last.0 in
    joined_on c.args.rest.now c.in-Some.word.now c.in-Some.behind.now c.in-Some.ensures.words c.in-Some.ensures.next (c.is_next.ensures both.0)
    (c.in-Some-numbers.ensures.joined both.1 (c.in-Some-one_value.ensures.joined last.1))

pub returns-clause-request : goal.returns-clause-request
returns-clause-request c =
    numbered_read c.args.verb _ _ _ c.in-Some.word.now c.in-Some-new.name c.in-Some-one_value.value.now c.in-Some-numbers.first c.in-Some-numbers.second c.in-Some-numbers.third
    c.in-Some.ensures.words c.in-Some-numbers.ensures.numbers c.in-Some-one_value.ensures.value (sym c.new.ensures ∙ c.in-Some-new.is) ∙ ap (λ op. Some (Do op)) (sym c.op_with.ensures)
