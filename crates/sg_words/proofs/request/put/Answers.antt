use Rattle.sg_words.proofs.Counts.{put_read}
use Rattle.std.proofs.Common.{sym, ap, ◌∙◌}
use Rattle.std.specs.Prelude.{option_copied}
use Rattle.std.specs.Prelude.{◌&&◌}
use Rattle.sg_words.proofs.Counts.{halves}
use Rattle.sg_words.proofs.Joined.{joined_on}
use Rattle.sg_words.proofs.request.put.Goals as goal

pub returns-clause-joined : goal.returns-clause-joined
returns-clause-joined c = λ e.
    let last = halves (c.is_next.result && c.is_next-2.result) c.in-Some-one_value.is_last e in
    let both = halves c.is_next.result c.is_next-2.result last.0 in
    joined_on c.args.rest.now c.in-Some.word.now c.in-Some.words.now c.in-Some.ensures.words c.in-Some.ensures.next (c.is_next.ensures both.0)
    (joined_on c.in-Some.words.now c.in-Some-next_word.key_word.now c.in-Some-next_word.last.now c.in-Some-next_word.ensures.words c.in-Some-next_word.ensures.next (c.is_next-2.ensures both.1) (c.in-Some-one_value.ensures.joined last.1))

pub returns-clause-request : goal.returns-clause-request
returns-clause-request c =
    put_read _ _ _ c.in-Some.word.now c.in-Some-next_word.key_word.now c.in-Some-new.name c.in-Some-value.key.now c.in-Some-one_value.value.now
    c.in-Some.ensures.words c.in-Some-next_word.ensures.words (sym c.value.ensures ∙ ap option_copied c.in-Some-value.is) c.in-Some-one_value.ensures.value (sym c.new.ensures ∙ c.in-Some-new.is)
