use Rattle.std.specs.Prelude.{◌&&◌}
use Rattle.sg_words.proofs.Counts.{halves}
use Rattle.sg_words.proofs.arguments.numbers.Goals as goal

pub returns-clause-joined : goal.returns-clause-joined
returns-clause-joined c = λ e h.
    let first = c.in-Some.first_joined in
    let second = c.in-Some-number_if.second_joined in
    let third = c.in-Some-number_if-2.third_joined in
    let last = halves (first && second) third e in
    let both = halves first second last.0 in
    c.in-Some.ensures.joined both.0 (c.in-Some-number_if.ensures.joined both.1 (c.in-Some-number_if-2.ensures.joined last.1 h))
