use Rattle.std.proofs.Common.{sym, ◌∙◌, arith}
use Rattle.sg_words.proofs.Joined.{cut_apart}
use Rattle.sg_words.proofs.split.next_word.Goals as goal

pub returns-then-not-is_empty-clause-next : goal.returns-then-not-is_empty-clause-next
returns-then-not-is_empty-clause-next c = λ some is.
    let shorter = rw c.in-Some.is at c.cut.ensures.shorter in
    sym (c.parts.invariant.whole (omega (arith, shorter, is))) ∙ cut_apart c.parts.rest.now c.cut.result.0.now c.in-Some.after.now (rw c.in-Some.is at c.cut.ensures.more)
