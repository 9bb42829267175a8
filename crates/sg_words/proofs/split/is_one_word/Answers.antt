use Rattle.std.proofs.Common.{◌<◌, length, not, ap, ◌∙◌, arith}
use Rattle.std.proofs.lemmas.Bool.Decides.{nat_tests}
use Rattle.sg_words.proofs.Joined.{one_part}
use Rattle.sg_words.proofs.split.is_one_word.Goals as goal

pub returns-then-not-is_empty : goal.returns-then-not-is_empty
returns-then-not-is_empty c =
    let some : 0 < length c.args.text.now = grind (arith, nat_tests) in
    λ h. one_part c.args.text.now c.find_far.result c.find_far.ensures (c.is_none.ensures ∙ ap not h) some
