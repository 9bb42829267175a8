use Rattle.std.proofs.Common.{◌++◌, List, ℕ, sym, ap, ◌∙◌, arith}
use Rattle.std.specs.List.{join_with_byte}
use Rattle.sg_words.specs.Parse.{words_of}
use Rattle.sg_words.proofs.Said.{spaced, join-spaced}
use Rattle.sg_words.proofs.kept.join.Goals as goal

pub words-init : goal.words-init
words-init c =
    record {
      joined = ap (λ (t : List ℕ). t ++ spaced (words_of c.in-Some.after.now)) c.append-end.ensures.front ∙ (sym (join-spaced c.in-Some.word.now (words_of c.in-Some.after.now)) ∙ sym (ap (join_with_byte 32) c.in-Some.ensures.words));
      within = omega (arith, c.append-end.ensures.end, c.in-Some.ensures.within);
      room = λ some. omega (arith, c.append-end.ensures.end, c.in-Some.ensures.cut some);
    }
