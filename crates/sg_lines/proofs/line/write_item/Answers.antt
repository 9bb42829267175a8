use Rattle.std.proofs.Common.{List, ℕ, take, codes, ◌++◌, rules, subst}
use Rattle.sg_base.specs.Ends.{TakesFront}
use Rattle.sg_words.specs.Answers as words
use Rattle.sg_words.specs.Waiting.{Passes}
use Rattle.sg_words.proofs.Waits.{front_longer, end_cut, end_took}
use Rattle.sg_lines.specs.Text.{behind_space}
use Rattle.sg_lines.proofs.line.write_item.Goals as goal

pub returns-in-Ok : goal.returns-in-Ok
returns-in-Ok g c =
    let had = g.K.Sink.taken c.args.out.now in
    let mid = g.K.Sink.taken c.add_word.new.out in
    let has = g.K.Sink.taken c.finish.new.out in
    let word = words.behind_space c.args.item.now in
    let waits = take c.in-Ok.end c.add_word.new.waiting in
    let P : List ℕ → Type 0 = λ t. Passes had (t ++ word) mid waits in
    let passes = subst P c.put_number-end.ensures.front c.in-Ok.ensures.added in
    record {
      took = end_took c.finish.result had (behind_space c.args.index ++ word) (codes "\n") mid waits has passes c.finish.ensures.took;
      cut = end_cut c.finish.result had (behind_space c.args.index ++ word) (codes "\n") mid waits has passes c.finish.ensures.cut;
      later = search rules;
      quiet = search rules;
      failed = search rules;
    }

pub returns-in-Err : goal.returns-in-Err
returns-in-Err g c =
    let had = g.K.Sink.taken c.args.out.now in
    let word = words.behind_space c.args.item.now in
    let P : List ℕ → Type 0 = λ t. TakesFront had (t ++ word) (g.K.Sink.taken c.add_word.new.out) in
    record {
      took = tt;
      cut = front_longer had (behind_space c.args.index ++ word) (codes "\n") (g.K.Sink.taken c.add_word.new.out) (subst P c.put_number-end.ensures.front c.in-Err.ensures.cut);
      later = search rules;
      quiet = tt;
      failed = search rules;
    }
