use Rattle.std.proofs.Common.{take, codes, ◌++◌, rules}
use Rattle.sg_words.specs.Answers.{behind_space}
use Rattle.sg_words.proofs.Waits.{front_longer, passes_on, passes_cut_on, end_cut, end_took}
use Rattle.sg_lines.proofs.line.write_entry.Goals as goal

pub returns-in-Err : goal.returns-in-Err
returns-in-Err g c =
    let had = g.K.Sink.taken c.args.out.now in
    let has = g.K.Sink.taken c.add_word.new.out in
    let key = behind_space c.args.key.now in
    let value = behind_space c.args.value.now in
    record {
      took = tt;
      cut = front_longer had (key ++ value) (codes "\n") has (front_longer had key value has c.in-Err.ensures.cut);
      later = search rules;
      quiet = tt;
      failed = search rules;
    }

pub returns-in-Ok-add_word : goal.returns-in-Ok-add_word
returns-in-Ok-add_word g c =
    let had = g.K.Sink.taken c.args.out.now in
    let first = g.K.Sink.taken c.add_word.new.out in
    let mid = g.K.Sink.taken c.add_word-2.new.out in
    let has = g.K.Sink.taken c.finish.new.out in
    let key = behind_space c.args.key.now in
    let value = behind_space c.args.value.now in
    let waits = take c.in-Ok-add_word.end c.add_word-2.new.waiting in
    let passes = passes_on had key first (take c.in-Ok.end c.add_word.new.waiting) value mid waits c.in-Ok.ensures.added c.in-Ok-add_word.ensures.added in
    record {
      took = end_took c.finish.result had (key ++ value) (codes "\n") mid waits has passes c.finish.ensures.took;
      cut = end_cut c.finish.result had (key ++ value) (codes "\n") mid waits has passes c.finish.ensures.cut;
      later = search rules;
      quiet = search rules;
      failed = search rules;
    }

pub returns-in-Err-add_word : goal.returns-in-Err-add_word
returns-in-Err-add_word g c =
    let had = g.K.Sink.taken c.args.out.now in
    let first = g.K.Sink.taken c.add_word.new.out in
    let has = g.K.Sink.taken c.add_word-2.new.out in
    let key = behind_space c.args.key.now in
    let value = behind_space c.args.value.now in
    record {
      took = tt;
      cut = front_longer had (key ++ value) (codes "\n") has (passes_cut_on had key first (take c.in-Ok.end c.add_word.new.waiting) value has c.in-Ok.ensures.added c.in-Err-add_word.ensures.cut);
      later = search rules;
      quiet = tt;
      failed = search rules;
    }
