use Rattle.std.proofs.Common.{take, codes, rules}
use Rattle.sg_words.specs.Text.{printed}
use Rattle.sg_words.proofs.Waits.{last_added, last_cut, cut_first}
use Rattle.sg_words.proofs.several.add_word.Goals as goal

pub returns-in-Ok : goal.returns-in-Ok
returns-in-Ok g c = record {
  within = search rules;
  added = last_added c.add_printed.result (g.K.Sink.taken c.args.out.now) (take c.args.end c.args.waiting.now) (codes " ") (printed c.args.word.now) (g.K.Sink.taken c.add.new.out) (take c.in-Ok.end c.add.new.waiting) (g.K.Sink.taken c.add_printed.new.out) (λ n. take n c.add_printed.new.waiting) c.in-Ok.ensures.added c.add_printed.ensures.added;
  cut = last_cut c.add_printed.result (g.K.Sink.taken c.args.out.now) (take c.args.end c.args.waiting.now) (codes " ") (printed c.args.word.now) (g.K.Sink.taken c.add.new.out) (take c.in-Ok.end c.add.new.waiting) (g.K.Sink.taken c.add_printed.new.out) c.in-Ok.ensures.added c.add_printed.ensures.cut;
  later = search rules;
  quiet = search rules;
  failed = search rules;
}

pub returns-in-Err : goal.returns-in-Err
returns-in-Err g c = record {
  within = tt;
  added = tt;
  cut = cut_first (g.K.Sink.taken c.args.out.now) (take c.args.end c.args.waiting.now) (codes " ") (printed c.args.word.now) (g.K.Sink.taken c.add.new.out) c.in-Err.ensures.cut;
  later = search rules;
  quiet = tt;
  failed = search rules;
}
