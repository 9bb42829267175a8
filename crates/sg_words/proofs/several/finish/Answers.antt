use Rattle.std.proofs.Common.{take, codes, ◌++◌, rules}
use Rattle.sg_words.proofs.Waits.{written_took, written_cut}
use Rattle.sg_words.proofs.several.finish.Goals as goal

pub returns-in-Ok : goal.returns-in-Ok
returns-in-Ok g c = record {
  took = written_took c.write.result (g.K.Sink.taken c.args.out.now) (take c.args.end c.args.waiting.now ++ codes "\n") (g.K.Sink.taken c.add.new.out) (take c.in-Ok.end c.add.new.waiting) (g.K.Sink.taken c.write.new.self) c.in-Ok.ensures.added c.write.ensures.took;
  cut = written_cut c.write.result (g.K.Sink.taken c.args.out.now) (take c.args.end c.args.waiting.now ++ codes "\n") (g.K.Sink.taken c.add.new.out) (take c.in-Ok.end c.add.new.waiting) (g.K.Sink.taken c.write.new.self) c.in-Ok.ensures.added c.write.ensures.cut;
  later = search rules;
  quiet = search rules;
  failed = search rules;
}
