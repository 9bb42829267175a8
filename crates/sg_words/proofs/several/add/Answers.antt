use Rattle.std.proofs.Common.{take, rules, arith}
use Rattle.sg_words.proofs.Steps.{front_behind}
use Rattle.sg_words.proofs.Waits.{passes_whole}
use Rattle.sg_words.proofs.several.add.Goals as goal

pub returns-in-Ok-write : goal.returns-in-Ok-write
returns-in-Ok-write g c = record {
  within = omega arith;
  added = passes_whole (g.K.Sink.taken c.args.out.now) (take c.args.end c.args.waiting.now) c.args.bytes.now (g.K.Sink.taken c.write.new.self) (g.K.Sink.taken c.write-2.new.self) c.in-Ok.ensures.took c.in-Ok-write.ensures.took;
  cut = tt;
  later = search rules;
  quiet = search rules;
  failed = tt;
}

pub returns-in-Err-write : goal.returns-in-Err-write
returns-in-Err-write g c = record {
  within = tt;
  added = tt;
  cut = front_behind (g.K.Sink.taken c.args.out.now) (take c.args.end c.args.waiting.now) (g.K.Sink.taken c.write.new.self) c.args.bytes.now (g.K.Sink.taken c.write-2.new.self) c.in-Ok.ensures.took c.in-Err-write.ensures.cut;
  later = search rules;
  quiet = tt;
  failed = search rules;
}
