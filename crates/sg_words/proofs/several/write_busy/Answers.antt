use Rattle.std.proofs.Common.{List, ℕ, take, codes, ◌++◌, rules, subst}
use Rattle.sg_base.specs.Ends.{TakesFront}
use Rattle.sg_words.specs.Waiting.{Passes}
use Rattle.sg_words.proofs.Waits.{front_longer, end_cut, end_took}
use Rattle.sg_words.proofs.several.write_busy.Goals as goal

pub returns-in-Ok : goal.returns-in-Ok
returns-in-Ok g c =
    let P : List ℕ → Type 0 = λ t. Passes (g.K.Sink.taken c.args.out.now) (t ++ c.args.name.now) (g.K.Sink.taken c.add.new.out) (take c.in-Ok.end c.add.new.waiting) in
    let passes = subst P c.append-end.ensures.front c.in-Ok.ensures.added in
    record {
      took = end_took c.finish.result (g.K.Sink.taken c.args.out.now) (codes "busy " ++ c.args.name.now) (codes "\n") (g.K.Sink.taken c.add.new.out) (take c.in-Ok.end c.add.new.waiting) (g.K.Sink.taken c.finish.new.out) passes c.finish.ensures.took;
      cut = end_cut c.finish.result (g.K.Sink.taken c.args.out.now) (codes "busy " ++ c.args.name.now) (codes "\n") (g.K.Sink.taken c.add.new.out) (take c.in-Ok.end c.add.new.waiting) (g.K.Sink.taken c.finish.new.out) passes c.finish.ensures.cut;
      later = search rules;
      quiet = search rules;
      failed = search rules;
    }

pub returns-in-Err : goal.returns-in-Err
returns-in-Err g c =
    let P : List ℕ → Type 0 = λ t. TakesFront (g.K.Sink.taken c.args.out.now) (t ++ c.args.name.now) (g.K.Sink.taken c.add.new.out) in
    record {
      took = tt;
      cut = front_longer (g.K.Sink.taken c.args.out.now) (codes "busy " ++ c.args.name.now) (codes "\n") (g.K.Sink.taken c.add.new.out) (subst P c.append-end.ensures.front c.in-Err.ensures.cut);
      later = search rules;
      quiet = tt;
      failed = search rules;
    }
