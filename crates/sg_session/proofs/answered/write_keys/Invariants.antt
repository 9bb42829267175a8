use Rattle.std.proofs.Common.{◌≡◌, ◌≤◌, ◌++◌, length, take, codes, decimal}
use Rattle.std.specs.List.{flat_map}
use Rattle.sg_words.specs.Answers.{behind_space}
use Rattle.sg_words.specs.Waiting.{Passes}
use Rattle.sg_session.proofs.answered.write_keys.Given as goal

-- how many keys there are, and the keys so far
abbrev pub invariant-keys : goal.invariant-keys
invariant-keys g l = record {
  within : l.end ≤ length l.waiting;
  so_far : Passes (g.K.Sink.taken l.fn.out) ((codes "ok " ++ decimal (length l.keys)) ++ flat_map behind_space (take l.key-index l.keys))
      (g.K.Sink.taken l.out) (take l.end l.waiting);
  quiet : g.K.Sink.faults l.out ≡ g.K.Sink.faults l.fn.out;
}
