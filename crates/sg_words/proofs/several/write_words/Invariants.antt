use Rattle.std.proofs.Common.{◌≡◌, ◌≤◌, ◌++◌, length, take, codes, decimal}
use Rattle.std.specs.List.{flat_map}
use Rattle.sg_words.specs.Answers.{behind_space}
use Rattle.sg_words.specs.Waiting.{Passes}
use Rattle.sg_words.proofs.several.write_words.Given as goal

-- how many words there are, and the words so far
abbrev pub invariant-words : goal.invariant-words
invariant-words g l = record {
  within : l.end ≤ length l.waiting;
  so_far : Passes (g.K.Sink.taken l.fn.out) ((codes "ok " ++ decimal (length l.words)) ++ flat_map (λ w. behind_space (g.W.Word.bytes_of w)) (take l.word-index l.words))
      (g.K.Sink.taken l.out) (take l.end l.waiting);
  quiet : g.K.Sink.faults l.out ≡ g.K.Sink.faults l.fn.out;
}
