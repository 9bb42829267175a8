use Rattle.std.proofs.Common.{◌≡◌, ◌+◌, ◌<◌, ◌≤◌, ◌++◌, length, take}
use Rattle.std.specs.List.{join_with_byte}
use Rattle.sg_words.specs.Parse.{words_of}
use Rattle.sg_words.proofs.Said.{spaced}
use Rattle.sg_words.proofs.kept.join.Given as goal

-- what is joined so far, with the words that are left, each behind a space
abbrev pub invariant-words : goal.invariant-words
invariant-words l = record {
  joined : take l.end l.into ++ spaced (words_of l.rest) ≡ join_with_byte 32 (words_of l.text);
  within : l.end ≤ length l.text;
  room : 0 < length l.rest → l.end + length l.rest + 1 ≤ length l.text;
}

abbrev pub decreases-words : goal.decreases-words
decreases-words l = length l.rest
