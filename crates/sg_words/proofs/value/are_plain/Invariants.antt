use Rattle.std.proofs.Common.{◌≡◌, take, nat_le}
use Rattle.std.specs.List.{list_all}
use Rattle.sg_words.specs.Parse.{is_plain}
use Rattle.sg_words.proofs.value.are_plain.Given as goal

abbrev pub invariant-bytes : goal.invariant-bytes
invariant-bytes l = nat_le l.most 93 ≡ list_all is_plain (take l.b-index l.word)
