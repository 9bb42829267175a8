use Rattle.std.proofs.Common.{◌≡◌, ◌<◌, ◌^◌, drop}
use Rattle.sg_words.specs.Parse.{value_from}
use Rattle.sg_words.proofs.number.value.Given as goal

-- the value so far, with the digits that are left after it
abbrev pub invariant-digits : goal.invariant-digits
invariant-digits l = (value_from l.value (drop l.b-index l.digits) ≡ value_from 0 l.digits) × (l.value < 2 ^ 64)
