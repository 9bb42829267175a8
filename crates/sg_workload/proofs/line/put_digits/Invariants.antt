use Rattle.std.proofs.Common.{◌≡◌, ◌+◌, ◌*◌, ◌++◌, take}
use Rattle.sg_workload.specs.Texts.{repeated, digits_of}
use Rattle.sg_workload.proofs.line.put_digits.Given as goal

abbrev pub invariant-copies : goal.invariant-copies
invariant-copies l = record {
  end_is : l.end ≡ l.at + 8 * l.counter;
  front : take l.end l.into ≡ take l.fn.at l.fn.into ++ repeated l.counter (digits_of l.word);
}
