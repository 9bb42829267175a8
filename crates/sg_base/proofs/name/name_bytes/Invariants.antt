use Rattle.std.proofs.Common.{◌≡◌, ◌-◌, ◌++◌, true, take, replicate}
use Rattle.std.specs.List.{list_all}
use Rattle.sg_base.specs.Spelling.{is_name_byte}
use Rattle.sg_base.proofs.name.name_bytes.Given as goal

abbrev pub invariant-loop-i : goal.invariant-loop-i
invariant-loop-i l = record {
  bytes : l.bytes ≡ take l.i l.text ++ replicate (32 - l.i) 0;
  all : list_all is_name_byte (take l.i l.text) ≡ true;
}
