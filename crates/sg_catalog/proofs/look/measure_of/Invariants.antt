use Rattle.std.proofs.Common.{◌≡◌, ◌≤◌, ◌<◌, take, MatchOption, is_some}
use Rattle.std.specs.List.{count_by}
use Rattle.sg_base.specs.Page.{slots_of}
use Rattle.sg_base.specs.Slots.{IsFree}
use Rattle.sg_catalog.proofs.look.measure_of.Given as goal

abbrev pub invariant-loop-slot : goal.invariant-loop-slot
invariant-loop-slot l = record {
  within : l.full ≤ l.slot;
  full : l.full ≡ count_by is_some (take l.slot (slots_of l.view.page.now));
  free : MatchOption l.free (l.full ≡ l.slot) (λ slot. (slot < 79) × IsFree (slots_of l.view.page.now) slot);
}
