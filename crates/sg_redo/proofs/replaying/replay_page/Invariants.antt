use Rattle.std.proofs.Common.{◌≡◌, ◌⊎◌, take}
use Rattle.sg_base.specs.Page.{IsSlotted}
use Rattle.sg_ops.specs.Table.{table_of}
use Rattle.sg_redo.specs.History.{repeated, since_repeated}
use Rattle.sg_redo.specs.Places.{page_records}
use Rattle.sg_redo.proofs.replaying.replay_page.Given as goal

-- the records at the places before this one are done
abbrev pub invariant-places : goal.invariant-places
invariant-places g l = record {
  page : l.page ≡ repeated (page_records (table_of (λ p. (goal.RecordOp-dyn g p).record_meaning p.1) (λ p. (goal.RangeOp-dyn g p).range_meaning p.1) l.ops) l.text (take l.k l.places)) l.initial.page;
  since : l.since ≡ since_repeated (page_records (table_of (λ p. (goal.RecordOp-dyn g p).record_meaning p.1) (λ p. (goal.RangeOp-dyn g p).range_meaning p.1) l.ops) l.text (take l.k l.places)) l.initial.page l.initial.since;
  well : (l.page ≡ l.initial.page) ⊎ IsSlotted l.page;
}
