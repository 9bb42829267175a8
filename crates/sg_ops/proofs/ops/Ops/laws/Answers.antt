use Rattle.std.proofs.Common.{◌==◌, slice_index_or, refl, arith}
use Rattle.std.proofs.lemmas.List.{length-map}
use Rattle.std.proofs.lemmas.List.Elements.{All-map}
use Rattle.sg_ops.specs.Meaning.{IsUndoable, GivesBytes}
use Rattle.sg_ops.specs.Shipped.{fill_meaning}
use Rattle.sg_ops.specs.Table.{record_of, range_of, record_at, range_at}
use Rattle.sg_ops.proofs.FillLaw.{fill_gives_bytes}
use Rattle.sg_ops.proofs.Finds.{find_holds, find_holds_after}
use Rattle.sg_ops.proofs.EntryLaws.{keeps_law, gives}
use Rattle.sg_ops.proofs.ops.Ops.laws.Goals as goal

pub returns : goal.returns
unfolding record_at range_at
returns g c =
    let records_met = g.dyn-1-met g.world.𝓛 g.world.𝓜 g.world.𝓡 ((λ s x. x), (λ x. x), (λ x. x), (λ x. x)) in
    let ranges_met = g.dyn-2-met g.world.𝓛 g.world.𝓜 g.world.𝓡 ((λ s x. x), (λ x. x), (λ x. x), (λ x. x)) in
    record {
      undoable = λ code. find_holds IsUndoable (λ m. m.code == code) _ (All-map IsUndoable (record_of (λ b. (goal.RecordOp-dyn g (b.vtable, b.value)).record_meaning b.value)) c.args.self.now.records.items (λ k d h. keeps_law _ (λ b. (records_met b.vtable).0.record_law b.value) (slice_index_or c.args.self.now.records.items k d)));
      gives_bytes = λ code. find_holds_after GivesBytes (λ m. m.code == code) fill_meaning _ fill_gives_bytes (All-map GivesBytes (range_of (λ b. (goal.RangeOp-dyn g (b.vtable, b.value)).range_meaning b.value)) c.args.self.now.ranges.items (λ k d h. gives _ (λ b. (ranges_met b.vtable).0.range_law b.value) (slice_index_or c.args.self.now.ranges.items k d)));
      has_fill = refl;
      few_records = rw length-map (omega arith);
      few_ranges = rw length-map (omega arith);
    }
