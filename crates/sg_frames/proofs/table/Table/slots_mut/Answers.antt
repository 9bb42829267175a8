use Rattle.std.proofs.Common.{List, length, refl, sym, ap, ◌∙◌}
use Rattle.std.specs.List.{refill}
use Rattle.sg_frames.specs.Pieces.{Piece, Pieces, lying}
use Rattle.sg_frames.specs.Tables.{with_slots}
use Rattle.sg_frames.proofs.Lying.{length-spots}
use Rattle.sg_frames.proofs.Entries.{table_of, table_of-refill}
use Rattle.sg_frames.proofs.table.Table.slots_mut.Goals as goal

pub returns : goal.returns
returns c =
    let t = c.self.inside in let slots = t.slots in (
      (
        refl,
        λ (w : List Piece). ap (λ n. table_of t.start t.size (refill n slots.items w)) slots.ok.0 ∙ table_of-refill t.start t.size slots.items w ∙ λ k. with_slots (c.self.view_is k) w,
      ),
      record {
        writes_back = tt;
        value = record {
          many = ap length c.as_mut_slice.ensures.value ∙ sym (length-spots t.start t.size (length slots.items)) ∙ ap (λ (p : Pieces). length p.spots) c.self.view_is;
          bytes = (λ k. lying (sym c.self.view_is k).spots (c.as_mut_slice.ensures.value k)) ∙ ap (λ (p : Pieces). p.bytes) c.self.view_is;
        };
      },
    )
