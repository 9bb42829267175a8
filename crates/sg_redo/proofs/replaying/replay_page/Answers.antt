use Rattle.std.proofs.Common.{◌∙◌, arith}
use Rattle.std.proofs.lemmas.Grind.{common_steps}
use Rattle.sg_ops.specs.Table.{Table, table_of}
use Rattle.sg_redo.proofs.InTurn.{page_turn, page_since_turn, well_more}
use Rattle.sg_redo.proofs.replaying.replay_page.Goals as goal

pub places-preserved : goal.places-preserved
places-preserved g c =
    let t : Table = table_of (λ p. (goal.RecordOp-dyn g p).record_meaning p.1) (λ p. (goal.RangeOp-dyn g p).range_meaning p.1) c.args.ops.now in
    record {
      page = grind (arith, common_steps, page_turn);
      since = c.redo_page.ensures.since ∙ page_since_turn t c.args.text.now c.args.places.now c.places.k _ c.args.page.now c.places.page c.args.since.now c.places.since c.places-test.true c.places.invariant.page c.places.invariant.since;
      well = well_more c.args.page.now c.places.page c.redo_page.new.page c.places.invariant.well c.redo_page.ensures.well;
    }
