use Rattle.std.proofs.Common.{◌+◌, ◌∙◌, arith, refl, Option}
use Rattle.sg_ops.specs.Meaning.{RangeMeaning}
use Rattle.sg_ops.specs.Table.{table_of, range_at, rendered}
use Rattle.sg_ops.proofs.Rendering.{length-rendered}
use Rattle.sg_blob.proofs.Pieces.{pieces_none, pieces_on, pieces_all, pieces_one}
use Rattle.sg_blob.proofs.Writing.{writes_none, writes_on, place_on, rendered_none, rendered_on}
use Rattle.sg_blob.proofs.change.paint_all.Goals as goal

pub pieces-init : goal.pieces-init
pieces-init g c =
    let op : Option RangeMeaning = range_at (table_of (λ p. (goal.RecordOp-dyn g p).record_meaning p.1) (λ p. (goal.RangeOp-dyn g p).range_meaning p.1) c.args.ops.now) c.args.code in
    record {
      so_far = writes_none (rendered op c.args.arg.now c.args.at 0) (rendered_none op c.args.arg.now c.args.at);
      later = g.met.P.PageSpace.later_same _ _;
      means = c.requires.means;
      quiet = refl;
      few = pieces_none _ _ _;
    }

pub paint_in-requires-clause-there : goal.paint_in-requires-clause-there
paint_in-requires-clause-there g c = λ told.
    let op : Option RangeMeaning = range_at (table_of (λ p. (goal.RecordOp-dyn g p).record_meaning p.1) (λ p. (goal.RangeOp-dyn g p).range_meaning p.1) c.args.ops.now) c.args.code in
    let i = c.pieces.invariant.so_far in
    let back = i.back told in
    let h = c.requires.there back in
    let most = c.piece-n.ensures.most in
    let test = c.pieces-test.true in
    let within = i.within in
    (_, (i.did.turns back h.0 h.1 h.2).raw, place_on (rendered op c.args.arg.now c.args.at c.pieces.done) h.0 h.2 (length-rendered op c.args.arg.now c.args.at c.pieces.done) (omega arith))

pub paint_in-requires-clause-can : goal.paint_in-requires-clause-can
paint_in-requires-clause-can g c = λ told.
    let i = c.pieces.invariant.so_far in
    let back = i.back told in
    let can = c.requires.can back in
    record { known = can.known; short = can.short }

pub pieces-preserved : goal.pieces-preserved
pieces-preserved g c =
    let op : Option RangeMeaning = range_at (table_of (λ p. (goal.RecordOp-dyn g p).record_meaning p.1) (λ p. (goal.RangeOp-dyn g p).range_meaning p.1) c.args.ops.now) c.args.code in
    let i = c.pieces.invariant.so_far in
    let most = c.piece-n.ensures.most in
    let test = c.pieces-test.true in
    let counts = c.paint_in.ensures.counts in
    record {
      so_far = writes_on c.piece-n.result c.piece-n.result (rendered op c.args.arg.now c.args.at c.pieces.done) (rendered op c.args.arg.now (c.args.at + c.pieces.done) c.piece-n.result) (rendered op c.args.arg.now c.args.at (c.pieces.done + c.piece-n.result))
          (length-rendered op c.args.arg.now c.args.at c.pieces.done) (omega arith) refl (rendered_on op c.args.arg.now c.args.at c.pieces.done c.piece-n.result) i counts.told counts.later c.in_ok-paint_in.ensures.did;
      later = g.met.P.PageSpace.later_then _ _ _ _ c.pieces.invariant.later c.paint_in.ensures.later;
      means = c.paint_in.ensures.means;
      quiet = c.in_ok-paint_in.ensures.counts.quiet ∙ c.pieces.invariant.quiet;
      few = pieces_on _ _ _ _ c.pieces.done _ c.piece-n.result c.pieces.invariant.few c.pieces-test.true c.piece-n.ensures.value c.paint_in.ensures.few;
    }

pub returns-in_err-paint_in-clause-few : goal.returns-in_err-paint_in-clause-few
returns-in_err-paint_in-clause-few g c = pieces_one _ _ _ _ c.pieces.done _ c.pieces.invariant.few c.pieces-test.true c.paint_in.ensures.few

pub returns-clause-few : goal.returns-clause-few
returns-clause-few g c = pieces_all _ _ _ c.pieces.done _ c.pieces.invariant.few c.pieces.invariant.so_far.within

pub returns-in_err-paint_in-clause-later : goal.returns-in_err-paint_in-clause-later
returns-in_err-paint_in-clause-later g c = g.met.P.PageSpace.later_then _ _ _ _ c.pieces.invariant.later c.paint_in.ensures.later
