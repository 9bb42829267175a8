use Rattle.std.proofs.Common.{ℕ, List, IsTrue, sym, ap, ◌∙◌, subst}
use Rattle.std.specs.Prelude.{slice_set}
use Rattle.std.specs.Simd.{first_chunks}
use Rattle.sg_ops.specs.Table.{table_of, record_at, accepts_of, after_of}
use Rattle.sg_plain.proofs.Chunks.{item_cut, item_put, length_cut}
use Rattle.sg_plain.proofs.array.redo_in.Goals as goal

pub redo-requires : goal.redo-requires
redo-requires g c =
    let t = table_of (λ p. (goal.RecordOp-dyn g p).record_meaning p.1) (λ p. (goal.RangeOp-dyn g p).range_meaning p.1) c.args.ops.now in
    let P : List ℕ → Type 0 = λ item. IsTrue (accepts_of (record_at t c.args.code) item c.args.arg.now) in
    subst P (sym (item_cut c.args.size c.args.count c.args.index c.args.bytes.now c.requires.there c.requires.whole)) c.requires.accepted

pub returns : goal.returns
returns g c =
    let t = table_of (λ p. (goal.RecordOp-dyn g p).record_meaning p.1) (λ p. (goal.RangeOp-dyn g p).range_meaning p.1) c.args.ops.now in
    let cut = item_cut c.args.size c.args.count c.args.index c.args.bytes.now c.requires.there c.requires.whole in
    let A : List ℕ → List ℕ = λ item. after_of (record_at t c.args.code) item c.args.arg.now in
    let P : List ℕ → List (List ℕ) = λ item. slice_set (first_chunks c.args.size c.args.count c.args.bytes.now) c.args.index item in
    item_put c.args.size c.args.count c.args.index c.args.bytes.now c.redo.new.item c.requires.there c.requires.whole (c.redo.auto.item ∙ length_cut c.args.size c.args.count c.args.index c.args.bytes.now c.requires.there c.requires.whole) ∙ ap P (c.redo.ensures ∙ ap A cut)
