use Rattle.std.proofs.Common.{◌≡◌, ℕ, ◌+◌, ◌-◌, ◌≤◌, List, length, take, drop, Option, ap, ◌∙◌, arith, length-drop}
use Rattle.std.proofs.lemmas.List.{length-take-le}
use Rattle.sg_base.proofs.Overwriting.{overwritten_by_part}
use Rattle.sg_ops.specs.Meaning.{RangeMeaning}
use Rattle.sg_ops.specs.Table.{table_of, range_at, rendered}
use Rattle.sg_ops.proofs.Rendering.{length-rendered}
use Rattle.sg_space.proofs.stock.paint.Goals as goal

part_long : (band : List ℕ) (at count : ℕ) → at + count ≤ length band → length (take (at + count - at) (drop at band)) ≡ count
part_long band at count fits = length-take-le (at + count - at) (drop at band) (omega (arith, length-drop at band)) ∙ omega arith

pub returns : goal.returns
returns g c =
    let op : Option RangeMeaning = range_at (table_of (λ p. (goal.RecordOp-dyn g p).record_meaning p.1) (λ p. (goal.RangeOp-dyn g p).range_meaning p.1) c.args.ops.now) c.args.code in
    let bytes = rendered op c.args.arg.now c.args.position in
    let long = part_long c.args.band.now c.args.at c.args.count c.requires.fits in
    overwritten_by_part c.args.band.now c.render.new.into (bytes c.args.count) c.args.at _ (c.render.ensures ∙ ap bytes long) (omega (arith, length-rendered op c.args.arg.now c.args.position c.args.count))
