use Rattle.std.proofs.Common.{ℕ, [], ◌∙◌, sym, ap}
use Rattle.sg_ops.specs.Table.{Table, table_of, range_at, rendered}
use Rattle.sg_phys_laws.proofs.Counted.{render_none}
use Rattle.sg_phys_laws.proofs.logging.render.Goals as goal

pub returns-else-has_range-clause-text : goal.returns-else-has_range-clause-text
returns-else-has_range-clause-text g c =
    let t : Table = table_of (λ p. (goal.RecordOp-dyn g p).record_meaning p.1) (λ p. (goal.RangeOp-dyn g p).range_meaning p.1) c.args.ops.now in
    c.render-else-has_range.ensures ∙ (ap (λ (n : ℕ). rendered (range_at t 1) [] 0 n) c.requires.size
    ∙ render_none t c.args.change.now.code c.args.change.now.position c.args.change.now.count c.args.change.now.arg.now c.laws.ensures (sym c.has_range.ensures ∙ c.if-has_range.false))
