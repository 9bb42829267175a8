use Rattle.std.proofs.Common.{cond, length, ap, sym, ◌∙◌, map, ◌+◌, arith}
use Rattle.sg_locks.specs.Shown.{shown_hold}
use Rattle.sg_locks.proofs.Counting.{count_step}
use Rattle.sg_locks.proofs.table.Table.count_new.Goals as goal
use Rattle.sg_locks.proofs.table.Table.count_new.Goals.{then-is_new, else-is_new}

pub loop-i-preserved : goal.loop-i-preserved
loop-i-preserved c =
    let held = length c.args.self.now.holds.items in
    let counted = count_step c.args.t.0 c.args.wanted.now c.loop-i.i c.index-wanted-i.result (map shown_hold c.args.self.now.holds.items) c.loop-i.count held c.is_new.result c.loop-i-test.true c.loop-i.invariant.counted
    c.is_new.ensures in
    elim c.if-is_new.branch [
      | then-is_new w ↦ record {
        counted = ap (λ n. n + held) (w.count-is ∙ sym (ap (λ b. cond b (c.loop-i.count + 1) c.loop-i.count) w.if-is_new.true)) ∙ counted;
        few = omega (arith, w.count-is, c.loop-i.invariant.few);
      }
      | else-is_new w ↦ record {
        counted = ap (λ n. n + held) (w.count-is ∙ sym (ap (λ b. cond b (c.loop-i.count + 1) c.loop-i.count) w.if-is_new.false)) ∙ counted;
        few = omega (arith, w.count-is, c.loop-i.invariant.few);
      }
    ]
