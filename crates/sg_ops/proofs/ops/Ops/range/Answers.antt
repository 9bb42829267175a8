use Rattle.std.proofs.Common.{◌≡◌, ◌==◌, nat_eq, false, rules}
use Rattle.sg_ops.proofs.Finds.{match_mapped}
use Rattle.sg_ops.specs.Table.{range_of, range_at}
use Rattle.sg_ops.proofs.ops.Ops.range.Goals as goal

pub returns : goal.returns
unfolding range_at
returns g c =
    let e : nat_eq 1 c.args.code ≡ false = search rules in
    rw e (match_mapped (λ m. m.code == c.args.code) (range_of (λ b. (goal.RangeOp-dyn g (b.vtable, b.value)).range_meaning b.value)) c.args.self.now.ranges.items _ (rw c.deref.ensures.value at c.find_range.ensures))
