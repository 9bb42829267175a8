use Rattle.std.proofs.Common.{rules, ◌≡◌, ◌+◌, ◌<◌, ℕ, Some, length, slice_index}
use Rattle.sg_ops.specs.Shipped.{fill_meaning, fill_byte}
use Rattle.sg_ops.specs.Table.{byte_of}
use Rattle.sg_ops.proofs.Rendering.{rendered_is}
use Rattle.sg_ops.proofs.shipped.fill.Goals as goal

pub returns-then-is_empty : goal.returns-then-is_empty
unfolding byte_of
returns-then-is_empty c =
    let each : (k : ℕ) → k < length c.args.into.now → slice_index c.fill.new.self k ≡ fill_byte c.args.arg.now (c.args.pos + k) = search rules in
    rendered_is (Some fill_meaning) c.args.arg.now c.args.pos (length c.args.into.now) c.fill.new.self (search rules) each

pub returns-after-loop-k : goal.returns-after-loop-k
unfolding byte_of
returns-after-loop-k c =
    let each : (k : ℕ) → k < length c.args.into.now → slice_index c.loop-k.into k ≡ fill_byte c.args.arg.now (c.args.pos + k) = search rules in
    rendered_is (Some fill_meaning) c.args.arg.now c.args.pos (length c.args.into.now) c.loop-k.into c.loop-k.auto.into each
