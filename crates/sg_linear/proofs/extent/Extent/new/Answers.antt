use Rattle.std.proofs.Common.{◌≡◌, ℕ, ◌^◌, ap, ◌∙◌, arith}
use Rattle.std.proofs.lemmas.Nat.{pow_pos}
use Rattle.sg_linear.proofs.Growing.{low_fits}
use Rattle.sg_linear.proofs.extent.Extent.new.Goals as goal

pub invariant_of-result : goal.invariant_of-result
invariant_of-result c =
    let end = c.loop-doubled-test.false in
    let most = c.loop-doubled.auto._doubled-end in
    let at : c.loop-doubled._doubled ≡ c.args.level = omega arith in
    let power : c.loop-doubled.low ≡ 2 ^ c.args.level = c.loop-doubled.invariant ∙ ap (λ (n : ℕ). 2 ^ n) at in
    let level = c.if-level-gt20.false in
    let fits = low_fits c.args.level level in
    let some = pow_pos c.args.level in
    let from = c.from.ensures in
    let less = c.if-from-low.false in
    record { power = power; some = omega arith; most = omega arith; within = omega arith }
