use Rattle.std.proofs.Common.{◌≡◌, ◌%◌, [], ◌∷◌, ℕ, subst, sym, arith}
use Rattle.sg_base.specs.Overwritten.{Wrote}
use Rattle.sg_base.proofs.put.put_u8.Goals as goal

pub returns : goal.returns
returns c =
    let byte : c.args.number % 256 ≡ c.args.number = omega arith in
    subst (λ (n : ℕ). Wrote c.args.into.now c.args.at (n ∷ []) c.put_text.new.into c.put_text.result) (sym byte) c.put_text.ensures
