use Rattle.std.proofs.Common.{arith, ◌≡◌, true}
use Rattle.std.proofs.lemmas.Bool.Decides.{nat_tests}
use Rattle.sg_model.specs.Keys.{is_table_key}
use Rattle.sg_model.proofs.Made.{made}
use Rattle.sg_model.proofs.key.Key.new.Goals as goal

pub invariant_of-result : goal.invariant_of-result
invariant_of-result c =
    let fits : is_table_key c.args.bytes.now ≡ true = grind (arith, nat_tests) in
    made c.copy_from_slice.new.self c.args.bytes.now c.copy_from_slice.ensures.after fits
