use Rattle.std.proofs.Common.{◌≡◌, ◌+◌, ◌-◌, ◌*◌, length, get_or, refl, ◌∙◌, arith, drop, length-take, length-drop}
use Rattle.std.proofs.lemmas.Slice.{take-put_mid}
use Rattle.sg_gate.proofs.Texts.{longer_count, longer_numbers}
use Rattle.sg_gate.proofs.header.write_header.Goals as goal

pub numbers-preserved : goal.numbers-preserved
numbers-preserved c =
    let text = c.numbers.text in
    let sub = c.write_u32-in-numbers.new.into in
    let long : length sub ≡ length text - (4 + 4 * c.numbers.k) = c.write_u32-in-numbers.auto.into ∙ length-take (length text - (4 + 4 * c.numbers.k)) (drop (4 + 4 * c.numbers.k) text) ∙ simp length-drop (omega arith) in
    let made = take-put_mid (4 + 4 * c.numbers.k) (length text - (4 + 4 * c.numbers.k)) text sub (length text) (omega arith) (omega arith) in
    let k = c.numbers.k in
    record {
      count = longer_count text sub _ c.args.numbers.now k (get_or c.args.numbers.now k 0) (length text) (omega arith) (omega arith) refl c.write_u32-in-numbers.ensures.back (omega arith) made c.numbers.invariant.count;
      numbers = longer_numbers text sub _ c.args.numbers.now k (get_or c.args.numbers.now k 0) (length text) (omega arith) (omega arith) refl c.write_u32-in-numbers.ensures.back (omega arith) made c.numbers.invariant.numbers;
    }
