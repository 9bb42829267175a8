use Rattle.std.proofs.Common.{◌++◌, take, arith, sym, ap, ◌∙◌, append-nil, append_assoc}
use Rattle.hex.specs.Hex.{encode_lower}
use Rattle.sg_workload.specs.Texts.{repeated, digits_of}
use Rattle.sg_workload.proofs.Copies.{repeated-one_more}
use Rattle.sg_workload.proofs.line.put_digits.Goals as goal

pub copies-init : goal.copies-init
unfolding repeated
copies-init c = record { end_is = omega arith; front = sym (append-nil (take c.args.at c.args.into.now)) }

pub copies-preserved : goal.copies-preserved
copies-preserved c =
    let before = take c.args.at c.args.into.now in
    let copies = repeated c.copies.counter (digits_of c.args.word) in
    record {
      end_is = omega arith;
      front =
          c.append_hex-end.ensures.front
          ∙ ap (λ f. f ++ encode_lower c.to_be_bytes.result) c.copies.invariant.front
          ∙ ap (λ bytes. (before ++ copies) ++ encode_lower bytes) c.to_be_bytes.ensures
          ∙ append_assoc before copies (digits_of c.args.word)
          ∙ ap (λ text. before ++ text) (sym (repeated-one_more c.copies.counter (digits_of c.args.word)));
    }
