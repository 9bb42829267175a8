use Rattle.std.proofs.Common.{◌+◌, ◌∙◌, ap, arith}
use Rattle.sg_base.proofs.Overwriting.{wrote_on}
use Rattle.sg_record.specs.Records.{HEADER, code_of}
use Rattle.sg_record.specs.Shown.{shown, shown_says}
use Rattle.sg_record.proofs.Written.{encoded}
use Rattle.sg_record.proofs.writer.encode.Goals as goal

pub returns-clause-bytes : goal.returns-clause-bytes
returns-clause-bytes c =
    encoded c.args.into.now c.put_says.new.into c.put_says.result (shown c.args.r.now) (shown_says c.says-says.result) c.code_of.result (HEADER + c.body_size-size.result) c.txn.result.0 c.prev.result
    c.says-says.ensures (c.code_of.ensures ∙ ap code_of c.kind.ensures) (ap (λ n. HEADER + n) c.body_size-size.ensures) c.txn.ensures c.prev.ensures
    (wrote_on (omega arith) c.put_header-at.ensures c.put_says.ensures)
