use Rattle.std.proofs.Common.{◌≤◌, ◌≡◌, ℕ, length, arith, ap, ◌∙◌, subst}
use Rattle.byteorder.specs.Endian.{little_bytes}
use Rattle.sg_base.specs.Overwritten.{Wrote}
use Rattle.sg_base.proofs.Overwriting.{wrote_on}
use Rattle.sg_record.specs.Changes.{change_kind}
use Rattle.sg_record.specs.Records.{code_of}
use Rattle.sg_record.specs.Shown.{shown_change}
use Rattle.sg_record.proofs.writer.put_says.Goals as goal

pub returns-in-TopEnd : goal.returns-in-TopEnd
returns-in-TopEnd c =
    let within : c.args.at ≤ length c.args.into.now = omega arith in
    rw c.in-TopEnd.is (wrote_on within c.put_u64-at.ensures c.put_counted.ensures)

pub returns-in-PhysComp : goal.returns-in-PhysComp
returns-in-PhysComp c =
    let within : c.args.at ≤ length c.args.into.now = omega arith in
    let code : c.code_of.result ≡ code_of (change_kind (shown_change c.in-PhysComp.change)) = c.code_of.ensures ∙ ap code_of c.kind.ensures in
    let byte = subst (λ (n : ℕ). Wrote c.put_u64-at-in-PhysComp.new.into c.put_u64-at-in-PhysComp.result (little_bytes 1 n) c.put_u8-at.new.into c.put_u8-at.result) code c.put_u8-at.ensures in
    rw c.in-PhysComp.is (wrote_on within (wrote_on within c.put_u64-at-in-PhysComp.ensures byte) c.put_change-in-PhysComp.ensures)

pub returns-in-Checkpoint : goal.returns-in-Checkpoint
returns-in-Checkpoint c =
    let within : c.args.at ≤ length c.args.into.now = omega arith in
    rw c.in-Checkpoint.is (wrote_on within (wrote_on within c.put_u64-at-in-Checkpoint.ensures c.put_u16-at.ensures) c.put_text.ensures)
