use Rattle.std.proofs.Common.{◌≡◌, Bool, false, true, refl}
use Rattle.std.proofs.lemmas.Bool.{OnTrue_from, OnTrue_at, OnFalse_from, OnFalse_at}
use Rattle.sg_base.specs.Op.{op_of}
use Rattle.sg_base.specs.Sheet.{sheet_of}
use Rattle.sg_ops.specs.Table.{table_of}
use Rattle.sg_step.proofs.After.{back_after, some_is}
use Rattle.sg_step.proofs.take_off.do_and_take_off.Goals as goal

pub returns-clause-done : goal.returns-clause-done
returns-clause-done g c =
    let t = table_of (λ p. (goal.RecordOp-dyn g p).record_meaning p.1) (λ p. (goal.RangeOp-dyn g p).range_meaning p.1) c.args.ops.now in
    let b = back_after t (op_of c.args.op.now) (op_of c.args.back.now) c.args.page.now (sheet_of c.apply.new.page) c.laws.ensures c.requires.slotted c.are_bytes.ensures c.requires.plain (record { bytes = c.brings_bytes.ensures; done = c.requires.proper }) c.requires.inverse c.if-not-apply.ensures.done in
    ((λ yes. some_is c.if-not-apply.ensures.done), (λ some. by c.apply-2.result (λ no. let none = OnFalse_at no c.apply-2.ensures.refused in let fits = b.fits in absurd (cc))))
  where
    by : (b : Bool) → (b ≡ false → ⊥) → b ≡ true
    by true h = refl
    by false h = absurd (h refl)

pub returns-clause-alike : goal.returns-clause-alike
returns-clause-alike g c = OnTrue_from c.apply-2.result _ (λ yes.
    let t = table_of (λ p. (goal.RecordOp-dyn g p).record_meaning p.1) (λ p. (goal.RangeOp-dyn g p).range_meaning p.1) c.args.ops.now in
    let b = back_after t (op_of c.args.op.now) (op_of c.args.back.now) c.args.page.now (sheet_of c.apply.new.page) c.laws.ensures c.requires.slotted c.are_bytes.ensures c.requires.plain (record { bytes = c.brings_bytes.ensures; done = c.requires.proper }) c.requires.inverse c.if-not-apply.ensures.done in
    b.alike (sheet_of c.apply-2.new.page) (OnTrue_at yes c.apply-2.ensures.done))

pub returns-clause-same : goal.returns-clause-same
returns-clause-same g c = OnFalse_from c.apply-2.result _ (λ no.
    let t = table_of (λ p. (goal.RecordOp-dyn g p).record_meaning p.1) (λ p. (goal.RangeOp-dyn g p).range_meaning p.1) c.args.ops.now in
    let b = back_after t (op_of c.args.op.now) (op_of c.args.back.now) c.args.page.now (sheet_of c.apply.new.page) c.laws.ensures c.requires.slotted c.are_bytes.ensures c.requires.plain (record { bytes = c.brings_bytes.ensures; done = c.requires.proper }) c.requires.inverse c.if-not-apply.ensures.done in
    let none = OnFalse_at no c.apply-2.ensures.refused in let fits = b.fits in absurd (cc))
