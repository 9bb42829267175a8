use Rattle.std.proofs.Common.{[], ◌∷◌}
use Rattle.sg_ops.specs.Table.{table_of}
use Rattle.sg_model.specs.SaidOps.{said_op}
use Rattle.sg_model.specs.Step.{step}
use Rattle.sg_store.specs.Engine.{led}
use Rattle.sg_store.specs.Seen.{core_of}
use Rattle.sg_tests_store.proofs.Alone.{rests_alone}
use Rattle.sg_tests_store.proofs.do_one.Given as given
use Rattle.sg_tests_store.proofs.do_one.Goals as goal

pub returns-in-Ok-commit-clause-rests : goal.returns-in-Ok-commit-clause-rests
returns-in-Ok-commit-clause-rests g c objects s =
    let t = table_of (λ y. (given.RecordOp-dyn g y).record_meaning y.1) (λ y. (given.RangeOp-dyn g y).range_meaning y.1) c.args.ops.now in
    let u = c.in-Ok.txn.0 in
    let m = (step t objects (said_op c.args.op.now)).1 in
    let a = c.in-Ok.ensures.rests t [] objects objects s in
    let b = c.in-Ok-perform.ensures.rests (u ∷ []) objects objects a in
    let d = c.in-Ok-commit.ensures.rests (u ∷ []) m objects (record { sizes = b.sizes; from = b.from; means = b.means; can = λ told. (b.can told).has }) in
    record {
      sizes = d.sizes;
      from = d.from;
      means = d.means;
      can = λ told.
          (let h = d.can told in
          record { replied = (b.can (c.commit.ensures.told told)).replied; has = rests_alone t (g.E.Engine.basis d.sizes) (led t d.sizes (d.from told) (g.E.Engine.view c.commit.new.self.engine)) (core_of c.commit.new.self) u m h.after h.has });
    }
