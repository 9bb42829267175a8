use Rattle.sg_ops.specs.Table.{Table, table_of}
use Rattle.sg_array.proofs.Ends.{take_possible, root_there, take_builds, root_still}
use Rattle.sg_array.specs.Steps.{root_of}
use Rattle.sg_array.proofs.grow.take_last.Goals as goal

pub change-requires-clause-can : goal.change-requires-clause-can
change-requires-clause-can g c = λ told. let h = c.requires.can told in take_possible _ _ h.1 h.2

pub set_root-requires-clause-can : goal.set_root-requires-clause-can
set_root-requires-clause-can g c = λ told.
    let back = c.change.ensures.counts.told told in
    let h = c.requires.can back in
    root_there _ _ h.1 h.2.place.leaf_is (c.in_ok-change.ensures.did.pages back)

pub returns-clause-did : goal.returns-clause-did
returns-clause-did g c =
    let t : Table = table_of (λ p. (goal.RecordOp-dyn g p).record_meaning p.1) (λ p. (goal.RangeOp-dyn g p).range_meaning p.1) c.args.ops.now in
    let first = c.in_ok-change.ensures.did in
    let then = c.in_ok-set_root.ensures.did in
    record {
      keeps = λ told.
          let kept = then.keeps (first.told told) in
          record {
            told = λ h. kept.told (first.told h);
            may_take = λ h. kept.may_take (first.may_take h);
            may_have = λ q n ne h. kept.may_have q n (first.may_have q n ne h);
          };
      done = λ told a h last.
          let mid = first.told told in
          take_builds t h last (first.pages told) (first.bands told) (then.pages mid (root_of a) a.index (root_still _ h last.place.leaf_is (first.pages told))) (then.bands mid);
    }

pub returns-in_err-set_root-clause-later : goal.returns-in_err-set_root-clause-later
returns-in_err-set_root-clause-later g c = g.met.P.PageSpace.later_then _ _ _ _ c.change.ensures.later c.set_root.ensures.later

pub returns-clause-later : goal.returns-clause-later
returns-clause-later g c = g.met.P.PageSpace.later_then _ _ _ _ c.change.ensures.later c.set_root.ensures.later
