use Rattle.sg_ops.specs.Table.{Table, table_of}
use Rattle.sg_space.proofs.Changing.{put_keeps}
use Rattle.sg_space.proofs.Known.{moved, keeps_then}
use Rattle.sg_array.proofs.Growth.{link_possible, link_steps, not_free}
use Rattle.sg_array.proofs.grow.link_new.Goals as goal

pub change-requires-clause-can : goal.change-requires-clause-can
change-requires-clause-can g c = λ told.
    let back = c.take_page.ensures.counts.told told in
    let h = c.requires.can back in
    let took = c.in_ok-new.ensures.did in
    let taken = took.pages back in
    link_possible _ _ c.in_ok-new.new.0 _ (moved (taken.others c.args.p.0 (not_free taken.was_free h.page)) h.page) (took.keeps.may_have _ _ h.may_have) c.write_u32.ensures.bytes

pub returns-clause-did : goal.returns-clause-did
returns-clause-did g c =
    let t : Table = table_of (λ p. (goal.RecordOp-dyn g p).record_meaning p.1) (λ p. (goal.RangeOp-dyn g p).range_meaning p.1) c.args.ops.now in
    let took = c.in_ok-new.ensures.did in
    let did = c.in_ok-change.ensures.did in
    record {
      keeps = λ told. keeps_then took.keeps (put_keeps did);
      done = λ told. link_steps t _ (took.pages told) (took.bands told) (did.pages (took.keeps.told told)) (did.bands (took.keeps.told told)) (c.requires.can told).page c.write_u32.ensures.bytes;
      may_fill = λ told n le. (put_keeps did).may_have _ n (took.may_fill told n le);
      small = took.small;
    }

pub returns-in_err-change-clause-later : goal.returns-in_err-change-clause-later
returns-in_err-change-clause-later g c = g.met.P.PageSpace.later_then _ _ _ _ (c.take_page.ensures.later _) c.change.ensures.later

pub returns-clause-later : goal.returns-clause-later
returns-clause-later g c = g.met.P.PageSpace.later_then _ _ _ _ (c.take_page.ensures.later _) c.change.ensures.later
