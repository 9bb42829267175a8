use Rattle.std.proofs.Common.{refl}
use Rattle.sg_ops.specs.Table.{Table, table_of}
use Rattle.sg_space.proofs.Changing.{keeps_but}
use Rattle.sg_space.proofs.Known.{keeps_then}
use Rattle.sg_array.proofs.Links.{still_array}
use Rattle.sg_array.proofs.Turned.{after_reads}
use Rattle.sg_array.proofs.Applying.{back_possible, before_item, back_turns, is_applied_back}
use Rattle.sg_array.proofs.items.apply_back.Goals as goal

pub change-requires-clause-can : goal.change-requires-clause-can
change-requires-clause-can g c = λ told.
    let t : Table = table_of (λ p. (goal.RecordOp-dyn g p).record_meaning p.1) (λ p. (goal.RangeOp-dyn g p).range_meaning p.1) c.args.ops.now in
    let back = c.find_item.ensures.counts.told told in
    let shows = g.met.P.PageSpace.told_shows _ back in
    let h = c.requires.there back in
    let kept = c.in_ok-place.ensures.kept in
    back_possible t _ (still_array kept shows h.1).built (c.in_ok-place.ensures.read shows h.0 h.1) h.2 (c.requires.short back)

pub returns-clause-did : goal.returns-clause-did
returns-clause-did g c =
    let t : Table = table_of (λ p. (goal.RecordOp-dyn g p).record_meaning p.1) (λ p. (goal.RangeOp-dyn g p).range_meaning p.1) c.args.ops.now in
    let kept = c.in_ok-place.ensures.kept in
    let did = c.in_ok-change.ensures.did in
    record {
      keeps = λ told. keeps_then kept.keeps (keeps_but {t = t} did (λ sheet is. refl));
      turns = λ told a h can.
          let shows = g.met.P.PageSpace.told_shows _ told in
          let at = c.in_ok-place.ensures.read shows a h in
          (_, after_reads kept shows (back_turns {t = t} (still_array kept shows h) at can (before_item {t = t} c.laws.ensures c.are_bytes.ensures h.built can) (did.pages (kept.keeps.told told)) (did.bands (kept.keeps.told told))), is_applied_back {t = t} c.laws.ensures c.are_bytes.ensures can);
    }

pub returns-in_err-change-clause-later : goal.returns-in_err-change-clause-later
returns-in_err-change-clause-later g c = g.met.P.PageSpace.later_then _ _ _ _ (c.find_item.ensures.later _) c.change.ensures.later

pub returns-clause-later : goal.returns-clause-later
returns-clause-later g c = g.met.P.PageSpace.later_then _ _ _ _ (c.find_item.ensures.later _) c.change.ensures.later
