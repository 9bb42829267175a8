use Rattle.std.proofs.Common.{refl}
use Rattle.sg_ops.specs.Table.{table_of}
use Rattle.sg_space.proofs.Known.{keeps_then}
use Rattle.sg_array.proofs.Links.{still_array}
use Rattle.sg_array.proofs.Turned.{after_reads}
use Rattle.sg_array.proofs.Setting.{set_possible_at, set_turns, set_keeps}
use Rattle.sg_array.proofs.array.set.Goals as goal

pub change-requires-clause-can : goal.change-requires-clause-can
change-requires-clause-can g c = λ told.
    let back = c.find_item.ensures.counts.told told in
    let shows = g.met.P.PageSpace.told_shows _ back in
    let h = c.requires.can back in
    set_possible_at (table_of (λ p. (goal.RecordOp-dyn g p).record_meaning p.1) (λ p. (goal.RangeOp-dyn g p).range_meaning p.1) c.args.ops.now) _ (still_array c.in_ok-place.ensures.kept shows h.1).built (c.in_ok-place.ensures.read shows h.0 h.1) (record { sized = h.2.1; bytes = c.are_bytes.ensures })

pub returns-clause-did : goal.returns-clause-did
returns-clause-did g c =
    let kept = c.in_ok-place.ensures.kept in
    let did = c.in_ok-change.ensures.did in
    record {
      keeps = λ t.
          let shows = g.met.P.PageSpace.told_shows _ t in
          let h = c.requires.can t in
          keeps_then kept.keeps (set_keeps {t = table_of (λ p. (goal.RecordOp-dyn g p).record_meaning p.1) (λ p. (goal.RangeOp-dyn g p).range_meaning p.1) c.args.ops.now} (still_array kept shows h.1).built (c.in_ok-place.ensures.read shows h.0 h.1) h.2.1 did);
      turns = λ t a h can.
          let shows = g.met.P.PageSpace.told_shows _ t in
          let at = c.in_ok-place.ensures.read shows a h in
          (_, after_reads kept shows (set_turns (table_of (λ p. (goal.RecordOp-dyn g p).record_meaning p.1) (λ p. (goal.RangeOp-dyn g p).range_meaning p.1) c.args.ops.now) (still_array kept shows h) at (record { sized = can.1; bytes = c.are_bytes.ensures }) (did.pages (kept.keeps.told t)) (did.bands (kept.keeps.told t))), record { items = refl; same = record { size = refl; peak = refl; index = refl; leaves = refl } });
    }

pub returns-then-item-place-clause-later : goal.returns-then-item-place-clause-later
returns-then-item-place-clause-later g c = g.met.P.PageSpace.later_then _ _ _ _ (c.find_item.ensures.later _) (c.broken.ensures.later _)

pub returns-in_err-change-clause-later : goal.returns-in_err-change-clause-later
returns-in_err-change-clause-later g c = g.met.P.PageSpace.later_then _ _ _ _ (c.find_item.ensures.later _) c.change.ensures.later

pub returns-clause-later : goal.returns-clause-later
returns-clause-later g c = g.met.P.PageSpace.later_then _ _ _ _ (c.find_item.ensures.later _) c.change.ensures.later
