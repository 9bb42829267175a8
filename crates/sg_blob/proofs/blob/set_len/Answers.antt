use Rattle.std.proofs.Common.{ℕ, ◌+◌, ◌/◌, Option, IsSome, sym, ap, subst, ◌∙◌, arith, refl}
use Rattle.sg_ops.specs.Meaning.{RangeMeaning}
use Rattle.sg_ops.specs.Table.{table_of, range_at}
use Rattle.sg_space.proofs.Known.{keeps_then, writes_none, writes_then, writes_less}
use Rattle.sg_blob.specs.Blob.{raw_of}
use Rattle.sg_blob.specs.Calls.{resized}
use Rattle.sg_blob.proofs.Parts.{still_blob}
use Rattle.sg_blob.proofs.Turned.{after_reads, turns_then}
use Rattle.sg_blob.proofs.Wholes.{whole, blob_of, can_grow, has_still, has_after, same_bytes, cut_at, fill_there, length_resized}
use Rattle.sg_blob.proofs.blob.set_len.Goals as goal

pub paint_all-requires-clause-there : goal.paint_all-requires-clause-there
paint_all-requires-clause-there g c = λ told.
    let back = c.read_root.ensures.counts.told told in
    let shows = g.met.P.PageSpace.told_shows _ back in
    let h = c.requires.there back in
    let b = still_blob c.in_ok-found.ensures.kept shows h.1 in
    let from = c.min-from.ensures in
    let is = c.in_ok-found.ensures.read shows (raw_of h.0) h.1.raw in
    let count = is.0 in
    let least = b.least in
    let peak = b.raw.below_peak in
    (raw_of h.0, b.raw, record { from = omega arith; within = omega arith })

pub paint_all-requires-clause-can : goal.paint_all-requires-clause-can
paint_all-requires-clause-can g c = λ told. record { known = subst IsSome (sym (fill_there _ _)) refl; short = omega arith }

pub grow_to-requires-clause-there : goal.grow_to-requires-clause-there
grow_to-requires-clause-there g c = λ told.
    let back2 = c.paint_all.ensures.counts.told told in
    let back = c.read_root.ensures.counts.told back2 in
    let shows = g.met.P.PageSpace.told_shows _ back in
    let h = c.requires.there back in
    let kept = c.in_ok-found.ensures.kept in
    let b = still_blob kept shows h.1 in
    let is = c.in_ok-found.ensures.read shows (raw_of h.0) h.1.raw in
    let count = is.0 in
    let from = c.min-from.ensures in
    let least = b.least in
    let peak = b.raw.below_peak in
    let painted = c.in_ok-paint_all.ensures.did in
    let one = painted.turns back2 (raw_of h.0) b.raw (record { from = omega arith; within = omega arith }) in
    let want = c.bands_for-2.ensures ∙ ap (λ (n : ℕ). (n + 32767) / 32768) c.max-peak.ensures in
    let grow = can_grow b.least b.most (has_after one refl (painted.keeps back2) (has_still kept shows h.2)) is.1 c.bands_for.ensures want _ refl in
    (_, one.raw, grow)

pub set_root-requires-clause-there : goal.set_root-requires-clause-there
set_root-requires-clause-there g c = λ told.
    let back3 = c.grow_to.ensures.counts.told told in
    let back2 = c.paint_all.ensures.counts.told back3 in
    let back = c.read_root.ensures.counts.told back2 in
    let shows = g.met.P.PageSpace.told_shows _ back in
    let h = c.requires.there back in
    let kept = c.in_ok-found.ensures.kept in
    let b = still_blob kept shows h.1 in
    let is = c.in_ok-found.ensures.read shows (raw_of h.0) h.1.raw in
    let count = is.0 in
    let from = c.min-from.ensures in
    let least = b.least in
    let peak = b.raw.below_peak in
    let painted = c.in_ok-paint_all.ensures.did in
    let one = painted.turns back2 (raw_of h.0) b.raw (record { from = omega arith; within = omega arith }) in
    let want = c.bands_for-2.ensures ∙ ap (λ (n : ℕ). (n + 32767) / 32768) c.max-peak.ensures in
    let grow = can_grow b.least b.most (has_after one refl (painted.keeps back2) (has_still kept shows h.2)) is.1 c.bands_for.ensures want _ refl in
    let two = c.in_ok-grow_to.ensures.did.turns back3 _ one.raw grow in
    (two.0, (two.1).raw, tt)

pub returns-clause-did : goal.returns-clause-did
returns-clause-did g c =
    let op : Option RangeMeaning = range_at (table_of (λ p. (goal.RecordOp-dyn g p).record_meaning p.1) (λ p. (goal.RangeOp-dyn g p).range_meaning p.1) c.args.ops.now) 1 in
    let kept = c.in_ok-found.ensures.kept in
    let painted = c.in_ok-paint_all.ensures.did in
    let grown = c.in_ok-grow_to.ensures.did in
    let set = c.in_ok-set_root.ensures.did in
    record {
      keeps = λ t.
          let t1 = kept.keeps.told t in
          let t2 = (painted.keeps t1).told t1 in
          let t3 = (grown.keeps t2).told t2 in
          keeps_then kept.keeps (keeps_then (painted.keeps t1) (keeps_then (grown.keeps t2) (set.keeps t3)));
      turns = λ t b h can.
          let shows = g.met.P.PageSpace.told_shows _ t in
          let t1 = kept.keeps.told t in
          let t2 = (painted.keeps t1).told t1 in
          let t3 = (grown.keeps t2).told t2 in
          let k = still_blob kept shows h in
          let is = c.in_ok-found.ensures.read shows (raw_of b) h.raw in
          let count = is.0 in
          let peak_was = is.1 in
          let from = c.min-from.ensures in
          let least = k.least in
          let peak = k.raw.below_peak in
          let one = painted.turns t1 (raw_of b) k.raw (record { from = omega arith; within = omega arith }) in
          let want = c.bands_for-2.ensures ∙ ap (λ (n : ℕ). (n + 32767) / 32768) c.max-peak.ensures in
          let grow = can_grow k.least k.most (has_after one refl (painted.keeps t1) (has_still kept shows can)) is.1 c.bands_for.ensures want _ refl in
          let two = grown.turns t2 _ one.raw grow in
          let three = set.turns t3 two.0 (two.1).raw tt in
          let all = after_reads kept shows (turns_then one (turns_then two.1 three)) in
          let bands = (two.2).long in
          let peak_is = c.max-peak.ensures in
          let size = length_resized c.args.size b.bytes in
          let reads = cut_at op b.bytes (two.0).bytes c.args.size c.min-from.result c.in_ok-found.found.count (fill_there _ _) is.0 c.min-from.ensures (two.2).same_bytes in (
            blob_of (record { count = c.args.size; peak = c.max-peak.result; bands = (two.0).bands; bytes = resized c.args.size b.bytes }),
            whole _ (same_bytes (resized c.args.size b.bytes) reads (omega arith) all) (sym size) (omega arith) (omega arith),
            record { bytes = refl; peak = omega arith; bands = (two.2).extends },
            writes_then (writes_none kept.wrote) (writes_then (writes_less (two.1).bands.more (painted.wrote t1 (raw_of b) k.raw (record { from = omega arith; within = omega arith }))) (writes_then two.3 (set.wrote t3 two.0 (two.1).raw tt))),
          );
    }

pub returns-in_err-paint_all-clause-later : goal.returns-in_err-paint_all-clause-later
returns-in_err-paint_all-clause-later g c = g.met.P.PageSpace.later_then _ _ _ _ (c.read_root.ensures.later _) c.paint_all.ensures.later

pub returns-in_err-grow_to-clause-later : goal.returns-in_err-grow_to-clause-later
returns-in_err-grow_to-clause-later g c =
    let then = g.met.P.PageSpace.later_then _ in
    then _ _ _ (c.read_root.ensures.later _) (then _ _ _ c.paint_all.ensures.later c.grow_to.ensures.later)

pub returns-in_err-set_root-clause-later : goal.returns-in_err-set_root-clause-later
returns-in_err-set_root-clause-later g c =
    let then = g.met.P.PageSpace.later_then _ in
    then _ _ _ (c.read_root.ensures.later _) (then _ _ _ c.paint_all.ensures.later (then _ _ _ c.grow_to.ensures.later c.set_root.ensures.later))

pub returns-clause-later : goal.returns-clause-later
returns-clause-later g c =
    let then = g.met.P.PageSpace.later_then _ in
    then _ _ _ (c.read_root.ensures.later _) (then _ _ _ c.paint_all.ensures.later (then _ _ _ c.grow_to.ensures.later c.set_root.ensures.later))
