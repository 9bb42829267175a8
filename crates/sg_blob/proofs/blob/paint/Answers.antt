use Rattle.std.proofs.Common.{Option, arith, refl}
use Rattle.sg_ops.specs.Meaning.{RangeMeaning}
use Rattle.sg_ops.specs.Table.{table_of, range_at, rendered}
use Rattle.sg_space.proofs.Known.{keeps_then, writes_none, writes_then}
use Rattle.sg_ops.proofs.Rendering.{length-rendered}
use Rattle.sg_blob.specs.Blob.{raw_of}
use Rattle.sg_blob.specs.Steps.{with_bytes}
use Rattle.sg_blob.proofs.Over.{length_over}
use Rattle.sg_blob.proofs.Parts.{still_blob}
use Rattle.sg_blob.proofs.Turned.{after_reads}
use Rattle.sg_blob.proofs.Wholes.{whole, blob_of}
use Rattle.sg_blob.proofs.blob.paint.Goals.{then-at-found-via-then-at-found, then-at-found-via-else-at-found+then-count-found}
use Rattle.sg_blob.proofs.blob.paint.Goals as goal

pub broken-requires : goal.broken-requires
broken-requires g c = λ told.
    let back = c.read_root.ensures.counts.told told in
    let shows = g.met.P.PageSpace.told_shows _ back in
    let h = c.requires.there back in
    let count = (c.in_ok-found.ensures.read shows (raw_of h.0) h.1.raw).0 in
    let fits = h.2 in
    elim c.then-at-found.branch [
      | then-at-found-via-then-at-found w ↦ let more = w.if-at-found in omega arith
      | then-at-found-via-else-at-found+then-count-found w ↦ let more = w.if-count-found in omega arith
    ]

pub paint_all-requires-clause-there : goal.paint_all-requires-clause-there
paint_all-requires-clause-there g c = λ told.
    let back = c.read_root.ensures.counts.told told in
    let shows = g.met.P.PageSpace.told_shows _ back in
    let h = c.requires.there back in
    let b = still_blob c.in_ok-found.ensures.kept shows h.1 in
    let least = b.least in
    let peak = b.raw.below_peak in
    let fits = h.2 in
    (raw_of h.0, b.raw, record { from = omega arith; within = omega arith })

pub paint_all-requires-clause-can : goal.paint_all-requires-clause-can
paint_all-requires-clause-can g c = λ told.
    let back = c.read_root.ensures.counts.told told in
    let can = c.requires.can back in
    record { known = can.known; short = can.short }

pub returns-clause-did : goal.returns-clause-did
returns-clause-did g c =
    let op : Option RangeMeaning = range_at (table_of (λ p. (goal.RecordOp-dyn g p).record_meaning p.1) (λ p. (goal.RangeOp-dyn g p).range_meaning p.1) c.args.ops.now) c.args.code in
    let kept = c.in_ok-found.ensures.kept in
    let did = c.in_ok-paint_all.ensures.did in
    record {
      keeps = λ t. keeps_then kept.keeps (did.keeps (kept.keeps.told t));
      turns = λ t b h can.
          let shows = g.met.P.PageSpace.told_shows _ t in
          let k = still_blob kept shows h in
          let least = k.least in
          let peak = k.raw.below_peak in
          let size = length-rendered op c.args.arg.now c.args.at c.args.count in
          let long = length_over b.bytes (rendered op c.args.arg.now c.args.at c.args.count) c.args.at (omega arith) in
          let one = did.turns (kept.keeps.told t) (raw_of b) k.raw (record { from = omega arith; within = omega arith }) in
          (blob_of (with_bytes c.args.at (rendered op c.args.arg.now c.args.at c.args.count) (raw_of b)), whole _ (after_reads kept shows one) (omega arith) h.least h.most, record { bytes = refl; peak = refl; bands = refl }, writes_then (writes_none kept.wrote) (did.wrote (kept.keeps.told t) (raw_of b) k.raw (record { from = omega arith; within = omega arith })));
    }

pub returns-clause-within : goal.returns-clause-within
returns-clause-within g c = λ shows b h.
    let count = (c.in_ok-found.ensures.read shows (raw_of b) h.raw).0 in
    let from = c.if-at-found.false in
    let to = c.if-count-found.false in
    omega arith

pub returns-then-at-found-clause-later : goal.returns-then-at-found-clause-later
returns-then-at-found-clause-later g c = g.met.P.PageSpace.later_then _ _ _ _ (c.read_root.ensures.later _) (c.broken.ensures.later _)

pub returns-in_err-paint_all-clause-later : goal.returns-in_err-paint_all-clause-later
returns-in_err-paint_all-clause-later g c = g.met.P.PageSpace.later_then _ _ _ _ (c.read_root.ensures.later _) c.paint_all.ensures.later

pub returns-clause-later : goal.returns-clause-later
returns-clause-later g c = g.met.P.PageSpace.later_then _ _ _ _ (c.read_root.ensures.later _) c.paint_all.ensures.later
