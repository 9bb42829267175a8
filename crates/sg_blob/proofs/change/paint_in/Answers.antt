use Rattle.std.proofs.Common.{ℕ, Option, Some, sym, ap, ◌∙◌}
use Rattle.sg_ops.specs.Meaning.{RangeMeaning}
use Rattle.sg_ops.specs.Table.{table_of, range_at}
use Rattle.sg_space.proofs.Known.{keeps_then, writes_none, writes_then, writes_less}
use Rattle.sg_ops.proofs.Rendering.{length-rendered}
use Rattle.sg_blob.proofs.Parts.{still_raw, band_there}
use Rattle.sg_blob.proofs.Turned.{after_reads}
use Rattle.sg_blob.proofs.Writes.{paint_turns}
use Rattle.sg_blob.proofs.change.paint_in.Goals as goal

pub paint_band-requires-clause-can : goal.paint_band-requires-clause-can
paint_band-requires-clause-can g c = λ told.
    let back = c.band_at.ensures.counts.told told in
    let shows = g.met.P.PageSpace.told_shows _ back in
    let h = c.requires.there back in
    let can = c.requires.can back in
    record {
      writable = record { there = band_there _ _ (still_raw c.in_ok-b.ensures.kept shows h.1) (c.in_ok-b.ensures.read shows h.0 h.1); piece = c.requires.piece };
      known = can.known;
      short = can.short;
      ends = c.requires.small;
    }

pub returns-clause-did : goal.returns-clause-did
returns-clause-did g c =
    let op : Option RangeMeaning = range_at (table_of (λ p. (goal.RecordOp-dyn g p).record_meaning p.1) (λ p. (goal.RangeOp-dyn g p).range_meaning p.1) c.args.ops.now) c.args.code in
    let kept = c.in_ok-b.ensures.kept in
    let did = c.in_ok-paint_band.ensures.did in
    record {
      keeps = λ t. keeps_then kept.keeps did.keeps;
      turns = λ t r h can.
          let shows = g.met.P.PageSpace.told_shows _ t in
          let told = kept.keeps.told t in
          after_reads kept shows (paint_turns c.args.at c.args.count _ (length-rendered op c.args.arg.now c.args.at c.args.count) (still_raw kept shows h) (c.in_ok-b.ensures.read shows r h) can c.requires.piece (did.bands told) (did.pages told));
      wrote = λ t r h can. writes_then (writes_none kept.wrote) (writes_less (λ n same. (_, c.in_ok-b.ensures.read (g.met.P.PageSpace.told_shows _ t) r h ∙ ap (λ (m : ℕ). Some m) (sym same))) did.writes);
    }

pub returns-in_err-paint_band-clause-later : goal.returns-in_err-paint_band-clause-later
returns-in_err-paint_band-clause-later g c = g.met.P.PageSpace.later_then _ _ _ _ (c.band_at.ensures.later _) c.paint_band.ensures.later

pub returns-clause-later : goal.returns-clause-later
returns-clause-later g c = g.met.P.PageSpace.later_then _ _ _ _ (c.band_at.ensures.later _) c.paint_band.ensures.later
