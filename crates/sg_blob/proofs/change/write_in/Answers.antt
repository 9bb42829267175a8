use Rattle.std.proofs.Common.{ℕ, Some, sym, ap, ◌∙◌}
use Rattle.sg_space.proofs.Known.{keeps_then, writes_none, writes_then, writes_less}
use Rattle.sg_blob.proofs.Parts.{still_raw, band_there}
use Rattle.sg_blob.proofs.Turned.{after_reads}
use Rattle.sg_blob.proofs.Writes.{write_turns}
use Rattle.sg_blob.proofs.change.write_in.Goals as goal

pub write_band-requires : goal.write_band-requires
write_band-requires g c = λ told.
    let back = c.band_at.ensures.counts.told told in
    let shows = g.met.P.PageSpace.told_shows _ back in
    let h = c.requires.there back in
    record { there = band_there _ _ (still_raw c.in_ok-b.ensures.kept shows h.1) (c.in_ok-b.ensures.read shows h.0 h.1); piece = c.requires.piece }

pub returns-clause-did : goal.returns-clause-did
returns-clause-did g c =
    let kept = c.in_ok-b.ensures.kept in
    let did = c.in_ok-write_band.ensures.did in
    record {
      keeps = λ t. keeps_then kept.keeps did.keeps;
      turns = λ t r h can.
          let shows = g.met.P.PageSpace.told_shows _ t in
          let told = kept.keeps.told t in
          after_reads kept shows (write_turns c.args.at c.args.bytes.now (still_raw kept shows h) (c.in_ok-b.ensures.read shows r h) can c.requires.piece (did.bands told) (did.pages told));
      wrote = λ t r h can. writes_then (writes_none kept.wrote) (writes_less (λ n same. (_, c.in_ok-b.ensures.read (g.met.P.PageSpace.told_shows _ t) r h ∙ ap (λ (m : ℕ). Some m) (sym same))) did.writes);
    }

pub returns-in_err-write_band-clause-later : goal.returns-in_err-write_band-clause-later
returns-in_err-write_band-clause-later g c = λ t. g.met.P.PageSpace.later_then t _ _ _ (c.band_at.ensures.later t) (c.write_band.ensures.later t)

pub returns-clause-later : goal.returns-clause-later
returns-clause-later g c = λ t. g.met.P.PageSpace.later_then t _ _ _ (c.band_at.ensures.later t) (c.write_band.ensures.later t)
