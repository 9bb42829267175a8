use Rattle.std.proofs.Common.{◌%◌, arith}
use Rattle.sg_space.proofs.Known.{before}
use Rattle.sg_space.specs.Units.{HasAt}
use Rattle.sg_space.specs.View.{Space}
use Rattle.sg_blob.specs.Steps.{IsCopied}
use Rattle.sg_blob.proofs.Parts.{still_raw, band_there, part_read}
use Rattle.sg_blob.proofs.walk.read_in.Goals as goal

pub copy_band-requires-clause-there : goal.copy_band-requires-clause-there
copy_band-requires-clause-there g c = λ told.
    let back = c.band_at.ensures.counts.told told in
    let shows = g.met.P.PageSpace.told_shows _ back in
    let h = c.requires.there back in
    band_there _ _ (still_raw c.in_ok-b.ensures.kept shows h.1) (c.in_ok-b.ensures.read shows h.0 h.1)

pub returns-clause-read : goal.returns-clause-read
returns-clause-read g c = λ shows r h.
    let kept = c.in_ok-b.ensures.kept in
    let within = c.requires.piece.within in
    let long = c.copy_band.auto.into in
    let copied = before (λ (s : Space). HasAt s.bands.at c.in_ok-b.b.0 (λ band. IsCopied band (c.args.at % 32768) c.copy_band.new.into)) kept shows (c.in_ok-copy_band.ensures.read (kept.shows shows)) in
    part_read c.args.at _ h (c.in_ok-b.ensures.read shows r h) (omega arith) copied
