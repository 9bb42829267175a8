use Rattle.sg_space.proofs.Known.{still, before}
use Rattle.sg_space.specs.Reads.{HasCell, HasSized}
use Rattle.sg_space.specs.Units.{HasAt}
use Rattle.sg_space.specs.View.{Space}
use Rattle.std.proofs.Common.{◌%◌}
use Rattle.byteorder.specs.Endian.{little_bytes}
use Rattle.sg_array.proofs.Links.{leaf_link, leaf_read, index_below}
use Rattle.sg_array.proofs.walk.leaf_at.Goals as goal

pub index_at-requires-clause-there : goal.index_at-requires-clause-there
index_at-requires-clause-there g c = λ told. let h = c.requires.there told in (h.0, h.1, index_below c.args.d h.1 h.2)

pub link_at-requires : goal.link_at-requires
link_at-requires g c = λ told.
    let back = c.index_at.ensures.counts.told told in
    let h = c.requires.there back in
    let shows = g.met.P.PageSpace.told_shows _ back in
    still (λ (s : Space). HasAt s.pages.at c.in_ok-index.index.0 (HasSized 3 (c.args.d % 509) 4)) c.in_ok-index.ensures.kept shows (leaf_link c.args.d _ h.1 (c.in_ok-index.ensures.read shows h.0 h.1) h.2)

pub returns-clause-read : goal.returns-clause-read
returns-clause-read g c = λ shows a h.
    let kept = c.in_ok-index.ensures.kept in
    let read = before (λ (s : Space). HasAt s.pages.at c.in_ok-index.index.0 (HasCell 3 (c.args.d % 509) (little_bytes 4 c.in_ok-found.found.0))) kept shows (c.in_ok-found.ensures.read (kept.shows shows)) in
    leaf_read c.args.d _ _ h (c.in_ok-index.ensures.read shows a h) c.in_ok-found.ensures.small read

pub returns-in_err-found-clause-later : goal.returns-in_err-found-clause-later
returns-in_err-found-clause-later g c = λ t. g.met.P.PageSpace.later_then t _ _ _ (c.index_at.ensures.later t) (c.link_at.ensures.later t)

pub returns-clause-later : goal.returns-clause-later
returns-clause-later g c = λ t. g.met.P.PageSpace.later_then t _ _ _ (c.index_at.ensures.later t) (c.link_at.ensures.later t)
