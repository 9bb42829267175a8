use Rattle.std.proofs.Common.{sym, ◌∙◌}
use Rattle.sg_space.proofs.Known.{same_some, read_is}
use Rattle.sg_array.specs.Steps.{root_of}
use Rattle.sg_array.proofs.walk.read_root.Goals as goal

pub broken-requires : goal.broken-requires
broken-requires g c = λ told.
    let back = c.read_cell.ensures.counts.told told in
    let h = c.requires back in
    let first = h.1.built.names.first in
    let limits = h.1.built.limits in
    let read = c.in_ok-read_cell.ensures.read (g.met.P.PageSpace.told_shows _ back) in
    let same = same_some _ _ (sym (read_is first read) ∙ first.has.first) in
    let none = c.in-None.ensures.all (root_of h.0) (record { some = limits.some; small = limits.small; below_peak = limits.below_peak; few = limits.few }) same in
    (cc)
