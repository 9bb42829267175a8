use Rattle.std.proofs.Common.{sym, ◌∙◌}
use Rattle.sg_hash.proofs.Roots.{root_sized, root_read, same_numbers}
use Rattle.sg_hash.proofs.root.read_root.Goals as goal

pub read_cell-requires : goal.read_cell-requires
read_cell-requires g c = λ told. let h = c.requires told in root_sized h.0 h.2.first

pub broken-requires : goal.broken-requires
broken-requires g c = λ told.
    let back = c.read_cell.ensures.counts.told told in
    let h = c.requires back in
    let read = c.in_ok-read_cell.ensures.read (g.met.P.PageSpace.told_shows _ back) in
    let some = c.in-None.ensures.all h.0 h.2.range (root_read h.0 h.2.first read) in
    (cc)

pub returns-in-Some-clause-read : goal.returns-in-Some-clause-read
returns-in-Some-clause-read g c = λ shows n t h.
    let read = c.in_ok-read_cell.ensures.read shows in
    same_numbers _ n c.in-Some.ensures.fits h.range (sym c.in-Some.ensures.found ∙ root_read n h.first read)
