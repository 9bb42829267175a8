use Rattle.sg_space.proofs.Placed.{possible_first, took_with}
use Rattle.sg_space.proofs.cells.take_page_with.Goals as goal

pub change-requires-clause-can : goal.change-requires-clause-can
change-requires-clause-can g c = λ told.
    let back = c.in_ok-p.ensures.counts.told told in
    let took = c.in_ok-p.ensures.did in
    let fresh = (took.pages back).fresh in
    record { what = fresh.what; is = fresh.is; has = possible_first _ _ _ c.args.kind c.args.cell.now fresh.what c.requires.fits (took.may_fill back) fresh.has }

pub returns-clause-did : goal.returns-clause-did
returns-clause-did g c = took_with _ _ _ _ c.args.kind c.args.cell.now c.in_ok-p.p.0 c.requires.fits c.in_ok-p.ensures.did c.in_ok-change.ensures.did
