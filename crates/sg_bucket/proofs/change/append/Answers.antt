use Rattle.sg_bucket.proofs.Changing.{append_did, link_last}
use Rattle.sg_bucket.proofs.change.append.Goals as goal

pub take_page_with-requires-clause-free : goal.take_page_with-requires-clause-free
take_page_with-requires-clause-free g c = λ told. let h = c.requires.there told in record { some = h.2.add.free; may = h.2.add.may_take }

pub change-requires-clause-can : goal.change-requires-clause-can
change-requires-clause-can g c = λ told.
    let back = c.take_page_with.ensures.counts.told told in
    let h = c.requires.there back in
    link_last h.1 h.2.ending ((c.in_ok-p.ensures.did).pages back)

pub returns-clause-did : goal.returns-clause-did
returns-clause-did g c = append_did c.requires.cell c.in_ok-p.ensures.did c.in_ok-change.ensures.did

pub returns-in_err-change-clause-later : goal.returns-in_err-change-clause-later
returns-in_err-change-clause-later g c = g.met.P.PageSpace.later_then _ _ _ _ c.take_page_with.ensures.later c.change.ensures.later

pub returns-clause-later : goal.returns-clause-later
returns-clause-later g c = g.met.P.PageSpace.later_then _ _ _ _ c.take_page_with.ensures.later c.change.ensures.later
