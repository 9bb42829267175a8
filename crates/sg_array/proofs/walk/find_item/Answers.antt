use Rattle.sg_space.proofs.Known.{still}
use Rattle.sg_space.specs.Reads.{HasSized}
use Rattle.sg_space.specs.Units.{HasAt}
use Rattle.sg_space.specs.View.{Space}
use Rattle.std.proofs.Common.{ℕ, sym, subst}
use Rattle.sg_array.proofs.Places.{item_sized}
use Rattle.sg_array.proofs.walk.find_item.Goals as goal

pub check_item-requires : goal.check_item-requires
check_item-requires g c = λ told.
    let back = c.place_of.ensures.counts.told told in
    let shows = g.met.P.PageSpace.told_shows _ back in
    let h = c.requires back in
    let at = c.in_ok-place.ensures.read shows h.0 h.1 in
    still (λ (s : Space). HasAt s.pages.at c.in_ok-place.place.leaf.0 (HasSized 4 c.in_ok-place.place.slot c.in_ok-place.place.size)) c.in_ok-place.ensures.kept shows
    (subst (λ (n : ℕ). HasAt (g.P.PageSpace.view c.args.space.now).space.pages.at c.in_ok-place.place.leaf.0 (HasSized 4 c.in_ok-place.place.slot n)) (sym at.size_is) (item_sized h.1.built at))

pub returns-in_err-check_item-clause-later : goal.returns-in_err-check_item-clause-later
returns-in_err-check_item-clause-later g c = λ t. g.met.P.PageSpace.later_then t _ _ _ (c.place_of.ensures.later t) (c.check_item.ensures.later t)

pub returns-clause-later : goal.returns-clause-later
returns-clause-later g c = λ t. g.met.P.PageSpace.later_then t _ _ _ (c.place_of.ensures.later t) (c.check_item.ensures.later t)
