use Rattle.std.proofs.Common.{Some, sym, ap, ◌∙◌, length, take}
use Rattle.std.proofs.lemmas.List.{length-take-le}
use Rattle.sg_space.proofs.Known.{still, before}
use Rattle.sg_space.specs.Reads.{HasCell, HasSized}
use Rattle.sg_space.specs.Units.{HasAt}
use Rattle.sg_space.specs.View.{Space}
use Rattle.sg_array.proofs.Places.{item_sized, item_read, front_is}
use Rattle.sg_array.proofs.array.get.Goals as goal

pub read_cell-requires : goal.read_cell-requires
read_cell-requires g c = λ told.
    let back = c.place_of.ensures.counts.told told in
    let shows = g.met.P.PageSpace.told_shows _ back in
    let h = c.requires back in
    let at = c.in_ok-place.ensures.read shows h.0 h.1 in
    let room = length-take-le c.in_ok-place.place.size c.args.into.now c.if-into-size.false ∙ at.size_is in
    still (λ (s : Space). HasAt s.pages.at c.in_ok-place.place.leaf.0 (HasSized 4 c.in_ok-place.place.slot (length (take c.in_ok-place.place.size c.args.into.now)))) c.in_ok-place.ensures.kept shows (rw room (item_sized h.1.built at))

pub returns-clause-read : goal.returns-clause-read
returns-clause-read g c = λ shows a h.
    let kept = c.in_ok-place.ensures.kept in
    let at = c.in_ok-place.ensures.read shows a h in
    let read = before (λ (s : Space). HasAt s.pages.at c.in_ok-place.place.leaf.0 (HasCell 4 c.in_ok-place.place.slot c.read_cell.new.into)) kept shows (c.in_ok-read_cell.ensures.read (kept.shows shows)) in
    let item = item_read h.built at read in
    item ∙ ap Some (sym (front_is a.size c.read_cell.new.into _ ((h.built.limits.each c.args.i _ item).sized)))

pub returns-then-into-size-clause-later : goal.returns-then-into-size-clause-later
returns-then-into-size-clause-later g c = λ t. g.met.P.PageSpace.later_then t _ _ _ (c.place_of.ensures.later t) (c.broken.ensures.later t)

pub returns-in_err-read_cell-clause-later : goal.returns-in_err-read_cell-clause-later
returns-in_err-read_cell-clause-later g c = λ t. g.met.P.PageSpace.later_then t _ _ _ (c.place_of.ensures.later t) (c.read_cell.ensures.later t)

pub returns-clause-later : goal.returns-clause-later
returns-clause-later g c = λ t. g.met.P.PageSpace.later_then t _ _ _ (c.place_of.ensures.later t) (c.read_cell.ensures.later t)
