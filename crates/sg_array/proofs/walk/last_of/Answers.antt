use Rattle.std.proofs.Common.{arith}
use Rattle.sg_array.proofs.Links.{still_array}
use Rattle.sg_array.proofs.walk.last_of.Goals as goal

pub place_of-requires : goal.place_of-requires
place_of-requires g c = λ told.
    let back = c.read_root.ensures.counts.told told in
    let shows = g.met.P.PageSpace.told_shows _ back in
    let h = c.requires back in
    let count = (c.in_ok-found.ensures.read shows h.0 h.1).1 in
    let some = h.2 in
    (h.0, still_array c.in_ok-found.ensures.kept shows h.1, omega arith)

pub returns-clause-read : goal.returns-clause-read
returns-clause-read g c = λ shows a h.
    let is = c.in_ok-found.ensures.read shows a h in
    let count = is.1 in
    let kept = c.in_ok-found.ensures.kept in
    record { place = c.in_ok-place.ensures.read (kept.shows shows) a (still_array kept shows h); count_is = omega arith; peak_is = is.2 }

pub returns-then-found-eq0-clause-later : goal.returns-then-found-eq0-clause-later
returns-then-found-eq0-clause-later g c = λ t. g.met.P.PageSpace.later_then t _ _ _ (c.read_root.ensures.later t) (c.broken.ensures.later t)

pub returns-in_err-place-clause-later : goal.returns-in_err-place-clause-later
returns-in_err-place-clause-later g c = λ t. g.met.P.PageSpace.later_then t _ _ _ (c.read_root.ensures.later t) (c.place_of.ensures.later t)

pub returns-clause-later : goal.returns-clause-later
returns-clause-later g c = λ t. g.met.P.PageSpace.later_then t _ _ _ (c.read_root.ensures.later t) (c.place_of.ensures.later t)
