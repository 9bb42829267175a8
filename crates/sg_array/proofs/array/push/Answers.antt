use Rattle.std.proofs.Common.{sym}
use Rattle.sg_space.proofs.Known.{keeps_then}
use Rattle.sg_array.proofs.Links.{still_array}
use Rattle.sg_array.proofs.Turned.{after_reads}
use Rattle.sg_array.proofs.Pushes.{push_still, can_put, push_turns, is_pushed}
use Rattle.sg_array.proofs.array.push.Goals as goal

pub leaf_for-requires-clause-there : goal.leaf_for-requires-clause-there
leaf_for-requires-clause-there g c = λ told.
    let back = c.read_root.ensures.counts.told told in
    let shows = g.met.P.PageSpace.told_shows _ back in
    let h = c.requires.can back in
    let kept = c.in_ok-found.ensures.kept in
    let is = c.in_ok-found.ensures.read shows h.0 h.1 in
    (h.0, still_array kept shows h.1, push_still kept shows (sym c.if-item-found.false) is.1 is.2 h.2)

pub put_last-requires-clause-there : goal.put_last-requires-clause-there
put_last-requires-clause-there g c = λ told.
    let middle = c.leaf_for.ensures.counts.told told in
    let back = c.read_root.ensures.counts.told middle in
    let shows = g.met.P.PageSpace.told_shows _ back in
    let h = c.requires.can back in
    let kept = c.in_ok-found.ensures.kept in
    let is = c.in_ok-found.ensures.read shows h.0 h.1 in
    let next = push_still kept shows (sym c.if-item-found.false) is.1 is.2 h.2 in
    let x = c.in_ok-leaf.ensures.did.done middle h.0 (still_array kept shows h.1) next in
    (_, x.builds.built, can_put x next)

pub returns-clause-did : goal.returns-clause-did
returns-clause-did g c =
    let kept = c.in_ok-found.ensures.kept in
    let room = c.in_ok-leaf.ensures.did in
    let did = c.in_ok-put_last.ensures.did in
    record {
      keeps = λ t.
          let first = kept.keeps.told t in
          let mid = (room.keeps first).told first in
          keeps_then kept.keeps (keeps_then (room.keeps first) (did.keeps mid));
      turns = λ t a h can.
          let shows = g.met.P.PageSpace.told_shows _ t in
          let first = kept.keeps.told t in
          let mid = (room.keeps first).told first in
          let is = c.in_ok-found.ensures.read shows a h in
          let next = push_still kept shows (sym c.if-item-found.false) is.1 is.2 can in
          let x = room.done first a (still_array kept shows h) next in
          let b = did.done mid _ x.builds.built (can_put x next) in
          (_, after_reads kept shows (push_turns c.args.item.now x b), is_pushed c.args.item.now x (did.keeps mid));
    }

pub returns-then-item-found-clause-later : goal.returns-then-item-found-clause-later
returns-then-item-found-clause-later g c = g.met.P.PageSpace.later_then _ _ _ _ (c.read_root.ensures.later _) (c.broken.ensures.later _)

pub returns-in_err-leaf-clause-later : goal.returns-in_err-leaf-clause-later
returns-in_err-leaf-clause-later g c = g.met.P.PageSpace.later_then _ _ _ _ (c.read_root.ensures.later _) c.leaf_for.ensures.later

pub returns-in_err-put_last-clause-later : goal.returns-in_err-put_last-clause-later
returns-in_err-put_last-clause-later g c =
    let then = g.met.P.PageSpace.later_then _ in
    then _ _ _ (c.read_root.ensures.later _) (then _ _ _ c.leaf_for.ensures.later c.put_last.ensures.later)

pub returns-clause-later : goal.returns-clause-later
returns-clause-later g c =
    let then = g.met.P.PageSpace.later_then _ in
    then _ _ _ (c.read_root.ensures.later _) (then _ _ _ c.leaf_for.ensures.later c.put_last.ensures.later)
