use Rattle.std.proofs.Common.{refl, ◌∙◌, arith}
use Rattle.std.proofs.lemmas.Option.{slice_get_within}
use Rattle.sg_bucket.proofs.Fuel.{few_pages}
use Rattle.sg_bucket.proofs.Rooms.{room_at, room_next, can_add_still, keep_after, put_added, append_added, last_here}
use Rattle.sg_bucket.proofs.Walking.{walks_none, walks_on, part_seen, part_page, still_linked, reads_on}
use Rattle.sg_bucket.proofs.change.add.Goals as goal

pub loop-passed-init : goal.loop-passed-init
loop-passed-init g c =
    record {
      so_far = (c.args.first.0, walks_none);
      later = g.met.P.PageSpace.later_same _ _;
      means = c.requires.means;
      quiet = refl;
      records = refl;
    }

pub room_on-requires : goal.room_on-requires
room_on-requires g c = λ told.
    let i = (c.loop-passed.invariant.so_far).1 in
    let back = i.back told in
    let h = c.requires.there back in
    part_page (part_seen i (g.met.P.PageSpace.told_shows _ back) h.1)

pub put_at-requires-clause-there : goal.put_at-requires-clause-there
put_at-requires-clause-there g c = λ told.
    let i = (c.loop-passed.invariant.so_far).1 in
    let back = i.back (c.room_on.ensures.counts.told told) in
    let shows = g.met.P.PageSpace.told_shows _ back in
    let kept = c.in_ok-slot.ensures.kept in
    let h = c.requires.there back in (
      h.0,
      still_linked (reads_on i kept) shows h.1,
      record {
        may_fill = (can_add_still (reads_on i kept) shows h.2).may_fill;
        index = c.loop-passed._passed;
        there = (i.walked shows h.0 h.1).there;
        room = room_at c.in-At.is (part_seen i shows h.1) (c.in_ok-slot.ensures.read (i.kept.shows shows));
      },
    )

pub returns-in-At-clause-did : goal.returns-in-At-clause-did
returns-in-At-clause-did g c =
    let i = (c.loop-passed.invariant.so_far).1 in
    let kept = c.in_ok-slot.ensures.kept in
    keep_after (λ t. g.met.P.PageSpace.told_shows _ t) (reads_on i kept) (put_added c.in_ok-put_at-in-At.ensures.did) (λ told b h can.
    let shows = g.met.P.PageSpace.told_shows _ told in
    record {
      may_fill = (can_add_still (reads_on i kept) shows can).may_fill;
      index = c.loop-passed._passed;
      there = (i.walked shows b h).there;
      room = room_at c.in-At.is (part_seen i shows h) (c.in_ok-slot.ensures.read (i.kept.shows shows));
    })

pub append-requires-clause-there : goal.append-requires-clause-there
append-requires-clause-there g c = λ told.
    let i = (c.loop-passed.invariant.so_far).1 in
    let back = i.back (c.room_on.ensures.counts.told told) in
    let shows = g.met.P.PageSpace.told_shows _ back in
    let kept = c.in_ok-slot.ensures.kept in
    let h = c.requires.there back in
    let next = room_next _ c.in-Full.is (part_seen i shows h.1) (c.in_ok-slot.ensures.read (i.kept.shows shows)) in (
      h.0,
      still_linked (reads_on i kept) shows h.1,
      record { add = can_add_still (reads_on i kept) shows h.2; ending = last_here h.1 (i.walked shows h.0 h.1) (next ∙ c.if-next-eq0.true) },
    )

pub returns-then-next-eq0-clause-did : goal.returns-then-next-eq0-clause-did
returns-then-next-eq0-clause-did g c =
    let i = (c.loop-passed.invariant.so_far).1 in
    let kept = c.in_ok-slot.ensures.kept in
    keep_after (λ t. g.met.P.PageSpace.told_shows _ t) (reads_on i kept) (append_added c.in_ok-append-in-Full.ensures.did) (λ told b h can.
    let shows = g.met.P.PageSpace.told_shows _ told in
    let next = room_next _ c.in-Full.is (part_seen i shows h) (c.in_ok-slot.ensures.read (i.kept.shows shows)) in
    record { add = can_add_still (reads_on i kept) shows can; ending = last_here h (i.walked shows b h) (next ∙ c.if-next-eq0.true) })

pub loop-passed-preserved : goal.loop-passed-preserved
loop-passed-preserved g c =
    let i = (c.loop-passed.invariant.so_far).1 in
    let counts = c.room_on.ensures.counts in
    record {
      so_far = (c.loop-passed.page.0, walks_on i counts.told counts.later c.in_ok-slot.ensures.kept (λ shows b part. (tt, room_next _ c.in-Full.is part (c.in_ok-slot.ensures.read shows))) c.if-next-eq0.false);
      later = g.met.P.PageSpace.later_then _ _ _ _ c.loop-passed.invariant.later (c.room_on.ensures.later _);
      means = c.room_on.ensures.means _ c.loop-passed.invariant.means;
      quiet = c.in_ok-slot.ensures.counts.quiet ∙ c.loop-passed.invariant.quiet;
      records = c.room_on.ensures.writes.records ∙ c.loop-passed.invariant.records;
    }

pub broken-requires : goal.broken-requires
broken-requires g c = λ told.
    let i = (c.loop-passed.invariant.so_far).1 in
    let back = i.back told in
    let h = c.requires.there back in
    let w = i.walked (g.met.P.PageSpace.told_shows _ back) h.0 h.1 in
    let few = few_pages (g.met.P.PageSpace.pages_exact _ back) h.1 in
    let within = slice_get_within h.0.pages c.loop-passed._passed c.loop-passed.page.0 w.there in
    let end = c.loop-passed-test.false in
    let count = c.pages-passed-end.ensures in
    absurd (omega arith)

pub returns-in_err-slot-clause-later : goal.returns-in_err-slot-clause-later
returns-in_err-slot-clause-later g c = g.met.P.PageSpace.later_then _ _ _ _ c.loop-passed.invariant.later (c.room_on.ensures.later _)

pub returns-in_err-put_at-in-At-clause-later : goal.returns-in_err-put_at-in-At-clause-later
returns-in_err-put_at-in-At-clause-later g c =
    let then = g.met.P.PageSpace.later_then _ in
    then _ _ _ c.loop-passed.invariant.later (then _ _ _ (c.room_on.ensures.later _) c.put_at.ensures.later)

pub returns-in-At-clause-later : goal.returns-in-At-clause-later
returns-in-At-clause-later g c =
    let then = g.met.P.PageSpace.later_then _ in
    then _ _ _ c.loop-passed.invariant.later (then _ _ _ (c.room_on.ensures.later _) c.put_at.ensures.later)

pub returns-in_err-append-in-Full-clause-later : goal.returns-in_err-append-in-Full-clause-later
returns-in_err-append-in-Full-clause-later g c =
    let then = g.met.P.PageSpace.later_then _ in
    then _ _ _ c.loop-passed.invariant.later (then _ _ _ (c.room_on.ensures.later _) c.append.ensures.later)

pub returns-then-next-eq0-clause-later : goal.returns-then-next-eq0-clause-later
returns-then-next-eq0-clause-later g c =
    let then = g.met.P.PageSpace.later_then _ in
    then _ _ _ c.loop-passed.invariant.later (then _ _ _ (c.room_on.ensures.later _) c.append.ensures.later)

pub returns-clause-later : goal.returns-clause-later
returns-clause-later g c = g.met.P.PageSpace.later_then _ _ _ _ c.loop-passed.invariant.later (c.broken.ensures.later _)
