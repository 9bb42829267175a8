use Rattle.sg_space.proofs.Known.{reads_then}
use Rattle.sg_bucket.proofs.Mapping.{place_has, place_stands, held_there, held_value, del_takes, del_none, did_none}
use Rattle.sg_bucket.proofs.Owning.{did_as, reads_did}
use Rattle.sg_bucket.proofs.Places.{found_place}
use Rattle.sg_bucket.proofs.Walking.{still_linked}
use Rattle.sg_bucket.proofs.bucket.del.Goals as goal

pub held_at-requires : goal.held_at-requires
held_at-requires g c = λ told.
    let back = c.seek.ensures.counts.told told in
    let shows = g.met.P.PageSpace.told_shows _ back in
    let h = c.requires.can back in
    held_there (still_linked c.in_ok-seek.ensures.kept shows h.1) (place_has (found_place h.0 c.args.key.now c.in-Some.is (c.in_ok-seek.ensures.read shows h.0 h.1)))

pub take_out-requires-clause-can : goal.take_out-requires-clause-can
take_out-requires-clause-can g c = λ told.
    let back = c.seek.ensures.counts.told (c.held_at.ensures.counts.told told) in
    let shows = g.met.P.PageSpace.told_shows _ back in
    let h = c.requires.can back in (
      h.0,
      still_linked (reads_then c.in_ok-seek.ensures.kept c.in_ok-held-in-Some.ensures.kept) shows h.1,
      place_has (found_place h.0 c.args.key.now c.in-Some.is (c.in_ok-seek.ensures.read shows h.0 h.1)),
    )

pub returns-in-None-clause-did : goal.returns-in-None-clause-did
returns-in-None-clause-did g c = did_none (λ t. g.met.P.PageSpace.told_shows _ t) c.in_ok-seek.ensures.kept (λ told b h sound. del_none h sound c.in-None.is (c.in_ok-seek.ensures.read (g.met.P.PageSpace.told_shows _ told) b h))

pub returns-in_ok-take_out-in-Some-clause-did : goal.returns-in_ok-take_out-in-Some-clause-did
returns-in_ok-take_out-in-Some-clause-did g c =
    let kept = c.in_ok-seek.ensures.kept in
    did_as (reads_did (λ t. g.met.P.PageSpace.told_shows _ t) (reads_then kept c.in_ok-held-in-Some.ensures.kept) c.in_ok-take_out-in-Some.ensures.did (λ told b h sound. place_has (found_place b c.args.key.now c.in-Some.is (c.in_ok-seek.ensures.read (g.met.P.PageSpace.told_shows _ told) b h))))
    (λ told b b' h sound t out.
    let shows = g.met.P.PageSpace.told_shows _ told in
    let place = found_place b c.args.key.now c.in-Some.is (c.in_ok-seek.ensures.read shows b h) in
    del_takes h sound place (held_value (still_linked kept shows h) (place_stands place) (c.in_ok-held-in-Some.ensures.read (kept.shows shows))) out)

pub returns-in_err-held-in-Some-clause-later : goal.returns-in_err-held-in-Some-clause-later
returns-in_err-held-in-Some-clause-later g c = g.met.P.PageSpace.later_then _ _ _ _ (c.seek.ensures.later _) (c.held_at.ensures.later _)

pub returns-in_err-take_out-in-Some-clause-later : goal.returns-in_err-take_out-in-Some-clause-later
returns-in_err-take_out-in-Some-clause-later g c =
    let then = g.met.P.PageSpace.later_then _ in
    then _ _ _ (c.seek.ensures.later _) (then _ _ _ (c.held_at.ensures.later _) c.take_out.ensures.later)

pub returns-in_ok-take_out-in-Some-clause-later : goal.returns-in_ok-take_out-in-Some-clause-later
returns-in_ok-take_out-in-Some-clause-later g c =
    let then = g.met.P.PageSpace.later_then _ in
    then _ _ _ (c.seek.ensures.later _) (then _ _ _ (c.held_at.ensures.later _) c.take_out.ensures.later)
