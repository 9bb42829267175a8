use Rattle.sg_bucket.proofs.Mapping.{held_there, held_value, held_set, set_replaces, moved_replaces, still_has}
use Rattle.sg_bucket.proofs.Owning.{did_as, did_of, did_then, reads_did}
use Rattle.sg_bucket.proofs.Rooms.{can_add_still}
use Rattle.sg_bucket.proofs.Walking.{still_linked}
use Rattle.sg_bucket.proofs.change.replace.Goals as goal

pub held_at-requires : goal.held_at-requires
held_at-requires g c = λ told. let h = c.requires.there told in held_there h.1 h.2.has

pub set_over-requires-clause-there : goal.set_over-requires-clause-there
set_over-requires-clause-there g c = λ told.
    let back = c.held_at.ensures.counts.told told in
    let shows = g.met.P.PageSpace.told_shows _ back in
    let h = c.requires.there back in (
      h.0,
      still_linked c.in_ok-held.ensures.kept shows h.1,
      held_set c.args.cell.now h.1 h.2.has (c.in_ok-held.ensures.read shows) c.if-cell-held.true,
    )

pub returns-then-cell-held-clause-did : goal.returns-then-cell-held-clause-did
returns-then-cell-held-clause-did g c =
    did_as (reads_did (λ t. g.met.P.PageSpace.told_shows _ t) c.in_ok-held.ensures.kept c.in_ok-set_over.ensures.did (λ told b h k. held_set c.args.cell.now h k.has (c.in_ok-held.ensures.read (g.met.P.PageSpace.told_shows _ told)) c.if-cell-held.true))
    (λ told b b' h k t s. set_replaces (λ was stands. held_value h stands (c.in_ok-held.ensures.read (g.met.P.PageSpace.told_shows _ told))) s)

pub add-requires-clause-there : goal.add-requires-clause-there
add-requires-clause-there g c = λ told.
    let back = c.held_at.ensures.counts.told told in
    let shows = g.met.P.PageSpace.told_shows _ back in
    let h = c.requires.there back in
    (h.0, still_linked c.in_ok-held.ensures.kept shows h.1, can_add_still c.in_ok-held.ensures.kept shows h.2.add)

pub take_out-requires-clause-can : goal.take_out-requires-clause-can
take_out-requires-clause-can g c = λ told.
    let mid = c.add.ensures.counts.told told in
    let back = c.held_at.ensures.counts.told mid in
    let shows = g.met.P.PageSpace.told_shows _ back in
    let kept = c.in_ok-held.ensures.kept in
    let h = c.requires.there back in
    let one = c.in_ok-add.ensures.did.turns mid h.0 (still_linked kept shows h.1) (can_add_still kept shows h.2.add) in
    (one.0, one.1.linked, still_has one.2 h.2.has)

pub returns-clause-did : goal.returns-clause-did
returns-clause-did g c =
    did_then (reads_did (λ t. g.met.P.PageSpace.told_shows _ t) c.in_ok-held.ensures.kept (did_of c.in_ok-add.ensures.did) (λ told b h k. can_add_still c.in_ok-held.ensures.kept (g.met.P.PageSpace.told_shows _ told) k.add)) c.in_ok-take_out.ensures.did
    (λ told b b' h k t a. still_has a k.has)
    (λ told b b' b'' h k t a out. moved_replaces h (λ was stands. held_value h stands (c.in_ok-held.ensures.read (g.met.P.PageSpace.told_shows _ told))) a out)

pub returns-clause-later : goal.returns-clause-later
returns-clause-later g c =
    let then = g.met.P.PageSpace.later_then _ in
    then _ _ _ (c.held_at.ensures.later _) (then _ _ _ c.add.ensures.later c.take_out.ensures.later)

pub returns-in_err-set_over-clause-later : goal.returns-in_err-set_over-clause-later
returns-in_err-set_over-clause-later g c = g.met.P.PageSpace.later_then _ _ _ _ (c.held_at.ensures.later _) c.set_over.ensures.later

pub returns-then-cell-held-clause-later : goal.returns-then-cell-held-clause-later
returns-then-cell-held-clause-later g c = g.met.P.PageSpace.later_then _ _ _ _ (c.held_at.ensures.later _) c.set_over.ensures.later

pub returns-in_err-add-clause-later : goal.returns-in_err-add-clause-later
returns-in_err-add-clause-later g c = g.met.P.PageSpace.later_then _ _ _ _ (c.held_at.ensures.later _) c.add.ensures.later

pub returns-in_err-take_out-clause-later : goal.returns-in_err-take_out-clause-later
returns-in_err-take_out-clause-later g c =
    let then = g.met.P.PageSpace.later_then _ in
    then _ _ _ (c.held_at.ensures.later _) (then _ _ _ c.add.ensures.later c.take_out.ensures.later)
