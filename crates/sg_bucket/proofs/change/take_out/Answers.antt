use Rattle.sg_space.proofs.Known.{still}
use Rattle.sg_space.specs.Units.{HasAt}
use Rattle.sg_space.specs.View.{Space}
use Rattle.sg_bucket.specs.Steps.{IsEmptied}
use Rattle.sg_bucket.proofs.Owning.{did_as, did_reads, did_then}
use Rattle.sg_bucket.proofs.Removing.{taken_out_first, taken_out_left, taken_out_cut, entry_left, cut_ready, removed_page}
use Rattle.sg_bucket.proofs.Walking.{still_linked}
use Rattle.sg_bucket.proofs.change.take_out.Goals as goal

pub returns-then-place-first-clause-did : goal.returns-then-place-first-clause-did
returns-then-place-first-clause-did g c = did_as c.in_ok-remove_at.ensures.did (λ told b b' h k t r. taken_out_first h k c.if-place-first.true r)

pub emptied-requires : goal.emptied-requires
emptied-requires g c = λ told.
    let back = c.remove_at.ensures.counts.told told in
    let h = c.requires.can back in
    let one = c.in_ok-remove_at.ensures.did.turns back h.0 h.1 h.2 in
    removed_page h.2 one.2 one.1.linked

pub cut-requires-clause-can : goal.cut-requires-clause-can
cut-requires-clause-can g c = λ told.
    let mid = c.emptied.ensures.counts.told told in
    let back = c.remove_at.ensures.counts.told mid in
    let shows = g.met.P.PageSpace.told_shows _ mid in
    let h = c.requires.can back in
    let one = c.in_ok-remove_at.ensures.did.turns back h.0 h.1 h.2 in (
      one.0,
      still_linked c.in_ok-emptied.ensures.kept shows one.1.linked,
      cut_ready h.1 h.2 c.if-place-first.false one.2 one.1.linked c.in-Some.is (c.in_ok-emptied.ensures.read shows),
    )

pub returns-in-None-clause-did : goal.returns-in-None-clause-did
returns-in-None-clause-did g c =
    let did = c.in_ok-remove_at.ensures.did in
    did_reads (did_as did (λ told b b' h k t r. taken_out_left h k r (entry_left k r t.linked c.in-None.is (c.in_ok-emptied.ensures.read (g.met.P.PageSpace.told_shows _ (did.told told)))))) (λ t. g.met.P.PageSpace.told_shows _ t) c.in_ok-emptied.ensures.kept

pub returns-in_ok-cut-in-Some-clause-did : goal.returns-in_ok-cut-in-Some-clause-did
returns-in_ok-cut-in-Some-clause-did g c =
    let did = c.in_ok-remove_at.ensures.did in
    let kept = c.in_ok-emptied.ensures.kept in
    did_then (did_reads did (λ t. g.met.P.PageSpace.told_shows _ t) kept) c.in_ok-cut-in-Some.ensures.did
    (λ told b b' h k t r.
    let shows = g.met.P.PageSpace.told_shows _ (did.told told) in
    cut_ready h k c.if-place-first.false r t.linked c.in-Some.is (still (λ (s : Space). HasAt s.pages.at c.args.place.page.0 (IsEmptied c.in_ok-emptied.field-0)) kept shows (c.in_ok-emptied.ensures.read shows)))
    (λ told b b' b'' h k t r cut.
    let shows = g.met.P.PageSpace.told_shows _ (did.told told) in
    taken_out_cut h k r t.linked (cut_ready h k c.if-place-first.false r t.linked c.in-Some.is (still (λ (s : Space). HasAt s.pages.at c.args.place.page.0 (IsEmptied c.in_ok-emptied.field-0)) kept shows (c.in_ok-emptied.ensures.read shows))) cut)

pub returns-in_err-emptied-clause-later : goal.returns-in_err-emptied-clause-later
returns-in_err-emptied-clause-later g c = g.met.P.PageSpace.later_then _ _ _ _ c.remove_at.ensures.later (c.emptied.ensures.later _)

pub returns-in-None-clause-later : goal.returns-in-None-clause-later
returns-in-None-clause-later g c = g.met.P.PageSpace.later_then _ _ _ _ c.remove_at.ensures.later (c.emptied.ensures.later _)

pub returns-in_err-cut-in-Some-clause-later : goal.returns-in_err-cut-in-Some-clause-later
returns-in_err-cut-in-Some-clause-later g c =
    let then = g.met.P.PageSpace.later_then _ in
    then _ _ _ c.remove_at.ensures.later (then _ _ _ (c.emptied.ensures.later _) c.cut.ensures.later)

pub returns-in_ok-cut-in-Some-clause-later : goal.returns-in_ok-cut-in-Some-clause-later
returns-in_ok-cut-in-Some-clause-later g c =
    let then = g.met.P.PageSpace.later_then _ in
    then _ _ _ c.remove_at.ensures.later (then _ _ _ (c.emptied.ensures.later _) c.cut.ensures.later)
