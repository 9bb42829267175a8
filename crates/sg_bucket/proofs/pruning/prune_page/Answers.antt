use Rattle.std.proofs.Common.{refl, inl, inr}
use Rattle.sg_space.proofs.Known.{still}
use Rattle.sg_space.specs.Units.{HasAt}
use Rattle.sg_space.specs.View.{Space}
use Rattle.sg_bucket.specs.Steps.{IsEmptied}
use Rattle.sg_bucket.proofs.Owning.{did_as, did_reads, did_then}
use Rattle.sg_bucket.proofs.Stripping.{left_first, left_some, page_cut, strip_cuts, stripped_page}
use Rattle.sg_bucket.proofs.Walking.{still_linked}
use Rattle.sg_bucket.proofs.pruning.prune_page.Goals as goal

pub returns-then-page-first-clause-did : goal.returns-then-page-first-clause-did
returns-then-page-first-clause-did g c = did_as c.in_ok-strip.ensures.did (λ told b b' h k t r. inl (left_first h c.if-page-first.true r, refl))

pub emptied-requires : goal.emptied-requires
emptied-requires g c = λ told.
    let back = c.strip.ensures.counts.told told in
    let h = c.requires.can back in
    let one = c.in_ok-strip.ensures.did.turns back h.0 h.1 h.2 in
    stripped_page one.1.linked one.2

pub cut-requires-clause-can : goal.cut-requires-clause-can
cut-requires-clause-can g c = λ told.
    let mid = c.emptied.ensures.counts.told told in
    let back = c.strip.ensures.counts.told mid in
    let shows = g.met.P.PageSpace.told_shows _ mid in
    let h = c.requires.can back in
    let one = c.in_ok-strip.ensures.did.turns back h.0 h.1 h.2 in (
      one.0,
      still_linked c.in_ok-emptied.ensures.kept shows one.1.linked,
      strip_cuts h.1 h.2 c.if-page-first.false one.2 one.1.linked c.in-Some.is (c.in_ok-emptied.ensures.read shows),
    )

pub returns-in-None-clause-did : goal.returns-in-None-clause-did
returns-in-None-clause-did g c =
    let did = c.in_ok-strip.ensures.did in
    did_reads (did_as did (λ told b b' h k t r. inl (left_some h t.linked c.in-None.is (c.in_ok-emptied.ensures.read (g.met.P.PageSpace.told_shows _ (did.told told))) r, refl))) (λ t. g.met.P.PageSpace.told_shows _ t) c.in_ok-emptied.ensures.kept

pub returns-in_ok-cut-in-Some-clause-did : goal.returns-in_ok-cut-in-Some-clause-did
returns-in_ok-cut-in-Some-clause-did g c =
    let did = c.in_ok-strip.ensures.did in
    let kept = c.in_ok-emptied.ensures.kept in
    did_then (did_reads did (λ t. g.met.P.PageSpace.told_shows _ t) kept) c.in_ok-cut-in-Some.ensures.did
    (λ told b b' h k t r.
    let shows = g.met.P.PageSpace.told_shows _ (did.told told) in
    strip_cuts h k c.if-page-first.false r t.linked c.in-Some.is (still (λ (s : Space). HasAt s.pages.at c.args.page.0 (IsEmptied c.in_ok-emptied.field-0)) kept shows (c.in_ok-emptied.ensures.read shows)))
    (λ told b b' b'' h k t r cut.
    let shows = g.met.P.PageSpace.told_shows _ (did.told told) in
    inr (page_cut h t.linked r (strip_cuts h k c.if-page-first.false r t.linked c.in-Some.is (still (λ (s : Space). HasAt s.pages.at c.args.page.0 (IsEmptied c.in_ok-emptied.field-0)) kept shows (c.in_ok-emptied.ensures.read shows))) cut, refl))

pub returns-in_err-emptied-clause-later : goal.returns-in_err-emptied-clause-later
returns-in_err-emptied-clause-later g c = g.met.P.PageSpace.later_then _ _ _ _ c.strip.ensures.later (c.emptied.ensures.later _)

pub returns-in-None-clause-later : goal.returns-in-None-clause-later
returns-in-None-clause-later g c = g.met.P.PageSpace.later_then _ _ _ _ c.strip.ensures.later (c.emptied.ensures.later _)

pub returns-in_err-cut-in-Some-clause-later : goal.returns-in_err-cut-in-Some-clause-later
returns-in_err-cut-in-Some-clause-later g c =
    let then = g.met.P.PageSpace.later_then _ in
    then _ _ _ c.strip.ensures.later (then _ _ _ (c.emptied.ensures.later _) c.cut.ensures.later)

pub returns-in_ok-cut-in-Some-clause-later : goal.returns-in_ok-cut-in-Some-clause-later
returns-in_ok-cut-in-Some-clause-later g c =
    let then = g.met.P.PageSpace.later_then _ in
    then _ _ _ c.strip.ensures.later (then _ _ _ (c.emptied.ensures.later _) c.cut.ensures.later)
