use Rattle.std.proofs.Common.{◌∙◌, ◌≡◌, arith, refl}
use Rattle.std.proofs.lemmas.Bool.Decides.{nat_tests}
use Rattle.sg_space.proofs.Known.{reads_then}
use Rattle.sg_catalog.proofs.Parts.{still_raw}
use Rattle.sg_catalog.proofs.Walks.{next_some, next_owned, walks_start, walks_on, measures_before, surveyed_none, surveyed_more}
use Rattle.sg_catalog.proofs.walk.survey_pages.Goals as goal

pub pages-init : goal.pages-init
pages-init g c =
    let counts = c.measure.ensures.counts in
    let wanted = c.pages_wanted.ensures.counts in
    let before = counts.later in
    let after = wanted.later in
    let few = c.in_ok-first.ensures.few in
    let sum = c.with_page-all.ensures.count in
    record {
      walk = walks_start c.in_ok-first.first.head c.in_ok-pages.pages (λ t. counts.told (wanted.told t)) (omega arith) (reads_then c.in_ok-first.ensures.kept c.in_ok-pages.ensures.kept) (λ shows d h.
          let m = c.in_ok-first.ensures.read shows d 0 h.raw h.raw.first in (
            m.header,
            surveyed_more _ d 0 _ h.raw.first c.in_ok-first.first _ c.with_page-all.result few (surveyed_none _ d _ refl (m.header.peak refl) refl) m c.with_page-all.ensures,
          )) c.in_ok-pages.ensures.number;
      most = omega arith;
      later = λ t. g.met.P.PageSpace.later_then t _ _ _ (c.measure.ensures.later t) (c.pages_wanted.ensures.later t);
      means = λ t m. c.pages_wanted.ensures.means t (c.measure.ensures.means t m);
      quiet = c.in_ok-pages.ensures.counts.quiet ∙ c.in_ok-first.ensures.counts.quiet;
      records = c.pages_wanted.ensures.writes.records ∙ c.measure.ensures.writes.records;
    }

pub broken-requires : goal.broken-requires
broken-requires g c = λ told.
    let i = c.pages.invariant.walk in
    let back = i.told told in
    let h = c.requires back in
    let a = i.at (g.met.P.PageSpace.told_shows _ back) h.0 h.1 in
    let test = c.pages-test.true in
    let count = a.count in
    let zero_next : c.pages.next.0 ≡ 0 = grind (arith, nat_tests, c.eq.ensures, c.if-eq.true) in
    next_some c.pages.counter c.pages.next.0 (h.1).raw i.some a.next_is (omega arith) zero_next

pub measure-requires-in-pages : goal.measure-requires-in-pages
measure-requires-in-pages g c = λ told.
    let i = c.pages.invariant.walk in
    let back = i.told told in
    let h = c.requires back in
    let test = c.pages-test.true in
    let n = next_owned i (omega arith) (g.met.P.PageSpace.told_shows _ back) h.0 h.1 in
    (h.0, n.0, n.1)

pub pages-preserved : goal.pages-preserved
pages-preserved g c =
    let i = c.pages.invariant.walk in
    let most = c.pages.invariant.most in
    let test = c.pages-test.true in
    let counts = c.measure-in-pages.ensures.counts in
    let few = c.in_ok-found.ensures.few in
    let sum = c.with_page-all-in-pages.ensures.count in
    record {
      walk = walks_on c.in_ok-found.found.head i (omega arith) counts.told counts.later c.in_ok-found.ensures.kept (λ shows d j h at. (c.in_ok-found.ensures.read shows d j h at).header) (λ shows d h at q.
          surveyed_more _ d c.pages.counter c.pages.next at c.in_ok-found.found c.pages.all c.with_page-all-in-pages.result few q
          (measures_before i.kept shows (c.in_ok-found.ensures.read (i.kept.shows shows) d c.pages.counter (still_raw i.kept shows h.raw) at)) c.with_page-all-in-pages.ensures);
      most = omega arith;
      later = λ t. g.met.P.PageSpace.later_then t _ _ _ (c.pages.invariant.later t) (c.measure-in-pages.ensures.later t);
      means = λ t m. c.measure-in-pages.ensures.means t (c.pages.invariant.means t m);
      quiet = c.in_ok-found.ensures.counts.quiet ∙ c.pages.invariant.quiet;
      records = c.measure-in-pages.ensures.writes.records ∙ c.pages.invariant.records;
    }

pub returns-in_err-found-clause-later : goal.returns-in_err-found-clause-later
returns-in_err-found-clause-later g c = λ t. g.met.P.PageSpace.later_then t _ _ _ (c.pages.invariant.later t) (c.measure-in-pages.ensures.later t)

pub returns-then-ne-clause-later : goal.returns-then-ne-clause-later
returns-then-ne-clause-later g c = λ t. g.met.P.PageSpace.later_then t _ _ _ (c.pages.invariant.later t) (c.broken-then-ne.ensures.later t)

pub returns-in_err-pages-clause-later : goal.returns-in_err-pages-clause-later
returns-in_err-pages-clause-later g c = λ t. g.met.P.PageSpace.later_then t _ _ _ (c.measure.ensures.later t) (c.pages_wanted.ensures.later t)

pub returns-then-eq-clause-later : goal.returns-then-eq-clause-later
returns-then-eq-clause-later g c = λ t. g.met.P.PageSpace.later_then t _ _ _ (c.pages.invariant.later t) (c.broken.ensures.later t)
