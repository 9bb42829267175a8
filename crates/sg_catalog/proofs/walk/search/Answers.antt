use Rattle.std.proofs.Common.{◌≡◌, arith, refl, sym, ◌∙◌}
use Rattle.std.proofs.lemmas.Bool.Decides.{nat_tests}
use Rattle.sg_catalog.specs.Look.{fits}
use Rattle.sg_catalog.proofs.Parts.{still_raw}
use Rattle.sg_catalog.proofs.Walks.{searched_some, searched_none, none_more, next_some, next_at, next_owned, walks_on}
use Rattle.sg_catalog.proofs.walk.search.Goals as goal

pub returns-then-is_some-clause-read : goal.returns-then-is_some-clause-read
returns-then-is_some-clause-read g c = λ shows d h.
    searched_some (fits c.args.wanted.now) d 0 c.in_ok-first.first.found (sym c.is_some.ensures ∙ c.if-is_some.true) refl (c.in_ok-first.ensures.read shows d 0 h.raw h.raw.first).found

pub broken-requires : goal.broken-requires
broken-requires g c = λ told.
    let i = c.pages.invariant.walk in
    let back = i.told told in
    let h = c.requires back in
    let a = i.at (g.met.P.PageSpace.told_shows _ back) h.0 h.1 in
    let test = c.pages-test.true in
    let count = a.count in
    let zero_next : c.pages.next.0 ≡ 0 = grind (arith, nat_tests, c.eq.ensures, c.if-eq.true) in
    next_some c.pages.counter c.pages.next.0 (h.1).raw i.some a.next_is (omega arith) zero_next

pub look-requires-in-pages : goal.look-requires-in-pages
look-requires-in-pages g c = λ told.
    let i = c.pages.invariant.walk in
    let back = i.told told in
    let h = c.requires back in
    let test = c.pages-test.true in
    let n = next_owned i (omega arith) (g.met.P.PageSpace.told_shows _ back) h.0 h.1 in
    (h.0, n.0, n.1)

pub returns-then-is_some-2-clause-read : goal.returns-then-is_some-2-clause-read
returns-then-is_some-2-clause-read g c = λ shows d h.
    let i = c.pages.invariant.walk in
    let a = i.at shows d h in
    let test = c.pages-test.true in
    let count = a.count in
    let at = next_at d c.pages.counter c.pages.next.0 a.next_is (omega arith) in
    searched_some (fits c.args.wanted.now) d c.pages.counter c.in_ok-seen.seen.found (sym c.is_some-in-pages.ensures ∙ c.if-is_some-2.true) a.so_far
    (c.in_ok-seen.ensures.read (i.kept.shows shows) d c.pages.counter (still_raw i.kept shows h.raw) at).found

pub pages-preserved : goal.pages-preserved
pages-preserved g c =
    let i = c.pages.invariant.walk in
    let test = c.pages-test.true in
    let counts = c.look-in-pages.ensures.counts in
    record {
      walk = walks_on c.in_ok-seen.seen.head i (omega arith) counts.told counts.later c.in_ok-seen.ensures.kept (λ shows d j h at. (c.in_ok-seen.ensures.read shows d j h at).header) (λ shows d h at q.
          none_more (fits c.args.wanted.now) d c.pages.counter q
          (searched_none (fits c.args.wanted.now) d c.pages.counter c.in_ok-seen.seen.found (sym c.is_some-in-pages.ensures ∙ c.if-is_some-2.false)
          (c.in_ok-seen.ensures.read (i.kept.shows shows) d c.pages.counter (still_raw i.kept shows h.raw) at).found));
      later = λ t. g.met.P.PageSpace.later_then t _ _ _ (c.pages.invariant.later t) (c.look-in-pages.ensures.later t);
      means = λ t m. c.look-in-pages.ensures.means t (c.pages.invariant.means t m);
      quiet = c.in_ok-seen.ensures.counts.quiet ∙ c.pages.invariant.quiet;
      records = c.look-in-pages.ensures.writes.records ∙ c.pages.invariant.records;
    }

pub returns-then-is_some-2-clause-later : goal.returns-then-is_some-2-clause-later
returns-then-is_some-2-clause-later g c = λ t. g.met.P.PageSpace.later_then t _ _ _ (c.pages.invariant.later t) (c.look-in-pages.ensures.later t)

pub returns-then-ne-clause-later : goal.returns-then-ne-clause-later
returns-then-ne-clause-later g c = λ t. g.met.P.PageSpace.later_then t _ _ _ (c.pages.invariant.later t) (c.broken-then-ne.ensures.later t)

pub returns-in_err-seen-clause-later : goal.returns-in_err-seen-clause-later
returns-in_err-seen-clause-later g c = λ t. g.met.P.PageSpace.later_then t _ _ _ (c.pages.invariant.later t) (c.look-in-pages.ensures.later t)

pub returns-in_err-pages-clause-later : goal.returns-in_err-pages-clause-later
returns-in_err-pages-clause-later g c = λ t. g.met.P.PageSpace.later_then t _ _ _ (c.look.ensures.later t) (c.pages_wanted.ensures.later t)

pub returns-then-eq-clause-later : goal.returns-then-eq-clause-later
returns-then-eq-clause-later g c = λ t. g.met.P.PageSpace.later_then t _ _ _ (c.pages.invariant.later t) (c.broken.ensures.later t)
