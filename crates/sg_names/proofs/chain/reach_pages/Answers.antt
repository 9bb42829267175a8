use Rattle.std.proofs.Common.{◌≡◌, ℕ, ◌+◌, ◌-◌, ◌/◌, arith, rules, sym, subst, ◌∙◌}
use Rattle.std.proofs.lemmas.Bool.Decides.{nat_tests}
use Rattle.std.proofs.lemmas.Result.{err_from_is_err_and}
use Rattle.sg_space.proofs.Known.{still, before, reads_then}
use Rattle.sg_space.specs.Units.{HasAt}
use Rattle.sg_space.specs.View.{Space}
use Rattle.sg_names.specs.Pages.{IsNamePage, later_no, HasLater}
use Rattle.sg_names.specs.Seen.{IsSeen}
use Rattle.sg_names.proofs.Chains.{known, first_page, leads, leads_first, seen_page, chain_ends, walks_names}
use Rattle.sg_reach.proofs.Faults.{broken_by, broken_so}
use Rattle.sg_reach.proofs.Placing.{one_set, reached_at, reached_by}
use Rattle.sg_reach.proofs.Walking.{walk_on, walk_free, walk_end, is_there}
use Rattle.sg_names.proofs.chain.reach_pages.Goals as goal

pub returns-in_err-first-clause-broken : goal.returns-in_err-first-clause-broken
returns-in_err-first-clause-broken g c =
    let p = err_from_is_err_and c.from_residual.result c.from_residual.ensures.1 in
    rw (p.1, p.2) (broken_so c.in_err-first.field-0.0 (λ none shows can. none shows (first_page (g.P.PageSpace.view c.args.space.now).space.pages.at c.args.into.now.pages can)) c.in_err-first.ensures.broken)

pub returns-in_err-set_page-clause-broken : goal.returns-in_err-set_page-clause-broken
returns-in_err-set_page-clause-broken g c =
    let i = c.pages.invariant.so_far in
    let test = c.pages-test.true in
    let count = c.later_pages-later.ensures in
    let p = err_from_is_err_and c.from_residual-in_err-set_page.result c.from_residual-in_err-set_page.ensures.1 in
    rw (p.1, p.2) (broken_by c.in_err-set_page.field-0.0 (λ no_more shows can.
    let k = known (g.P.PageSpace.view c.args.space.now).space.pages.at c.args.into.now.pages c.in_ok-first.first can (c.in_ok-first.ensures.read shows) in
    no_more (walk_free (later_no (g.P.PageSpace.view c.args.space.now).space.pages.at) c.pages.next.0 ((c.in_ok-first.first.peak - 1) / 79) i.0 k.walk (omega arith) shows (i.2 shows))) c.in_err-set_page.ensures.broken)

pub look-requires-in-pages : goal.look-requires-in-pages
look-requires-in-pages g c = λ told.
    let i = c.pages.invariant.so_far in
    let test = c.pages-test.true in
    let count = c.later_pages-later.ensures in
    let back = i.0.told told in
    let shows = g.met.P.PageSpace.told_shows _ back in
    let k = known (g.P.PageSpace.view c.args.space.now).space.pages.at c.args.into.now.pages c.in_ok-first.first (c.requires.there back) (c.in_ok-first.ensures.read shows) in
    is_there (i.2 shows) (still (λ (s : Space). HasAt s.pages.at (later_no (g.P.PageSpace.view c.args.space.now).space.pages.at c.pages.counter) IsNamePage) i.0.kept shows (k.walk.is c.pages.counter (omega arith)))

pub returns-in_err-seen-clause-broken : goal.returns-in_err-seen-clause-broken
returns-in_err-seen-clause-broken g c =
    let i = c.pages.invariant.so_far in
    let test = c.pages-test.true in
    let count = c.later_pages-later.ensures in
    let p = err_from_is_err_and c.from_residual-in_err-seen.result c.from_residual-in_err-seen.ensures.1 in
    rw (p.1, p.2) (broken_so c.in_err-seen.field-0.0 (λ none shows can.
    let k = known (g.P.PageSpace.view c.args.space.now).space.pages.at c.args.into.now.pages c.in_ok-first.first can (c.in_ok-first.ensures.read shows) in
    let there = subst (λ (n : ℕ). HasAt (g.P.PageSpace.view c.args.space.now).space.pages.at n IsNamePage) (i.2 shows) (k.walk.is c.pages.counter (omega arith)) in
    none (i.0.kept.shows shows) (still (λ (s : Space). HasAt s.pages.at c.pages.next.0 IsNamePage) i.0.kept shows there)) c.in_err-seen.ensures.broken)

pub pages-preserved : goal.pages-preserved
pages-preserved g c = record {
  so_far =
      let i = c.pages.invariant.so_far in
      let counts = c.look-in-pages.ensures.counts in
      let seen : (g.P.PageSpace.view c.args.space.now).Shows → HasAt (g.P.PageSpace.view c.args.space.now).space.pages.at c.pages.next.0 (IsSeen c.in_ok-seen.seen) = λ shows. before (λ (s : Space). HasAt s.pages.at c.pages.next.0 (IsSeen c.in_ok-seen.seen)) i.0.kept shows (c.in_ok-seen.ensures.read (i.0.kept.shows shows)) in (
        walk_on (later_no (g.P.PageSpace.view c.args.space.now).space.pages.at) c.pages.next.0 i.0 counts.told counts.later c.in_ok-seen.ensures.kept i.2 c.in_ok-set_page.ensures.set
            (λ shows. subst (λ (n : ℕ). HasAt (g.P.PageSpace.view c.args.space.now).space.pages.at n IsNamePage) (sym (i.2 shows)) (seen_page (seen shows))),
        search rules,
        λ shows. leads (g.P.PageSpace.view c.args.space.now).space.pages.at c.pages.next.0 c.pages.counter c.in_ok-seen.seen (i.2 shows) (seen shows),
      );
  later = λ t. g.met.P.PageSpace.later_then t _ _ _ (c.pages.invariant.later t) (c.look-in-pages.ensures.later t);
  means = λ t m. c.look-in-pages.ensures.means t (c.pages.invariant.means t m);
  quiet = c.in_ok-seen.ensures.counts.quiet ∙ c.pages.invariant.quiet;
  last = one_set c.in_ok-set_page.ensures.set;
  records = c.look-in-pages.ensures.writes.records ∙ c.pages.invariant.records;
}

pub returns-then-ne-clause-broken : goal.returns-then-ne-clause-broken
returns-then-ne-clause-broken g c = λ shows can.
    let i = c.pages.invariant.so_far in
    let test = c.pages-test.false in
    let count = c.later_pages-later.ensures in
    let end = c.pages.auto.counter-end in
    let same : c.pages.counter ≡ (c.in_ok-first.first.peak - 1) / 79 = omega arith in
    let zero_next : c.pages.next.0 ≡ 0 = sym (i.2 shows) ∙ (subst (λ (n : ℕ). later_no (g.P.PageSpace.view c.args.space.now).space.pages.at n ≡ 0) (sym same) (chain_ends (g.P.PageSpace.view c.args.space.now).space.pages.at c.args.into.now.pages c.in_ok-first.first can (c.in_ok-first.ensures.read shows))) in
    grind (arith, nat_tests, c.ne.ensures, c.if-ne.true, zero_next)

pub returns-clause-reached : goal.returns-clause-reached
returns-clause-reached g c = λ shows.
    let i = c.pages.invariant.so_far in
    let test = c.pages-test.false in
    let count = c.later_pages-later.ensures in
    let end = c.pages.auto.counter-end in
    let same : c.pages.counter ≡ (c.in_ok-first.first.peak - 1) / 79 = omega arith in
    let zero_next : c.pages.next.0 ≡ 0 = grind (arith, nat_tests, c.ne.ensures, c.if-ne.false) in
    walks_names (g.P.PageSpace.view c.args.space.now).space.pages.at c.in_ok-first.first c.args.into.now.pages c.pages.into.pages (c.in_ok-first.ensures.read shows) (walk_end c.pages.counter ((c.in_ok-first.first.peak - 1) / 79) i.0 same shows)
    (subst (λ (n : ℕ). later_no (g.P.PageSpace.view c.args.space.now).space.pages.at n ≡ 0) same (i.2 shows ∙ zero_next))

pub returns-in_err-seen-clause-later : goal.returns-in_err-seen-clause-later
returns-in_err-seen-clause-later g c = λ t. g.met.P.PageSpace.later_then t _ _ _ (c.pages.invariant.later t) (c.look-in-pages.ensures.later t)

-- the page that is said to be broken
pub returns-in_err-first-clause-place : goal.returns-in_err-first-clause-place
returns-in_err-first-clause-place g c =
    let p = err_from_is_err_and c.from_residual.result c.from_residual.ensures.1 in
    rw (p.1, p.2) (reached_at _ 0 c.in_err-first.field-0.0 (λ shows. c.requires.first) c.in_err-first.ensures.names)

pub returns-in_err-set_page-clause-place : goal.returns-in_err-set_page-clause-place
returns-in_err-set_page-clause-place g c =
    let p = err_from_is_err_and c.from_residual-in_err-set_page.result c.from_residual-in_err-set_page.ensures.1 in
    rw (p.1, p.2) (reached_by _ c.in_err-set_page.field-0.0 (λ shows. c.pages.invariant.last) c.in_err-set_page.ensures.place)

pub returns-in_err-seen-clause-place : goal.returns-in_err-seen-clause-place
returns-in_err-seen-clause-place g c =
    let p = err_from_is_err_and c.from_residual-in_err-seen.result c.from_residual-in_err-seen.ensures.1 in
    rw (p.1, p.2) (reached_at _ c.pages.next.0 c.in_err-seen.field-0.0 (λ shows. one_set c.in_ok-set_page.ensures.set) c.in_err-seen.ensures.names)

pub returns-then-ne-clause-place : goal.returns-then-ne-clause-place
returns-then-ne-clause-place g c = λ shows. c.pages.invariant.last
