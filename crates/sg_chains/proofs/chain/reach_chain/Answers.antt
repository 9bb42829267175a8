use Rattle.std.proofs.Common.{◌≡◌, ◌≢◌, ℕ, ◌+◌, ◌<◌, ◌≤◌, ◌^◌, length, refl, arith, rules, sym, subst, ◌∙◌}
use Rattle.std.proofs.lemmas.Result.{err_from_is_err_and}
use Rattle.sg_alloc.specs.Flags.{free_of}
use Rattle.sg_space.proofs.Known.{still, before}
use Rattle.sg_space.specs.Units.{HasAt}
use Rattle.sg_space.specs.View.{Space}
use Rattle.sg_chains.specs.Parts.{chain_no, HasLink, IsChainPage}
use Rattle.sg_chains.specs.Reached.{CanReachChain, AreFew}
use Rattle.sg_chains.specs.Seen.{IsSeen}
use Rattle.sg_chains.proofs.Chains.{some_pages, goes_on, can_walk}
use Rattle.sg_chains.proofs.Sums.{Passed, passed_first, passed_more, first_seen, link_seen, not_empty, whole, one_less, few_first, few_more}
use Rattle.sg_reach.proofs.Faults.{broken_by, broken_so}
use Rattle.sg_reach.proofs.Placing.{one_set, reached_at, reached_by}
use Rattle.sg_reach.proofs.Walking.{walk_start, walk_on, walk_free, is_there}
use Rattle.sg_chains.proofs.chain.reach_chain.Goals as goal

not_zero : (n : ℕ) → 0 < n → n ≢ 0
not_zero n some e = omega arith

pub look-requires : goal.look-requires
look-requires g c = λ told.
    let h = c.requires.there told in
    is_there refl (((can_walk h).is 0 (some_pages h.bucket h.linked)).page)

pub returns-in_err-seen-clause-broken : goal.returns-in_err-seen-clause-broken
returns-in_err-seen-clause-broken g c =
    let p = err_from_is_err_and c.from_residual-in_err-seen.result c.from_residual-in_err-seen.ensures.1 in
    rw (p.1, p.2) (broken_so c.in_err-seen.field-0.0 (λ none shows can. none shows (((can_walk can).is 0 (some_pages can.bucket can.linked)).page)) c.in_err-seen.ensures.broken)

pub links-init : goal.links-init
links-init g c =
    let e : c.from-entries.result ≡ c.in_ok-seen.seen.entries = search rules in
    let most_is = c.free_pages-most.ensures in
    let most_few = c.free_pages-most.type_inv in
    let few = c.in_ok-seen.ensures.few in
    let short = c.in_ok-seen.ensures.short in
    record {
      so_far = walk_on (chain_no (g.P.PageSpace.view c.args.space.now).space.pages.at c.args.first.0) c.args.first.0 (walk_start (g.P.PageSpace.view c.args.space.now) (chain_no (g.P.PageSpace.view c.args.space.now).space.pages.at c.args.first.0) (HasLink (g.P.PageSpace.view c.args.space.now).space.pages.at c.args.there c.args.first.0) c.args.into.now.pages) c.look.ensures.counts.told c.look.ensures.counts.later c.in_ok-seen.ensures.kept (λ shows. refl) c.in_ok-set_page.ensures.set (λ shows. first_seen c.in_ok-seen.seen (c.in_ok-seen.ensures.read shows));
      passed = λ shows. passed_first c.in_ok-seen.seen c.from-entries.result e (c.in_ok-seen.ensures.read shows);
      bands = c.in_ok-set_page.ensures.bands;
      some = omega arith;
      few = few_first c.from-entries.result c.in_ok-seen.seen.bytes c.in_ok-set_page.ensures.set (omega arith) (omega arith);
      most = omega arith;
      later = c.look.ensures.later;
      means = c.look.ensures.means;
      quiet = c.in_ok-seen.ensures.counts.quiet;
      last = one_set c.in_ok-set_page.ensures.set;
      records = c.look.ensures.writes.records;
    }

pub returns-in_err-set_page-2-clause-broken : goal.returns-in_err-set_page-2-clause-broken
returns-in_err-set_page-2-clause-broken g c =
    let i = c.links.invariant.so_far in
    let test = c.links-test.true in
    let some : 0 < c.links.next.0 = omega arith in
    let p = err_from_is_err_and c.from_residual-in_err-set_page-2.result c.from_residual-in_err-set_page-2.ensures.1 in
    rw (p.1, p.2) (broken_by c.in_err-set_page-2.field-0.0 (λ no_more shows can.
    let at = (c.links.invariant.passed shows).leads in
    let below = goes_on can.bucket can.linked c.links.pages c.links.next.0 (λ k b s. ((i.walks shows).is k b).behind s) at (not_zero c.links.next.0 some) in
    no_more (walk_free (chain_no (g.P.PageSpace.view c.args.space.now).space.pages.at c.args.first.0) c.links.next.0 (length (can.bucket).pages) i (can_walk can) below shows at)) c.in_err-set_page-2.ensures.broken)

pub look-requires-in-links : goal.look-requires-in-links
look-requires-in-links g c = λ told.
    let i = c.links.invariant.so_far in
    let test = c.links-test.true in
    let some : 0 < c.links.next.0 = omega arith in
    let back = i.told told in
    let shows = g.met.P.PageSpace.told_shows _ back in
    let h = c.requires.there back in
    let at = (c.links.invariant.passed shows).leads in
    let below = goes_on h.bucket h.linked c.links.pages c.links.next.0 (λ k b s. ((i.walks shows).is k b).behind s) at (not_zero c.links.next.0 some) in
    is_there at (still (λ (s : Space). HasAt s.pages.at (chain_no (g.P.PageSpace.view c.args.space.now).space.pages.at c.args.first.0 c.links.pages) (IsChainPage c.args.there)) i.kept shows (((can_walk h).is c.links.pages below).page))

pub returns-in_err-more-clause-broken : goal.returns-in_err-more-clause-broken
returns-in_err-more-clause-broken g c =
    let i = c.links.invariant.so_far in
    let test = c.links-test.true in
    let some : 0 < c.links.next.0 = omega arith in
    let p = err_from_is_err_and c.from_residual-in_err-more.result c.from_residual-in_err-more.ensures.1 in
    rw (p.1, p.2) (broken_so c.in_err-more.field-0.0 (λ none shows can.
    let at = (c.links.invariant.passed shows).leads in
    let below = goes_on can.bucket can.linked c.links.pages c.links.next.0 (λ k b s. ((i.walks shows).is k b).behind s) at (not_zero c.links.next.0 some) in
    let there = subst (λ (n : ℕ). HasAt (g.P.PageSpace.view c.args.space.now).space.pages.at n (IsChainPage c.args.there)) at (((can_walk can).is c.links.pages below).page) in
    none (i.kept.shows shows) (still (λ (s : Space). HasAt s.pages.at c.links.next.0 (IsChainPage c.args.there)) i.kept shows there)) c.in_err-more.ensures.broken)

pub returns-in_err-more-clause-later : goal.returns-in_err-more-clause-later
returns-in_err-more-clause-later g c = λ t. g.met.P.PageSpace.later_then t _ _ _ (c.links.invariant.later t) (c.look-in-links.ensures.later t)

pub returns-in_err-more-clause-means : goal.returns-in_err-more-clause-means
returns-in_err-more-clause-means g c = λ t m. c.look-in-links.ensures.means t (c.links.invariant.means t m)

pub returns-then-more-eq0-clause-broken : goal.returns-then-more-eq0-clause-broken
returns-then-more-eq0-clause-broken g c = λ shows can.
    let i = c.links.invariant.so_far in
    let test = c.links-test.true in
    let some : 0 < c.links.next.0 = omega arith in
    let first = c.links.invariant.some in
    let at = (c.links.invariant.passed shows).leads in
    let below = goes_on can.bucket can.linked c.links.pages c.links.next.0 (λ k b s. ((i.walks shows).is k b).behind s) at (not_zero c.links.next.0 some) in
    let seen = before (λ (s : Space). HasAt s.pages.at c.links.next.0 (IsSeen c.args.there c.in_ok-more.more)) i.kept shows (c.in_ok-more.ensures.read (i.kept.shows shows)) in
    let more = not_empty c.in_ok-more.more (c.links.invariant.passed shows) seen ((can_walk can).is c.links.pages below) (omega arith) in
    let none = c.if-more-eq0.true in
    omega arith

pub returns-then-more-eq0-clause-later : goal.returns-then-more-eq0-clause-later
returns-then-more-eq0-clause-later g c = λ t. g.met.P.PageSpace.later_then t _ _ _ (c.links.invariant.later t) (c.look-in-links.ensures.later t)

pub returns-then-more-eq0-clause-means : goal.returns-then-more-eq0-clause-means
returns-then-more-eq0-clause-means g c = λ t m. c.look-in-links.ensures.means t (c.links.invariant.means t m)

pub overflow_add-pages : goal.overflow_add-pages
overflow_add-pages g c =
    let few = c.links.invariant.few.pages_set in
    let most = c.links.invariant.most in
    let one = one_less c.in_ok-set_page-2.ensures.set in
    omega (arith, few, most, one)

pub links-smaller : goal.links-smaller
links-smaller g c = let one = one_less c.in_ok-set_page-2.ensures.set in omega (arith, one)

pub links-preserved : goal.links-preserved
links-preserved g c =
    let i = c.links.invariant.so_far in
    let test = c.links-test.true in
    let some : 0 < c.links.next.0 = omega arith in
    let more : 0 < c.in_ok-more.more.entries = let test = c.if-more-eq0.false in omega arith in
    let e : c.from-entries-in-links.result ≡ c.in_ok-more.more.entries = search rules in
    let counts = c.look-in-links.ensures.counts in
    let seen = λ (shows : (g.P.PageSpace.view c.args.space.now).Shows). before (λ (s : Space). HasAt s.pages.at c.links.next.0 (IsSeen c.args.there c.in_ok-more.more)) i.kept shows (c.in_ok-more.ensures.read (i.kept.shows shows)) in
    record {
      so_far = walk_on (chain_no (g.P.PageSpace.view c.args.space.now).space.pages.at c.args.first.0) c.links.next.0 i counts.told counts.later c.in_ok-more.ensures.kept (λ shows. (c.links.invariant.passed shows).leads) c.in_ok-set_page-2.ensures.set (λ shows. link_seen c.in_ok-more.more (c.links.invariant.passed shows) (seen shows) (not_zero c.links.next.0 some) more);
      passed = λ shows. subst (λ (n : ℕ). Passed (g.P.PageSpace.view c.args.space.now).space.pages.at c.args.first.0 (c.links.pages + 1) (c.links.entries + n) (c.links.bytes + c.in_ok-more.more.bytes) c.in_ok-more.more.next.0) (sym e) (passed_more c.in_ok-more.more (c.links.invariant.passed shows) (seen shows));
      bands = c.in_ok-set_page-2.ensures.bands ∙ c.links.invariant.bands;
      some = omega arith;
      few = subst (λ (n : ℕ). AreFew c.args.into.now.pages c.set_page-in-links.new.into.pages (c.links.pages + 1) (c.links.entries + n) (c.links.bytes + c.in_ok-more.more.bytes)) (sym e) (few_more c.in_ok-more.more.entries c.in_ok-more.more.bytes c.links.invariant.few c.in_ok-set_page-2.ensures.set c.in_ok-more.ensures.few c.in_ok-more.ensures.short);
      most = c.links.invariant.most;
      later = λ t. g.met.P.PageSpace.later_then t _ _ _ (c.links.invariant.later t) (c.look-in-links.ensures.later t);
      means = λ t m. c.look-in-links.ensures.means t (c.links.invariant.means t m);
      quiet = c.in_ok-more.ensures.counts.quiet ∙ c.links.invariant.quiet;
      last = one_set c.in_ok-set_page-2.ensures.set;
      records = c.look-in-links.ensures.writes.records ∙ c.links.invariant.records;
    }

pub returns-clause-reached : goal.returns-clause-reached
returns-clause-reached g c = λ shows.
    let i = c.links.invariant.so_far in
    let test = c.links-test.false in
    let none : c.links.next.0 ≡ 0 = omega arith in
    whole (record { pages = c.links.pages; entries = c.links.entries; bytes = c.links.bytes }) c.links.invariant.some c.requires.small (i.walks shows)
    (subst (Passed (g.P.PageSpace.view c.args.space.now).space.pages.at c.args.first.0 c.links.pages c.links.entries c.links.bytes) none (c.links.invariant.passed shows))

-- the page that is said to be broken
pub returns-in_err-set_page-clause-place : goal.returns-in_err-set_page-clause-place
returns-in_err-set_page-clause-place g c =
    let p = err_from_is_err_and c.from_residual.result c.from_residual.ensures.1 in
    rw (p.1, p.2) (reached_by _ c.in_err-set_page.field-0.0 (λ given. given.1) c.in_err-set_page.ensures.place)

pub returns-in_err-seen-clause-place : goal.returns-in_err-seen-clause-place
returns-in_err-seen-clause-place g c =
    let p = err_from_is_err_and c.from_residual-in_err-seen.result c.from_residual-in_err-seen.ensures.1 in
    rw (p.1, p.2) (reached_at _ c.args.first.0 c.in_err-seen.field-0.0 (λ given. one_set c.in_ok-set_page.ensures.set) c.in_err-seen.ensures.names)

pub returns-in_err-set_page-2-clause-place : goal.returns-in_err-set_page-2-clause-place
returns-in_err-set_page-2-clause-place g c =
    let p = err_from_is_err_and c.from_residual-in_err-set_page-2.result c.from_residual-in_err-set_page-2.ensures.1 in
    rw (p.1, p.2) (reached_by _ c.in_err-set_page-2.field-0.0 (λ given. c.links.invariant.last) c.in_err-set_page-2.ensures.place)

pub returns-in_err-more-clause-place : goal.returns-in_err-more-clause-place
returns-in_err-more-clause-place g c =
    let p = err_from_is_err_and c.from_residual-in_err-more.result c.from_residual-in_err-more.ensures.1 in
    rw (p.1, p.2) (reached_at _ c.links.next.0 c.in_err-more.field-0.0 (λ given. one_set c.in_ok-set_page-2.ensures.set) c.in_err-more.ensures.names)

pub returns-then-more-eq0-clause-place : goal.returns-then-more-eq0-clause-place
returns-then-more-eq0-clause-place g c = λ given. one_set c.in_ok-set_page-2.ensures.set
