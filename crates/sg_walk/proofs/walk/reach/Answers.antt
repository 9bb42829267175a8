use Rattle.std.proofs.Common.{◌≡◌, ℕ, IsSome, sym, ◌∙◌, arith, rules}
use Rattle.std.proofs.lemmas.Result.{err_from_is_err_and}
use Rattle.std.proofs.lemmas.Option.{get_or_from_slice_get}
use Rattle.sg_catalog.specs.Catalog.{filled}
use Rattle.sg_catalog.specs.Steps.{part}
use Rattle.sg_space.proofs.Known.{still, before, reads_then}
use Rattle.sg_space.specs.Units.{HasAt}
use Rattle.sg_space.specs.View.{Space}
use Rattle.sg_names.specs.Pages.{ReachesNames}
use Rattle.sg_names.specs.Tally.{IsChain, IsTally, HasChain}
use Rattle.sg_names.specs.declared.tally.Counted.TheVariants.{Every}
use Rattle.sg_names.proofs.Tallies.{chain_there, chain_on, chain_page, tally_here}
use Rattle.sg_names.proofs.Chains.{catalog_set}
use Rattle.sg_reach.proofs.Faults.{broken_so}
use Rattle.sg_reach.proofs.Placing.{set_kept, reached_by}
use Rattle.sg_walk.specs.Rows.{CanReachRows, ReachesRows}
use Rattle.sg_walk.proofs.All.{SetsSo, names_may, rows_may, page_may, page_done, chain_of, all_done}
use Rattle.sg_walk.proofs.Joining.{reaches_none}
use Rattle.sg_walk.proofs.walk.reach.Goals as goal

pub reach_names-requires-clause-there : goal.reach_names-requires-clause-there
reach_names-requires-clause-there g c = λ told. names_may (c.requires.there told)

pub returns-in_err-pages-clause-broken : goal.returns-in_err-pages-clause-broken
returns-in_err-pages-clause-broken g c =
    let p = err_from_is_err_and c.from_residual.result c.from_residual.ensures.1 in
    rw (p.1, p.2) (broken_so c.in_err-pages.field-0.0 (λ never shows can. never shows (names_may can)) c.in_err-pages.ensures.broken)

pub reach_rows-requires-clause-there : goal.reach_rows-requires-clause-there
reach_rows-requires-clause-there g c = λ told.
    let i = c.pages.invariant.so_far in
    let test = c.pages-test.true in
    let has : HasChain (g.P.PageSpace.view c.args.space.now) c.in_ok-pages.pages = λ t. let h = c.requires.there t in ((h.contents).catalog, chain_of (h.contents).catalog h.reads.catalog (c.in_ok-pages.ensures.many (g.met.P.PageSpace.told_shows _ t) (h.contents).catalog h.reads.catalog)) in
    chain_there c.pages.counter c.pages.page.0 i has (omega arith) (λ t. g.met.P.PageSpace.told_shows _ t) told

pub reach_rows-requires-clause-rows : goal.reach_rows-requires-clause-rows
reach_rows-requires-clause-rows g c = λ told.
    let i = c.pages.invariant.so_far in
    let test = c.pages-test.true in
    let back = i.told told in
    let shows = g.met.P.PageSpace.told_shows _ back in
    let h = c.requires.there back in
    let chain = chain_of (h.contents).catalog h.reads.catalog (c.in_ok-pages.ensures.many shows (h.contents).catalog h.reads.catalog) in
    let a = i.at shows (h.contents).catalog chain in
    let page = chain_page (h.contents).catalog c.pages.counter c.pages.page.0 chain a.0 (omega arith) in
    let may = page_may (h.contents).catalog c.pages.counter (rows_may h (c.in_ok-pages.ensures.reached shows) c.in_ok-pages.ensures.bands) a.1 in
    record {
      catalog = (h.contents).catalog;
      index = c.pages.counter;
      chain = still (λ (s : Space). IsChain s.pages.at c.in_ok-pages.pages (h.contents).catalog) i.kept shows chain;
      at = page;
      can = still (λ (s : Space). CanReachRows s c.pages.into (filled (part c.pages.counter (h.contents).catalog.places))) i.kept shows may;
    }

pub returns-in_err-reach_rows-clause-broken : goal.returns-in_err-reach_rows-clause-broken
returns-in_err-reach_rows-clause-broken g c =
    let i = c.pages.invariant.so_far in
    let test = c.pages-test.true in
    let p = err_from_is_err_and c.from_residual-in_err-reach_rows.result c.from_residual-in_err-reach_rows.ensures.1 in
    rw (p.1, p.2) (broken_so c.in_err-reach_rows.field-0.0 (λ never shows h.
    let chain = chain_of (h.contents).catalog h.reads.catalog (c.in_ok-pages.ensures.many shows (h.contents).catalog h.reads.catalog) in
    let a = i.at shows (h.contents).catalog chain in
    let page = chain_page (h.contents).catalog c.pages.counter c.pages.page.0 chain a.0 (omega arith) in
    let may = page_may (h.contents).catalog c.pages.counter (rows_may h (c.in_ok-pages.ensures.reached shows) c.in_ok-pages.ensures.bands) a.1 in
    never (i.kept.shows shows) (h.contents).catalog c.pages.counter
    (still (λ (s : Space). IsChain s.pages.at c.in_ok-pages.pages (h.contents).catalog) i.kept shows chain) page
    (still (λ (s : Space). CanReachRows s c.pages.into (filled (part c.pages.counter (h.contents).catalog.places))) i.kept shows may)) c.in_err-reach_rows.ensures.broken)

pub tally_page-requires : goal.tally_page-requires
tally_page-requires g c = λ told.
    let i = c.pages.invariant.so_far in
    let test = c.pages-test.true in
    let back = c.reach_rows.ensures.counts.told told in
    let has : HasChain (g.P.PageSpace.view c.args.space.now) c.in_ok-pages.pages = λ t. let h = c.requires.there t in ((h.contents).catalog, chain_of (h.contents).catalog h.reads.catalog (c.in_ok-pages.ensures.many (g.met.P.PageSpace.told_shows _ t) (h.contents).catalog h.reads.catalog)) in
    let there = chain_there c.pages.counter c.pages.page.0 i has (omega arith) (λ t. g.met.P.PageSpace.told_shows _ t) back in
    still (λ (s : Space). IsSome (s.pages.at c.pages.page.0)) c.in_ok-reach_rows.ensures.kept (g.met.P.PageSpace.told_shows _ back) there

pub pages-preserved : goal.pages-preserved
pages-preserved g c = record {
  so_far =
      let i = c.pages.invariant.so_far in
      let test = c.pages-test.true in
      let first = c.reach_rows.ensures.counts in
      let second = c.tally_page.ensures.counts in
      let one = first.later in
      let two = second.later in
      chain_on c.in_ok-found.found.next.0 i (omega arith) (λ t. first.told (second.told t)) (omega arith) (reads_then c.in_ok-reach_rows.ensures.kept c.in_ok-found.ensures.kept) (λ shows cat h at done.
      let now = still (λ (s : Space). IsChain s.pages.at c.in_ok-pages.pages cat) i.kept shows h in
      let here = before (λ (s : Space). ReachesRows s c.pages.into c.reach_rows.new.into (filled (part c.pages.counter cat.places))) i.kept shows (c.in_ok-reach_rows.ensures.reached (i.kept.shows shows) cat c.pages.counter now at) in
      let kept = reads_then i.kept c.in_ok-reach_rows.ensures.kept in
      let seen = before (λ (s : Space). HasAt s.pages.at c.pages.page.0 (IsTally Every c.in_ok-found.found)) kept shows (c.in_ok-found.ensures.read (kept.shows shows)) in
      let t = tally_here cat c.pages.counter c.pages.page.0 Every c.in_ok-found.found h at seen in
      (t.0, page_done cat c.pages.counter done here));
  later = λ t. g.met.P.PageSpace.later_then t _ _ _ (c.pages.invariant.later t) (g.met.P.PageSpace.later_then t _ _ _ (c.reach_rows.ensures.later t) (c.tally_page.ensures.later t));
  means = λ t m. c.tally_page.ensures.means t (c.reach_rows.ensures.means t (c.pages.invariant.means t m));
  quiet = c.in_ok-found.ensures.counts.quiet ∙ (c.in_ok-reach_rows.ensures.counts.quiet ∙ c.pages.invariant.quiet);
  records = c.tally_page.ensures.writes.records ∙ (c.reach_rows.ensures.writes.records ∙ c.pages.invariant.records);
}

pub returns-clause-reached : goal.returns-clause-reached
returns-clause-reached g c = λ shows.
    let i = c.pages.invariant.so_far in
    let test = c.pages-test.false in
    let end = c.pages.auto.counter-end in
    let n = c.in_ok-pages.ensures.reached shows in
    let many = c.in_ok-pages.ensures.many shows n.catalog n.is in
    all_done n c.pages.counter c.in_ok-pages.ensures.bands many (omega arith) ((i.at shows n.catalog (chain_of n.catalog n.is many)).1)

pub pages-init : goal.pages-init
pages-init g c = record {
  so_far = record {
    told = c.reach_names.ensures.counts.told;
    later = c.reach_names.ensures.counts.later;
    kept = c.in_ok-pages.ensures.kept;
    at = λ shows cat h. (sym (get_or_from_slice_get cat.pages 0 0 0 h.raw.first), reaches_none (g.P.PageSpace.view c.args.space.now).space c.reach_names.new.into);
  };
  later = c.reach_names.ensures.later;
  means = c.reach_names.ensures.means;
  quiet = c.in_ok-pages.ensures.counts.quiet;
  records = c.reach_names.ensures.writes.records;
}

pub returns-in_err-reach_rows-clause-later : goal.returns-in_err-reach_rows-clause-later
returns-in_err-reach_rows-clause-later g c = λ t. g.met.P.PageSpace.later_then t _ _ _ (c.pages.invariant.later t) (c.reach_rows.ensures.later t)

pub returns-in_err-found-clause-later : goal.returns-in_err-found-clause-later
returns-in_err-found-clause-later g c = λ t. g.met.P.PageSpace.later_then t _ _ _ (c.pages.invariant.later t) (g.met.P.PageSpace.later_then t _ _ _ (c.reach_rows.ensures.later t) (c.tally_page.ensures.later t))

-- the page that is said to be broken
pub returns-in_err-pages-clause-place : goal.returns-in_err-pages-clause-place
returns-in_err-pages-clause-place g c =
    let p = err_from_is_err_and c.from_residual.result c.from_residual.ensures.1 in
    rw (p.1, p.2) (reached_by _ c.in_err-pages.field-0.0 (λ shows. shows) c.in_err-pages.ensures.place)

pub returns-in_err-reach_rows-clause-place : goal.returns-in_err-reach_rows-clause-place
returns-in_err-reach_rows-clause-place g c =
    let i = c.pages.invariant.so_far in
    let test = c.pages-test.true in
    let p = err_from_is_err_and c.from_residual-in_err-reach_rows.result c.from_residual-in_err-reach_rows.ensures.1 in
    rw (p.1, p.2) (reached_by _ c.in_err-reach_rows.field-0.0 (λ shows.
    let n = c.in_ok-pages.ensures.reached shows in
    let chain = chain_of n.catalog n.is (c.in_ok-pages.ensures.many shows n.catalog n.is) in
    let a = i.at shows n.catalog chain in
    (i.kept.shows shows, set_kept (a.1).set.pages_set c.pages.page.0 (catalog_set n c.pages.counter c.pages.page.0 c.requires.first (chain_page n.catalog c.pages.counter c.pages.page.0 chain a.0 (omega arith))))) c.in_err-reach_rows.ensures.place)
