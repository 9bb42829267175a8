use Rattle.std.proofs.Common.{◌≡◌, ◌∙◌, arith, rules}
use Rattle.sg_space.proofs.Known.{before}
use Rattle.sg_space.specs.Units.{HasAt}
use Rattle.sg_space.specs.View.{Space}
use Rattle.sg_names.specs.Tally.{IsTally}
use Rattle.sg_names.proofs.Tallies.{chain_there, chain_on, tally_here, counts_more}
use Rattle.sg_names.proofs.tally.count.Goals as goal

pub tally_page-requires : goal.tally_page-requires
tally_page-requires g c = λ told.
    let i = c.pages.invariant.so_far in
    let test = c.pages-test.true in
    chain_there c.pages.counter c.pages.page.0 i.0 c.requires (omega arith) (λ t. g.met.P.PageSpace.told_shows _ t) told

pub pages-preserved : goal.pages-preserved
pages-preserved g c = record {
  so_far =
      let i = c.pages.invariant.so_far in
      let test = c.pages-test.true in
      let counts = c.tally_page.ensures.counts in
      let few = c.in_ok-found.ensures.few in
      let most = i.1 in (
        chain_on c.in_ok-found.found.next.0 i.0 (omega arith) counts.told counts.later c.in_ok-found.ensures.kept (λ shows cat h at q.
            let seen = before (λ (s : Space). HasAt s.pages.at c.pages.page.0 (IsTally c.args.what.now c.in_ok-found.found)) i.0.kept shows (c.in_ok-found.ensures.read (i.0.kept.shows shows)) in
            let t = tally_here cat c.pages.counter c.pages.page.0 c.args.what.now c.in_ok-found.found h at seen in
            (t.0, counts_more c.args.what.now c.pages.n c.in_ok-found.found.count cat c.pages.counter q t.1)),
        omega arith,
      );
  later = λ t. g.met.P.PageSpace.later_then t _ _ _ (c.pages.invariant.later t) (c.tally_page.ensures.later t);
  quiet = c.in_ok-found.ensures.counts.quiet ∙ c.pages.invariant.quiet;
  means = λ t m. c.tally_page.ensures.means t (c.pages.invariant.means t m);
  records = c.tally_page.ensures.writes.records ∙ c.pages.invariant.records;
}
