use Rattle.std.proofs.Common.{◌≡◌, ◌∙◌, arith}
use Rattle.sg_space.proofs.Known.{before}
use Rattle.sg_space.specs.Units.{HasAt}
use Rattle.sg_space.specs.View.{Space}
use Rattle.sg_chains.specs.Tally.{IsTally}
use Rattle.sg_chains.proofs.Keys.{chain_there, chain_on, tally_here, counts_more, counts_all}
use Rattle.sg_chains.proofs.tally.count.Goals as goal

pub tally_page-requires : goal.tally_page-requires
tally_page-requires g c = λ told.
    let test = c.pages-test.true in
    chain_there c.pages.counter c.pages.page.0 c.pages.invariant.so_far c.requires (omega arith) (λ t. g.met.P.PageSpace.told_shows _ t) told

pub pages-preserved : goal.pages-preserved
pages-preserved g c =
    let i = c.pages.invariant.so_far in
    let test = c.pages-test.true in
    let counts = c.tally_page.ensures.counts in
    let few = c.in_ok-found.ensures.few in
    let most = c.pages.invariant.few in
    record {
      so_far = chain_on c.in_ok-found.found.next.0 i (omega arith) counts.told counts.later c.in_ok-found.ensures.kept (λ shows b h at q.
          let seen = before (λ (s : Space). HasAt s.pages.at c.pages.page.0 (IsTally c.args.key.now c.in_ok-found.found)) i.kept shows (c.in_ok-found.ensures.read (i.kept.shows shows)) in
          let t = tally_here b c.pages.counter c.pages.page.0 c.args.key.now c.in_ok-found.found h at seen in
          (t.0, counts_more c.args.key.now c.pages.n c.in_ok-found.found.count b c.pages.counter h (omega arith) q t.1));
      few = omega arith;
      later = λ t. g.met.P.PageSpace.later_then t _ _ _ (c.pages.invariant.later t) (c.tally_page.ensures.later t);
      quiet = c.in_ok-found.ensures.counts.quiet ∙ c.pages.invariant.quiet;
      means = λ t m. c.tally_page.ensures.means t (c.pages.invariant.means t m);
      records = c.tally_page.ensures.writes.records ∙ c.pages.invariant.records;
    }

pub returns-clause-read : goal.returns-clause-read
returns-clause-read g c = λ shows b h.
    let i = c.pages.invariant.so_far in
    let test = c.pages-test.false in
    let end = c.pages.auto.counter-end in
    counts_all c.args.key.now c.pages.n b c.pages.counter h (omega arith) ((i.at shows b h).1)
