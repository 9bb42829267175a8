use Rattle.std.proofs.Common.{◌≡◌, sym, arith, ◌∙◌}
use Rattle.std.proofs.lemmas.Result.{err_from_is_err_and}
use Rattle.sg_space.proofs.Known.{still}
use Rattle.sg_space.specs.View.{Space}
use Rattle.sg_reach.proofs.Placing.{among_at}
use Rattle.sg_chains.specs.Tally.{IsChain}
use Rattle.sg_chains.proofs.Keys.{chain_there, chain_page, chain_on, once_so, once_all}
use Rattle.sg_chains.proofs.once.check_once.Goals as goal

pub check_page-requires-clause-there : goal.check_page-requires-clause-there
check_page-requires-clause-there g c = λ told.
    let test = c.pages-test.true in
    chain_there c.pages.counter c.pages.page.0 c.pages.invariant.so_far c.requires (omega arith) (λ t. g.met.P.PageSpace.told_shows _ t) told

pub pages-preserved : goal.pages-preserved
pages-preserved g c =
    let i = c.pages.invariant.so_far in
    let test = c.pages-test.true in
    let counts = c.check_page.ensures.counts in
    record {
      so_far = chain_on c.in_ok-page.page.0 i (omega arith) counts.told counts.later c.in_ok-page.ensures.kept (λ shows b h at all.
          let now = still (λ (s : Space). IsChain s.pages.at c.args.first.0 c.args.pages b) i.kept shows h in
          (sym (c.in_ok-page.ensures.follows (i.kept.shows shows) b now c.pages.counter at), once_so b c.pages.counter all (c.in_ok-page.ensures.read (i.kept.shows shows) b now c.pages.counter at)));
      later = λ t. g.met.P.PageSpace.later_then t _ _ _ (c.pages.invariant.later t) (c.check_page.ensures.later t);
      means = λ t m. c.check_page.ensures.means t (c.pages.invariant.means t m);
      quiet = c.in_ok-page.ensures.counts.quiet ∙ c.pages.invariant.quiet;
      records = c.check_page.ensures.writes.records ∙ c.pages.invariant.records;
    }

pub returns-clause-read : goal.returns-clause-read
returns-clause-read g c = λ shows b h.
    let i = c.pages.invariant.so_far in
    let test = c.pages-test.false in
    let end = c.pages.auto.counter-end in
    let long = h.linked.long in
    let many = h.many in
    once_all b c.pages.counter (omega arith) ((i.at shows b h).1)

pub returns-in_err-page-clause-place : goal.returns-in_err-page-clause-place
returns-in_err-page-clause-place g c =
    let i = c.pages.invariant.so_far in
    let test = c.pages-test.true in
    let p = err_from_is_err_and c.from_residual.result c.from_residual.ensures.1 in
    rw (p.1, p.2) (λ shows b h. among_at b.pages c.pages.counter c.pages.page.0 c.in_err-page.field-0.0 (chain_page b c.pages.counter c.pages.page.0 h ((i.at shows b h).0) (omega arith)) c.in_err-page.ensures.names)
