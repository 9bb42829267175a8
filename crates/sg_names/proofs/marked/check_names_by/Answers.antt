use Rattle.std.proofs.Common.{◌≡◌, ℕ, ◌+◌, ◌*◌, ◌<◌, ◌≤◌, IsSome, length, subst, ◌∙◌, arith}
use Rattle.std.proofs.lemmas.Result.{err_from_is_err_and}
use Rattle.sg_space.proofs.Known.{still, before, reads_then}
use Rattle.sg_space.specs.Units.{HasAt}
use Rattle.sg_space.specs.View.{Space}
use Rattle.sg_names.specs.Marked.{IsMarked}
use Rattle.sg_names.specs.Tally.{IsChain, IsTally}
use Rattle.sg_names.specs.declared.tally.Counted.TheVariants.{Every}
use Rattle.sg_reach.proofs.Placing.{among_at}
use Rattle.sg_names.proofs.Marking.{marked_all}
use Rattle.sg_names.proofs.Tallies.{chain_there, chain_on, chain_page, tally_here}
use Rattle.sg_names.proofs.marked.check_names_by.Goals as goal

pub check_marked-requires-clause-there : goal.check_marked-requires-clause-there
check_marked-requires-clause-there g c = λ told.
    let test = c.pages-test.true in
    chain_there c.pages.counter c.pages.page.0 c.pages.invariant.so_far c.requires.chain (omega arith) (λ t. g.met.P.PageSpace.told_shows _ t) told

pub tally_page-requires : goal.tally_page-requires
tally_page-requires g c = λ told.
    let test = c.pages-test.true in
    let back = c.check_marked.ensures.counts.told told in
    let there = chain_there c.pages.counter c.pages.page.0 c.pages.invariant.so_far c.requires.chain (omega arith) (λ t. g.met.P.PageSpace.told_shows _ t) back in
    still (λ (s : Space). IsSome (s.pages.at c.pages.page.0)) c.in_ok-check_marked.ensures.kept (g.met.P.PageSpace.told_shows _ back) there

pub pages-preserved : goal.pages-preserved
pages-preserved g c =
    let i = c.pages.invariant.so_far in
    let test = c.pages-test.true in
    let first = c.check_marked.ensures.counts in
    let second = c.tally_page.ensures.counts in
    let one = first.later in
    let two = second.later in
    record {
      so_far = chain_on c.in_ok-found.found.next.0 i (omega arith) (λ t. first.told (second.told t)) (omega arith) (reads_then c.in_ok-check_marked.ensures.kept c.in_ok-found.ensures.kept) (λ shows cat h at all.
          let now = still (λ (s : Space). IsChain s.pages.at c.args.pages cat) i.kept shows h in
          let here = c.in_ok-check_marked.ensures.read (i.kept.shows shows) cat now c.pages.counter at all in
          let kept = reads_then i.kept c.in_ok-check_marked.ensures.kept in
          let seen = before (λ (s : Space). HasAt s.pages.at c.pages.page.0 (IsTally Every c.in_ok-found.found)) kept shows (c.in_ok-found.ensures.read (kept.shows shows)) in
          let t = tally_here cat c.pages.counter c.pages.page.0 Every c.in_ok-found.found h at seen in
          (t.0, subst (λ (k : ℕ). IsMarked cat k c.check_marked.new.marks) (let e : 79 * c.pages.counter + 79 ≡ 79 * (c.pages.counter + 1) = omega arith in e) here));
      long = c.in_ok-check_marked.ensures.long ∙ c.pages.invariant.long;
      later = λ t. g.met.P.PageSpace.later_then t _ _ _ (c.pages.invariant.later t) (g.met.P.PageSpace.later_then t _ _ _ (c.check_marked.ensures.later t) (c.tally_page.ensures.later t));
      means = λ t m. c.tally_page.ensures.means t (c.check_marked.ensures.means t (c.pages.invariant.means t m));
      quiet = c.in_ok-found.ensures.counts.quiet ∙ (c.in_ok-check_marked.ensures.counts.quiet ∙ c.pages.invariant.quiet);
      records = c.tally_page.ensures.writes.records ∙ (c.check_marked.ensures.writes.records ∙ c.pages.invariant.records);
    }

pub returns-clause-read : goal.returns-clause-read
returns-clause-read g c = λ shows cat h.
    let i = c.pages.invariant.so_far in
    let test = c.pages-test.false in
    let end = c.pages.auto.counter-end in
    let long = h.raw.long in
    let many = h.many in
    marked_all cat (79 * c.pages.counter) c.pages.marks (omega arith) ((i.at shows cat h).1)

pub returns-in_err-check_marked-clause-later : goal.returns-in_err-check_marked-clause-later
returns-in_err-check_marked-clause-later g c = λ t. g.met.P.PageSpace.later_then t _ _ _ (c.pages.invariant.later t) (c.check_marked.ensures.later t)

pub returns-in_err-check_marked-clause-means : goal.returns-in_err-check_marked-clause-means
returns-in_err-check_marked-clause-means g c = λ t m. c.check_marked.ensures.means t (c.pages.invariant.means t m)

pub returns-in_err-found-clause-later : goal.returns-in_err-found-clause-later
returns-in_err-found-clause-later g c = λ t. g.met.P.PageSpace.later_then t _ _ _ (c.pages.invariant.later t) (g.met.P.PageSpace.later_then t _ _ _ (c.check_marked.ensures.later t) (c.tally_page.ensures.later t))

pub returns-in_err-found-clause-means : goal.returns-in_err-found-clause-means
returns-in_err-found-clause-means g c = λ t m. c.tally_page.ensures.means t (c.check_marked.ensures.means t (c.pages.invariant.means t m))

pub returns-in_err-check_marked-clause-place : goal.returns-in_err-check_marked-clause-place
returns-in_err-check_marked-clause-place g c =
    let i = c.pages.invariant.so_far in
    let test = c.pages-test.true in
    let p = err_from_is_err_and c.from_residual.result c.from_residual.ensures.1 in
    rw (p.1, p.2) (λ shows cat h. among_at cat.pages c.pages.counter c.pages.page.0 c.in_err-check_marked.field-0.0 (chain_page cat c.pages.counter c.pages.page.0 h ((i.at shows cat h).0) (omega arith)) c.in_err-check_marked.ensures.names)
