use Rattle.std.proofs.Common.{◌≡◌, ℕ, ◌+◌, ◌<◌, arith, rules, sym, subst, ◌∙◌}
use Rattle.std.proofs.lemmas.Result.{err_from_is_err_and}
use Rattle.sg_space.proofs.Known.{still, before, reads_then}
use Rattle.sg_space.specs.Reads.{HasSized, HasCell}
use Rattle.sg_space.specs.Units.{HasAt}
use Rattle.sg_space.specs.View.{Space}
use Rattle.byteorder.specs.Endian.{little_bytes}
use Rattle.sg_reach.specs.Form.{HasForm}
use Rattle.sg_reach.specs.Parts.{index_no, index_count, index_form}
use Rattle.sg_reach.specs.Reached.{numbers_in}
use Rattle.sg_reach.proofs.Faults.{broken_by, broken_so}
use Rattle.sg_reach.proofs.Placing.{set_kept, one_set, reached_at, reached_by}
use Rattle.sg_reach.proofs.Walking.{walk_on, walk_free, link_sized, link_read, is_there}
use Rattle.sg_reach.proofs.array.reach_index.Goals as goal

pub link_at-requires : goal.link_at-requires
link_at-requires g c = λ told.
    let i = c.loop-j.invariant.so_far.0 in
    let back = i.told told in
    let test = c.loop-j-test.true in
    let count = c.index-j-end.ensures.index in
    let shows = g.met.P.PageSpace.told_shows _ back in
    still (λ (s : Space). HasAt s.pages.at c.args.root.0 (HasSized 2 (c.loop-j.j + 1) 4)) i.kept shows (link_sized (c.loop-j.j + 1) (c.requires back).root_page (omega arith) (omega arith))

pub check-requires-clause-there : goal.check-requires-clause-there
check-requires-clause-there g c = λ told.
    let i = c.loop-j.invariant.so_far.0 in
    let mid = c.link_at.ensures.counts.told told in
    let back = i.told mid in
    let test = c.loop-j-test.true in
    let count = c.index-j-end.ensures.index in
    let shows = g.met.P.PageSpace.told_shows _ back in
    let kept = reads_then i.kept c.in_ok-index.ensures.kept in
    let read = before (λ (s : Space). HasAt s.pages.at c.args.root.0 (HasCell 2 (c.loop-j.j + 1) (little_bytes 4 c.in_ok-index.index.0))) i.kept shows (c.in_ok-index.ensures.read (i.kept.shows shows)) in
    let at = link_read _ c.args.root.0 2 (c.loop-j.j + 1) c.in_ok-index.index.0 read c.in_ok-index.ensures.small in
    is_there at (still (λ (s : Space). HasAt s.pages.at (index_no (g.P.PageSpace.view c.args.space.now).space.pages.at c.args.root.0 c.loop-j.j) (HasForm (index_form (numbers_in c.args.found) c.loop-j.j))) kept shows ((c.requires back).walk.is c.loop-j.j (omega arith)))

pub returns-in_err-set_page-clause-broken : goal.returns-in_err-set_page-clause-broken
returns-in_err-set_page-clause-broken g c =
    let i = c.loop-j.invariant.so_far.0 in
    let test = c.loop-j-test.true in
    let count = c.index-j-end.ensures.index in
    let p = err_from_is_err_and c.from_residual-in_err-set_page.result c.from_residual-in_err-set_page.ensures.1 in
    rw (p.1, p.2) (broken_by c.in_err-set_page.field-0.0 (λ no_more shows can.
    let read = before (λ (s : Space). HasAt s.pages.at c.args.root.0 (HasCell 2 (c.loop-j.j + 1) (little_bytes 4 c.in_ok-index.index.0))) i.kept shows (c.in_ok-index.ensures.read (i.kept.shows shows)) in
    let at = link_read _ c.args.root.0 2 (c.loop-j.j + 1) c.in_ok-index.index.0 read c.in_ok-index.ensures.small in
    no_more (walk_free (index_no (g.P.PageSpace.view c.args.space.now).space.pages.at c.args.root.0) c.in_ok-index.index.0 (index_count (numbers_in c.args.found)) i can.walk (omega arith) shows at)) c.in_err-set_page.ensures.broken)

pub returns-in_err-check-clause-broken : goal.returns-in_err-check-clause-broken
returns-in_err-check-clause-broken g c =
    let i = c.loop-j.invariant.so_far.0 in
    let test = c.loop-j-test.true in
    let count = c.index-j-end.ensures.index in
    let kept = reads_then i.kept c.in_ok-index.ensures.kept in
    let p = err_from_is_err_and c.from_residual-in_err-check.result c.from_residual-in_err-check.ensures.1 in
    rw (p.1, p.2) (broken_so c.in_err-check.field-0.0 (λ no_form shows can.
    let read = before (λ (s : Space). HasAt s.pages.at c.args.root.0 (HasCell 2 (c.loop-j.j + 1) (little_bytes 4 c.in_ok-index.index.0))) i.kept shows (c.in_ok-index.ensures.read (i.kept.shows shows)) in
    let at = link_read _ c.args.root.0 2 (c.loop-j.j + 1) c.in_ok-index.index.0 read c.in_ok-index.ensures.small in
    let page = can.walk.is c.loop-j.j (omega arith) in
    let there = subst (λ (n : ℕ). HasAt (g.P.PageSpace.view c.args.space.now).space.pages.at n (HasForm (index_form (numbers_in c.args.found) c.loop-j.j))) at page in
    let now = still (λ (s : Space). HasAt s.pages.at c.in_ok-index.index.0 (HasForm (index_form (numbers_in c.args.found) c.loop-j.j))) kept shows there in
    no_form (kept.shows shows) (subst (λ f. HasAt (g.P.PageSpace.view c.link_at.new.space).space.pages.at c.in_ok-index.index.0 (HasForm f)) (sym c.index_form.ensures) now)) c.in_err-check.ensures.broken)

pub loop-j-preserved : goal.loop-j-preserved
loop-j-preserved g c = record {
  so_far =
      let i = c.loop-j.invariant.so_far.0 in
      let kept = reads_then i.kept c.in_ok-index.ensures.kept in
      let first = c.link_at.ensures.counts in
      let second = c.check.ensures.counts in
      let one = first.later in
      let two = second.later in
      let at : (g.P.PageSpace.view c.args.space.now).Shows → index_no (g.P.PageSpace.view c.args.space.now).space.pages.at c.args.root.0 c.loop-j.j ≡ c.in_ok-index.index.0 = λ shows.
      let read = before (λ (s : Space). HasAt s.pages.at c.args.root.0 (HasCell 2 (c.loop-j.j + 1) (little_bytes 4 c.in_ok-index.index.0))) i.kept shows (c.in_ok-index.ensures.read (i.kept.shows shows)) in
      link_read (g.P.PageSpace.view c.args.space.now).space.pages.at c.args.root.0 2 (c.loop-j.j + 1) c.in_ok-index.index.0 read c.in_ok-index.ensures.small in (
        walk_on (index_no (g.P.PageSpace.view c.args.space.now).space.pages.at c.args.root.0) c.in_ok-index.index.0 i (λ t. first.told (second.told t)) (omega arith) (reads_then c.in_ok-index.ensures.kept c.in_ok-check.ensures.kept) at c.in_ok-set_page.ensures.set
            (λ shows.
            let now = c.in_ok-check.ensures.read (kept.shows shows) in
            let form = subst (λ f. HasAt (g.P.PageSpace.view c.link_at.new.space).space.pages.at c.in_ok-index.index.0 (HasForm f)) c.index_form.ensures now in
            let then = before (λ (s : Space). HasAt s.pages.at c.in_ok-index.index.0 (HasForm (index_form (numbers_in c.args.found) c.loop-j.j))) kept shows form in
            subst (λ (n : ℕ). HasAt (g.P.PageSpace.view c.args.space.now).space.pages.at n (HasForm (index_form (numbers_in c.args.found) c.loop-j.j))) (sym (at shows)) then),
        search rules,
      );
  later = λ t. g.met.P.PageSpace.later_then t _ _ _ (c.loop-j.invariant.later t) (g.met.P.PageSpace.later_then t _ _ _ (c.link_at.ensures.later t) (c.check.ensures.later t));
  means = λ t m. c.check.ensures.means t (c.link_at.ensures.means t (c.loop-j.invariant.means t m));
  quiet = c.in_ok-check.ensures.counts.quiet ∙ (c.in_ok-index.ensures.counts.quiet ∙ c.loop-j.invariant.quiet);
  records = c.check.ensures.writes.records ∙ (c.link_at.ensures.writes.records ∙ c.loop-j.invariant.records);
}

pub returns-in_err-index-clause-later : goal.returns-in_err-index-clause-later
returns-in_err-index-clause-later g c = λ t. g.met.P.PageSpace.later_then t _ _ _ (c.loop-j.invariant.later t) (c.link_at.ensures.later t)

pub returns-in_err-index-clause-means : goal.returns-in_err-index-clause-means
returns-in_err-index-clause-means g c = λ t m. c.link_at.ensures.means t (c.loop-j.invariant.means t m)

pub returns-in_err-set_page-clause-later : goal.returns-in_err-set_page-clause-later
returns-in_err-set_page-clause-later g c = λ t. g.met.P.PageSpace.later_then t _ _ _ (c.loop-j.invariant.later t) (c.link_at.ensures.later t)

pub returns-in_err-set_page-clause-means : goal.returns-in_err-set_page-clause-means
returns-in_err-set_page-clause-means g c = λ t m. c.link_at.ensures.means t (c.loop-j.invariant.means t m)

pub returns-in_err-check-clause-later : goal.returns-in_err-check-clause-later
returns-in_err-check-clause-later g c = λ t. g.met.P.PageSpace.later_then t _ _ _ (c.loop-j.invariant.later t) (g.met.P.PageSpace.later_then t _ _ _ (c.link_at.ensures.later t) (c.check.ensures.later t))

pub returns-in_err-check-clause-means : goal.returns-in_err-check-clause-means
returns-in_err-check-clause-means g c = λ t m. c.check.ensures.means t (c.link_at.ensures.means t (c.loop-j.invariant.means t m))

-- the page that is said to be broken
pub returns-in_err-set_page-clause-place : goal.returns-in_err-set_page-clause-place
returns-in_err-set_page-clause-place g c =
    let i = c.loop-j.invariant.so_far.0 in
    let p = err_from_is_err_and c.from_residual-in_err-set_page.result c.from_residual-in_err-set_page.ensures.1 in
    rw (p.1, p.2) (reached_by _ c.in_err-set_page.field-0.0 (λ given. set_kept (i.walks given.0).set _ given.1) c.in_err-set_page.ensures.place)

pub returns-in_err-check-clause-place : goal.returns-in_err-check-clause-place
returns-in_err-check-clause-place g c =
    let p = err_from_is_err_and c.from_residual-in_err-check.result c.from_residual-in_err-check.ensures.1 in
    rw (p.1, p.2) (reached_at _ c.in_ok-index.index.0 c.in_err-check.field-0.0 (λ given. one_set c.in_ok-set_page.ensures.set) c.in_err-check.ensures.names)
