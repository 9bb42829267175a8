use Rattle.std.proofs.Common.{◌≡◌, ℕ, ◌+◌, ◌/◌, ◌%◌, ◌<◌, true, Some, slice_get, ap, arith, rules, sym, subst, ◌∙◌}
use Rattle.std.proofs.lemmas.Result.{err_from_is_err_and}
use Rattle.sg_space.proofs.Known.{still, before, reads_then}
use Rattle.sg_space.specs.Reads.{HasSized, HasCell}
use Rattle.sg_space.specs.Units.{HasAt}
use Rattle.sg_space.specs.View.{Space}
use Rattle.byteorder.specs.Endian.{little_bytes}
use Rattle.sg_reach.specs.Form.{HasForm}
use Rattle.sg_reach.specs.Parts.{index_no, leaf_no, link_at, leaf_count, index_form, leaf_form}
use Rattle.sg_reach.specs.Reached.{numbers_in}
use Rattle.sg_reach.proofs.Faults.{broken_by, broken_so}
use Rattle.sg_reach.proofs.Placing.{set_kept, one_set, reached_at, reached_by}
use Rattle.sg_reach.proofs.Sound.{rounded_holds}
use Rattle.sg_reach.proofs.Walking.{walk_on, walk_free, link_sized, link_read, is_there}
use Rattle.sg_reach.proofs.array.reach_leaves.Goals as goal

pub link_at-requires : goal.link_at-requires
link_at-requires g c = λ told.
    let i = c.loop-d.invariant.so_far.0 in
    let back = i.told told in
    let test = c.loop-d-test.true in
    let count = c.leaves-d-end.ensures.leaves in
    let shows = g.met.P.PageSpace.told_shows _ back in
    let holds = rounded_holds (leaf_count (numbers_in c.args.found)) 509 (omega arith) in
    still (λ (s : Space). HasAt s.pages.at c.args.root.0 (HasSized 2 (c.loop-d.d / 509 + 1) 4)) i.kept shows (link_sized (c.loop-d.d / 509 + 1) (c.requires back).root_page (omega arith) (omega arith))

pub link_at-requires-in-loop-d : goal.link_at-requires-in-loop-d
link_at-requires-in-loop-d g c = λ told.
    let i = c.loop-d.invariant.so_far.0 in
    let back = i.told (c.link_at.ensures.counts.told told) in
    let test = c.loop-d-test.true in
    let count = c.leaves-d-end.ensures.leaves in
    let shows = g.met.P.PageSpace.told_shows _ back in
    let holds = rounded_holds (leaf_count (numbers_in c.args.found)) 509 (omega arith) in
    let kept = reads_then i.kept c.in_ok-index.ensures.kept in
    let read = before (λ (s : Space). HasAt s.pages.at c.args.root.0 (HasCell 2 (c.loop-d.d / 509 + 1) (little_bytes 4 c.in_ok-index.index.0))) i.kept shows (c.in_ok-index.ensures.read (i.kept.shows shows)) in
    let at = link_read (g.P.PageSpace.view c.args.space.now).space.pages.at c.args.root.0 2 (c.loop-d.d / 509 + 1) c.in_ok-index.index.0 read c.in_ok-index.ensures.small in
    let page = (c.requires back).index (c.loop-d.d / 509) (omega arith) in
    let there = subst (λ (n : ℕ). HasAt (g.P.PageSpace.view c.args.space.now).space.pages.at n (HasForm (index_form (numbers_in c.args.found) (c.loop-d.d / 509)))) at page in
    still (λ (s : Space). HasAt s.pages.at c.in_ok-index.index.0 (HasSized 3 (c.loop-d.d % 509) 4)) kept shows (link_sized (c.loop-d.d % 509) there (omega arith) (omega arith))

pub check-requires-clause-there : goal.check-requires-clause-there
check-requires-clause-there g c = λ told.
    let i = c.loop-d.invariant.so_far.0 in
    let test = c.loop-d-test.true in
    let count = c.leaves-d-end.ensures.leaves in
    let at : (g.P.PageSpace.view c.args.space.now).Shows → leaf_no (g.P.PageSpace.view c.args.space.now).space.pages.at c.args.root.0 c.loop-d.d ≡ c.in_ok-leaf.leaf.0 = λ shows.
    let read = before (λ (s : Space). HasAt s.pages.at c.args.root.0 (HasCell 2 (c.loop-d.d / 509 + 1) (little_bytes 4 c.in_ok-index.index.0))) i.kept shows (c.in_ok-index.ensures.read (i.kept.shows shows)) in
    let index = link_read (g.P.PageSpace.view c.args.space.now).space.pages.at c.args.root.0 2 (c.loop-d.d / 509 + 1) c.in_ok-index.index.0 read c.in_ok-index.ensures.small in
    let to_index = reads_then i.kept c.in_ok-index.ensures.kept in
    let next = before (λ (s : Space). HasAt s.pages.at c.in_ok-index.index.0 (HasCell 3 (c.loop-d.d % 509) (little_bytes 4 c.in_ok-leaf.leaf.0))) to_index shows (c.in_ok-leaf.ensures.read (to_index.shows shows)) in
    ap (λ (n : ℕ). link_at (g.P.PageSpace.view c.args.space.now).space.pages.at n (c.loop-d.d % 509)) index ∙ link_read (g.P.PageSpace.view c.args.space.now).space.pages.at c.in_ok-index.index.0 3 (c.loop-d.d % 509) c.in_ok-leaf.leaf.0 next c.in_ok-leaf.ensures.small in
    let kept = reads_then (reads_then i.kept c.in_ok-index.ensures.kept) c.in_ok-leaf.ensures.kept in
    let back = i.told (c.link_at.ensures.counts.told (c.link_at-in-loop-d.ensures.counts.told told)) in
    let shows = g.met.P.PageSpace.told_shows _ back in
    is_there (at shows) (still (λ (s : Space). HasAt s.pages.at (leaf_no (g.P.PageSpace.view c.args.space.now).space.pages.at c.args.root.0 c.loop-d.d) (HasForm (leaf_form (numbers_in c.args.found) c.loop-d.d))) kept shows ((c.requires back).walk.is c.loop-d.d (omega arith)))

pub returns-in_err-set_page-clause-broken : goal.returns-in_err-set_page-clause-broken
returns-in_err-set_page-clause-broken g c =
    let i = c.loop-d.invariant.so_far.0 in
    let test = c.loop-d-test.true in
    let count = c.leaves-d-end.ensures.leaves in
    let at : (g.P.PageSpace.view c.args.space.now).Shows → leaf_no (g.P.PageSpace.view c.args.space.now).space.pages.at c.args.root.0 c.loop-d.d ≡ c.in_ok-leaf.leaf.0 = λ shows.
    let read = before (λ (s : Space). HasAt s.pages.at c.args.root.0 (HasCell 2 (c.loop-d.d / 509 + 1) (little_bytes 4 c.in_ok-index.index.0))) i.kept shows (c.in_ok-index.ensures.read (i.kept.shows shows)) in
    let index = link_read (g.P.PageSpace.view c.args.space.now).space.pages.at c.args.root.0 2 (c.loop-d.d / 509 + 1) c.in_ok-index.index.0 read c.in_ok-index.ensures.small in
    let to_index = reads_then i.kept c.in_ok-index.ensures.kept in
    let next = before (λ (s : Space). HasAt s.pages.at c.in_ok-index.index.0 (HasCell 3 (c.loop-d.d % 509) (little_bytes 4 c.in_ok-leaf.leaf.0))) to_index shows (c.in_ok-leaf.ensures.read (to_index.shows shows)) in
    ap (λ (n : ℕ). link_at (g.P.PageSpace.view c.args.space.now).space.pages.at n (c.loop-d.d % 509)) index ∙ link_read (g.P.PageSpace.view c.args.space.now).space.pages.at c.in_ok-index.index.0 3 (c.loop-d.d % 509) c.in_ok-leaf.leaf.0 next c.in_ok-leaf.ensures.small in
    let p = err_from_is_err_and c.from_residual-in_err-set_page.result c.from_residual-in_err-set_page.ensures.1 in
    rw (p.1, p.2) (broken_by c.in_err-set_page.field-0.0 (λ no_more shows can.
    no_more (walk_free (leaf_no (g.P.PageSpace.view c.args.space.now).space.pages.at c.args.root.0) c.in_ok-leaf.leaf.0 (leaf_count (numbers_in c.args.found)) i can.walk (omega arith) shows (at shows))) c.in_err-set_page.ensures.broken)

pub returns-in_err-check-clause-broken : goal.returns-in_err-check-clause-broken
returns-in_err-check-clause-broken g c =
    let i = c.loop-d.invariant.so_far.0 in
    let test = c.loop-d-test.true in
    let count = c.leaves-d-end.ensures.leaves in
    let at : (g.P.PageSpace.view c.args.space.now).Shows → leaf_no (g.P.PageSpace.view c.args.space.now).space.pages.at c.args.root.0 c.loop-d.d ≡ c.in_ok-leaf.leaf.0 = λ shows.
    let read = before (λ (s : Space). HasAt s.pages.at c.args.root.0 (HasCell 2 (c.loop-d.d / 509 + 1) (little_bytes 4 c.in_ok-index.index.0))) i.kept shows (c.in_ok-index.ensures.read (i.kept.shows shows)) in
    let index = link_read (g.P.PageSpace.view c.args.space.now).space.pages.at c.args.root.0 2 (c.loop-d.d / 509 + 1) c.in_ok-index.index.0 read c.in_ok-index.ensures.small in
    let to_index = reads_then i.kept c.in_ok-index.ensures.kept in
    let next = before (λ (s : Space). HasAt s.pages.at c.in_ok-index.index.0 (HasCell 3 (c.loop-d.d % 509) (little_bytes 4 c.in_ok-leaf.leaf.0))) to_index shows (c.in_ok-leaf.ensures.read (to_index.shows shows)) in
    ap (λ (n : ℕ). link_at (g.P.PageSpace.view c.args.space.now).space.pages.at n (c.loop-d.d % 509)) index ∙ link_read (g.P.PageSpace.view c.args.space.now).space.pages.at c.in_ok-index.index.0 3 (c.loop-d.d % 509) c.in_ok-leaf.leaf.0 next c.in_ok-leaf.ensures.small in
    let kept = reads_then (reads_then i.kept c.in_ok-index.ensures.kept) c.in_ok-leaf.ensures.kept in
    let p = err_from_is_err_and c.from_residual-in_err-check.result c.from_residual-in_err-check.ensures.1 in
    rw (p.1, p.2) (broken_so c.in_err-check.field-0.0 (λ no_form shows can.
    let page = can.walk.is c.loop-d.d (omega arith) in
    let there = subst (λ (n : ℕ). HasAt (g.P.PageSpace.view c.args.space.now).space.pages.at n (HasForm (leaf_form (numbers_in c.args.found) c.loop-d.d))) (at shows) page in
    let now = still (λ (s : Space). HasAt s.pages.at c.in_ok-leaf.leaf.0 (HasForm (leaf_form (numbers_in c.args.found) c.loop-d.d))) kept shows there in
    no_form (kept.shows shows) (subst (λ f. HasAt (g.P.PageSpace.view c.link_at-in-loop-d.new.space).space.pages.at c.in_ok-leaf.leaf.0 (HasForm f)) (sym c.leaf_form.ensures) now)) c.in_err-check.ensures.broken)

pub loop-d-preserved : goal.loop-d-preserved
loop-d-preserved g c = record {
  so_far =
      let i = c.loop-d.invariant.so_far.0 in
      let test = c.loop-d-test.true in
      let count = c.leaves-d-end.ensures.leaves in
      let at : (g.P.PageSpace.view c.args.space.now).Shows → leaf_no (g.P.PageSpace.view c.args.space.now).space.pages.at c.args.root.0 c.loop-d.d ≡ c.in_ok-leaf.leaf.0 = λ shows.
      let read = before (λ (s : Space). HasAt s.pages.at c.args.root.0 (HasCell 2 (c.loop-d.d / 509 + 1) (little_bytes 4 c.in_ok-index.index.0))) i.kept shows (c.in_ok-index.ensures.read (i.kept.shows shows)) in
      let index = link_read (g.P.PageSpace.view c.args.space.now).space.pages.at c.args.root.0 2 (c.loop-d.d / 509 + 1) c.in_ok-index.index.0 read c.in_ok-index.ensures.small in
      let to_index = reads_then i.kept c.in_ok-index.ensures.kept in
      let next = before (λ (s : Space). HasAt s.pages.at c.in_ok-index.index.0 (HasCell 3 (c.loop-d.d % 509) (little_bytes 4 c.in_ok-leaf.leaf.0))) to_index shows (c.in_ok-leaf.ensures.read (to_index.shows shows)) in
      ap (λ (n : ℕ). link_at (g.P.PageSpace.view c.args.space.now).space.pages.at n (c.loop-d.d % 509)) index ∙ link_read (g.P.PageSpace.view c.args.space.now).space.pages.at c.in_ok-index.index.0 3 (c.loop-d.d % 509) c.in_ok-leaf.leaf.0 next c.in_ok-leaf.ensures.small in
      let kept = reads_then (reads_then i.kept c.in_ok-index.ensures.kept) c.in_ok-leaf.ensures.kept in
      let first = c.link_at.ensures.counts in
      let second = c.link_at-in-loop-d.ensures.counts in
      let third = c.check.ensures.counts in
      let one = first.later in
      let two = second.later in
      let three = third.later in (
        walk_on (leaf_no (g.P.PageSpace.view c.args.space.now).space.pages.at c.args.root.0) c.in_ok-leaf.leaf.0 i (λ t. first.told (second.told (third.told t))) (omega arith) (reads_then (reads_then c.in_ok-index.ensures.kept c.in_ok-leaf.ensures.kept) c.in_ok-check.ensures.kept) at c.in_ok-set_page.ensures.set
            (λ shows.
            let now = c.in_ok-check.ensures.read (kept.shows shows) in
            let form = subst (λ f. HasAt (g.P.PageSpace.view c.link_at-in-loop-d.new.space).space.pages.at c.in_ok-leaf.leaf.0 (HasForm f)) c.leaf_form.ensures now in
            let then = before (λ (s : Space). HasAt s.pages.at c.in_ok-leaf.leaf.0 (HasForm (leaf_form (numbers_in c.args.found) c.loop-d.d))) kept shows form in
            subst (λ (n : ℕ). HasAt (g.P.PageSpace.view c.args.space.now).space.pages.at n (HasForm (leaf_form (numbers_in c.args.found) c.loop-d.d))) (sym (at shows)) then),
        search rules,
      );
  later = λ t. g.met.P.PageSpace.later_then t _ _ _ (c.loop-d.invariant.later t) (g.met.P.PageSpace.later_then t _ _ _ (c.link_at.ensures.later t) (g.met.P.PageSpace.later_then t _ _ _ (c.link_at-in-loop-d.ensures.later t) (c.check.ensures.later t)));
  means = λ t m. c.check.ensures.means t (c.link_at-in-loop-d.ensures.means t (c.link_at.ensures.means t (c.loop-d.invariant.means t m)));
  quiet = c.in_ok-check.ensures.counts.quiet ∙ (c.in_ok-leaf.ensures.counts.quiet ∙ (c.in_ok-index.ensures.counts.quiet ∙ c.loop-d.invariant.quiet));
  records = c.check.ensures.writes.records ∙ (c.link_at-in-loop-d.ensures.writes.records ∙ (c.link_at.ensures.writes.records ∙ c.loop-d.invariant.records));
}

pub returns-in_err-leaf-clause-later : goal.returns-in_err-leaf-clause-later
returns-in_err-leaf-clause-later g c = λ t. g.met.P.PageSpace.later_then t _ _ _ (c.loop-d.invariant.later t) (g.met.P.PageSpace.later_then t _ _ _ (c.link_at.ensures.later t) (c.link_at-in-loop-d.ensures.later t))

pub returns-in_err-leaf-clause-means : goal.returns-in_err-leaf-clause-means
returns-in_err-leaf-clause-means g c = λ t m. c.link_at-in-loop-d.ensures.means t (c.link_at.ensures.means t (c.loop-d.invariant.means t m))

pub returns-in_err-set_page-clause-later : goal.returns-in_err-set_page-clause-later
returns-in_err-set_page-clause-later g c = λ t. g.met.P.PageSpace.later_then t _ _ _ (c.loop-d.invariant.later t) (g.met.P.PageSpace.later_then t _ _ _ (c.link_at.ensures.later t) (c.link_at-in-loop-d.ensures.later t))

pub returns-in_err-set_page-clause-means : goal.returns-in_err-set_page-clause-means
returns-in_err-set_page-clause-means g c = λ t m. c.link_at-in-loop-d.ensures.means t (c.link_at.ensures.means t (c.loop-d.invariant.means t m))

pub returns-in_err-check-clause-later : goal.returns-in_err-check-clause-later
returns-in_err-check-clause-later g c = λ t. g.met.P.PageSpace.later_then t _ _ _ (c.loop-d.invariant.later t) (g.met.P.PageSpace.later_then t _ _ _ (c.link_at.ensures.later t) (g.met.P.PageSpace.later_then t _ _ _ (c.link_at-in-loop-d.ensures.later t) (c.check.ensures.later t)))

pub returns-in_err-check-clause-means : goal.returns-in_err-check-clause-means
returns-in_err-check-clause-means g c = λ t m. c.check.ensures.means t (c.link_at-in-loop-d.ensures.means t (c.link_at.ensures.means t (c.loop-d.invariant.means t m)))

-- the page that is said to be broken
pub returns-in_err-set_page-clause-place : goal.returns-in_err-set_page-clause-place
returns-in_err-set_page-clause-place g c =
    let i = c.loop-d.invariant.so_far.0 in
    let test = c.loop-d-test.true in
    let count = c.leaves-d-end.ensures.leaves in
    let holds = rounded_holds (leaf_count (numbers_in c.args.found)) 509 (omega arith) in
    let p = err_from_is_err_and c.from_residual-in_err-set_page.result c.from_residual-in_err-set_page.ensures.1 in
    rw (p.1, p.2) (reached_by _ c.in_err-set_page.field-0.0 (λ given.
    let read = before (λ (s : Space). HasAt s.pages.at c.args.root.0 (HasCell 2 (c.loop-d.d / 509 + 1) (little_bytes 4 c.in_ok-index.index.0))) i.kept given.0 (c.in_ok-index.ensures.read (i.kept.shows given.0)) in
    let index = link_read (g.P.PageSpace.view c.args.space.now).space.pages.at c.args.root.0 2 (c.loop-d.d / 509 + 1) c.in_ok-index.index.0 read c.in_ok-index.ensures.small in
    set_kept (i.walks given.0).set _ (subst (λ (n : ℕ). slice_get c.args.into.now.pages n ≡ Some true) index (given.2 (c.loop-d.d / 509) (omega arith)))) c.in_err-set_page.ensures.place)

pub returns-in_err-check-clause-place : goal.returns-in_err-check-clause-place
returns-in_err-check-clause-place g c =
    let p = err_from_is_err_and c.from_residual-in_err-check.result c.from_residual-in_err-check.ensures.1 in
    rw (p.1, p.2) (reached_at _ c.in_ok-leaf.leaf.0 c.in_err-check.field-0.0 (λ given. one_set c.in_ok-set_page.ensures.set) c.in_err-check.ensures.names)
