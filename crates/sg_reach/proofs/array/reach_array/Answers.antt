use Rattle.std.proofs.Common.{◌≡◌, ℕ, ◌<◌, true, Some, slice_get, sym, subst}
use Rattle.std.proofs.lemmas.Result.{err_from_is_err_and}
use Rattle.sg_space.proofs.Known.{still, before, reads_then}
use Rattle.sg_space.specs.Units.{HasAt}
use Rattle.sg_space.specs.View.{Space}
use Rattle.sg_reach.specs.Form.{HasForm}
use Rattle.sg_reach.specs.Parts.{root_form, index_no, index_count}
use Rattle.sg_reach.specs.Reached.{numbers_in, CanWalkIndex, CanWalkLeaves, WalksIndex, WalksLeaves}
use Rattle.sg_reach.proofs.Faults.{broken_by, broken_so}
use Rattle.sg_reach.proofs.Lists.{nth}
use Rattle.sg_reach.proofs.Placing.{set_kept, one_set, reached_at, reached_by}
use Rattle.sg_reach.proofs.Setting.{head_free}
use Rattle.sg_reach.proofs.Whole.{in_range, whole_is, root_said, may_index, may_leaves, reaches}
use Rattle.sg_reach.proofs.array.reach_array.Goals as goal

pub returns-in_err-set_page-clause-broken : goal.returns-in_err-set_page-clause-broken
returns-in_err-set_page-clause-broken g c =
    let p = err_from_is_err_and c.from_residual.result c.from_residual.ensures.1 in
    rw (p.1, p.2) (broken_by c.in_err-set_page.field-0.0 (λ no_more shows can. no_more (head_free can.can)) c.in_err-set_page.ensures.broken)

pub returns-in_err-found-clause-broken : goal.returns-in_err-found-clause-broken
returns-in_err-found-clause-broken g c =
    let p = err_from_is_err_and c.from_residual-in_err-found.result c.from_residual-in_err-found.ensures.1 in
    rw (p.1, p.2) (broken_so c.in_err-found.field-0.0 (λ nothing shows can. root_said (g.P.PageSpace.view c.args.space.now).space.pages.at c.args.root.0 c.args.into.now.pages can ⊥ (λ r range first. nothing shows r range first)) c.in_err-found.ensures.broken)

pub returns-in_err-check-clause-broken : goal.returns-in_err-check-clause-broken
returns-in_err-check-clause-broken g c =
    let kept = c.in_ok-found.ensures.kept in
    let p = err_from_is_err_and c.from_residual-in_err-check.result c.from_residual-in_err-check.ensures.1 in
    rw (p.1, p.2) (broken_so c.in_err-check.field-0.0 (λ no_form shows can.
    let w = whole_is (g.P.PageSpace.view c.args.space.now).space.pages.at c.args.root.0 c.args.into.now.pages (numbers_in c.in_ok-found.found) can (in_range c.in_ok-found.found) (c.in_ok-found.ensures.read shows) in
    let now = still (λ (s : Space). HasAt s.pages.at c.args.root.0 (HasForm (root_form (numbers_in c.in_ok-found.found)))) kept shows (w.parts.first.links) in
    no_form (kept.shows shows) (subst (λ f. HasAt (g.P.PageSpace.view c.read_numbers.new.space).space.pages.at c.args.root.0 (HasForm f)) (sym c.root_form.ensures) now)) c.in_err-check.ensures.broken)

pub reach_index-requires : goal.reach_index-requires
reach_index-requires g c = λ told.
    let back = c.read_numbers.ensures.counts.told (c.check.ensures.counts.told told) in
    let shows = g.met.P.PageSpace.told_shows _ back in
    let kept = reads_then c.in_ok-found.ensures.kept c.in_ok-check.ensures.kept in
    let w = whole_is (g.P.PageSpace.view c.args.space.now).space.pages.at c.args.root.0 c.args.into.now.pages (numbers_in c.in_ok-found.found) (c.requires back) (in_range c.in_ok-found.found) (c.in_ok-found.ensures.read shows) in
    still (λ (s : Space). CanWalkIndex s.pages.at c.args.root.0 (numbers_in c.in_ok-found.found) c.set_page.new.into.pages) kept shows (may_index (g.P.PageSpace.view c.args.space.now).space.pages.at c.args.root.0 (numbers_in c.in_ok-found.found) c.args.into.now.pages c.set_page.new.into.pages w c.in_ok-set_page.ensures.set)

pub returns-in_err-reach_index-clause-broken : goal.returns-in_err-reach_index-clause-broken
returns-in_err-reach_index-clause-broken g c =
    let kept = reads_then c.in_ok-found.ensures.kept c.in_ok-check.ensures.kept in
    let p = err_from_is_err_and c.from_residual-in_err-reach_index.result c.from_residual-in_err-reach_index.ensures.1 in
    rw (p.1, p.2) (broken_so c.in_err-reach_index.field-0.0 (λ never shows can.
    let w = whole_is (g.P.PageSpace.view c.args.space.now).space.pages.at c.args.root.0 c.args.into.now.pages (numbers_in c.in_ok-found.found) can (in_range c.in_ok-found.found) (c.in_ok-found.ensures.read shows) in
    never (kept.shows shows) (still (λ (s : Space). CanWalkIndex s.pages.at c.args.root.0 (numbers_in c.in_ok-found.found) c.set_page.new.into.pages) kept shows (may_index (g.P.PageSpace.view c.args.space.now).space.pages.at c.args.root.0 (numbers_in c.in_ok-found.found) c.args.into.now.pages c.set_page.new.into.pages w c.in_ok-set_page.ensures.set))) c.in_err-reach_index.ensures.broken)

pub reach_leaves-requires : goal.reach_leaves-requires
reach_leaves-requires g c = λ told.
    let back = c.read_numbers.ensures.counts.told (c.check.ensures.counts.told (c.reach_index.ensures.counts.told told)) in
    let shows = g.met.P.PageSpace.told_shows _ back in
    let first = reads_then c.in_ok-found.ensures.kept c.in_ok-check.ensures.kept in
    let kept = reads_then first c.in_ok-reach_index.ensures.kept in
    let w = whole_is (g.P.PageSpace.view c.args.space.now).space.pages.at c.args.root.0 c.args.into.now.pages (numbers_in c.in_ok-found.found) (c.requires back) (in_range c.in_ok-found.found) (c.in_ok-found.ensures.read shows) in
    let index = before (λ (s : Space). WalksIndex s.pages.at c.args.root.0 (numbers_in c.in_ok-found.found) c.set_page.new.into.pages c.reach_index.new.into.pages) first shows (c.in_ok-reach_index.ensures.reached (first.shows shows)) in
    still (λ (s : Space). CanWalkLeaves s.pages.at c.args.root.0 (numbers_in c.in_ok-found.found) c.reach_index.new.into.pages) kept shows (may_leaves (g.P.PageSpace.view c.args.space.now).space.pages.at c.args.root.0 (numbers_in c.in_ok-found.found) c.args.into.now.pages c.set_page.new.into.pages c.reach_index.new.into.pages w c.in_ok-set_page.ensures.set index)

pub returns-in_err-reach_leaves-clause-broken : goal.returns-in_err-reach_leaves-clause-broken
returns-in_err-reach_leaves-clause-broken g c =
    let first = reads_then c.in_ok-found.ensures.kept c.in_ok-check.ensures.kept in
    let kept = reads_then first c.in_ok-reach_index.ensures.kept in
    let p = err_from_is_err_and c.from_residual-in_err-reach_leaves.result c.from_residual-in_err-reach_leaves.ensures.1 in
    rw (p.1, p.2) (broken_so c.in_err-reach_leaves.field-0.0 (λ never shows can.
    let w = whole_is (g.P.PageSpace.view c.args.space.now).space.pages.at c.args.root.0 c.args.into.now.pages (numbers_in c.in_ok-found.found) can (in_range c.in_ok-found.found) (c.in_ok-found.ensures.read shows) in
    let index = before (λ (s : Space). WalksIndex s.pages.at c.args.root.0 (numbers_in c.in_ok-found.found) c.set_page.new.into.pages c.reach_index.new.into.pages) first shows (c.in_ok-reach_index.ensures.reached (first.shows shows)) in
    never (kept.shows shows) (still (λ (s : Space). CanWalkLeaves s.pages.at c.args.root.0 (numbers_in c.in_ok-found.found) c.reach_index.new.into.pages) kept shows (may_leaves (g.P.PageSpace.view c.args.space.now).space.pages.at c.args.root.0 (numbers_in c.in_ok-found.found) c.args.into.now.pages c.set_page.new.into.pages c.reach_index.new.into.pages w c.in_ok-set_page.ensures.set index))) c.in_err-reach_leaves.ensures.broken)

pub returns-clause-reached : goal.returns-clause-reached
returns-clause-reached g c = λ shows.
    let one = c.in_ok-found.ensures.kept in
    let two = reads_then one c.in_ok-check.ensures.kept in
    let three = reads_then two c.in_ok-reach_index.ensures.kept in
    let form = subst (λ f. HasAt (g.P.PageSpace.view c.read_numbers.new.space).space.pages.at c.args.root.0 (HasForm f)) c.root_form.ensures (c.in_ok-check.ensures.read (one.shows shows)) in
    let links = before (λ (s : Space). HasAt s.pages.at c.args.root.0 (HasForm (root_form (numbers_in c.in_ok-found.found)))) one shows form in
    let index = before (λ (s : Space). WalksIndex s.pages.at c.args.root.0 (numbers_in c.in_ok-found.found) c.set_page.new.into.pages c.reach_index.new.into.pages) two shows (c.in_ok-reach_index.ensures.reached (two.shows shows)) in
    let leaves = before (λ (s : Space). WalksLeaves s.pages.at c.args.root.0 (numbers_in c.in_ok-found.found) c.reach_index.new.into.pages c.reach_leaves.new.into.pages) three shows (c.in_ok-reach_leaves.ensures.reached (three.shows shows)) in
    reaches (g.P.PageSpace.view c.args.space.now).space.pages.at c.args.root.0 (numbers_in c.in_ok-found.found) c.args.into.now.pages c.set_page.new.into.pages c.reach_index.new.into.pages c.reach_leaves.new.into.pages (in_range c.in_ok-found.found) (c.in_ok-found.ensures.read shows) links c.in_ok-set_page.ensures.set index leaves

pub returns-in_err-check-clause-later : goal.returns-in_err-check-clause-later
returns-in_err-check-clause-later g c = λ t. g.met.P.PageSpace.later_then t _ _ _ (c.read_numbers.ensures.later t) (c.check.ensures.later t)

pub returns-in_err-check-clause-means : goal.returns-in_err-check-clause-means
returns-in_err-check-clause-means g c = λ t m. c.check.ensures.means t (c.read_numbers.ensures.means t m)

pub returns-in_err-reach_index-clause-later : goal.returns-in_err-reach_index-clause-later
returns-in_err-reach_index-clause-later g c = λ t. g.met.P.PageSpace.later_then t _ _ _ (c.read_numbers.ensures.later t) (g.met.P.PageSpace.later_then t _ _ _ (c.check.ensures.later t) (c.reach_index.ensures.later t))

pub returns-in_err-reach_index-clause-means : goal.returns-in_err-reach_index-clause-means
returns-in_err-reach_index-clause-means g c = λ t m. c.reach_index.ensures.means t (c.check.ensures.means t (c.read_numbers.ensures.means t m))

pub returns-in_err-reach_leaves-clause-later : goal.returns-in_err-reach_leaves-clause-later
returns-in_err-reach_leaves-clause-later g c = λ t. g.met.P.PageSpace.later_then t _ _ _ (c.read_numbers.ensures.later t) (g.met.P.PageSpace.later_then t _ _ _ (c.check.ensures.later t) (g.met.P.PageSpace.later_then t _ _ _ (c.reach_index.ensures.later t) (c.reach_leaves.ensures.later t)))

pub returns-in_err-reach_leaves-clause-means : goal.returns-in_err-reach_leaves-clause-means
returns-in_err-reach_leaves-clause-means g c = λ t m. c.reach_leaves.ensures.means t (c.reach_index.ensures.means t (c.check.ensures.means t (c.read_numbers.ensures.means t m)))

pub returns-clause-later : goal.returns-clause-later
returns-clause-later g c = λ t. g.met.P.PageSpace.later_then t _ _ _ (c.read_numbers.ensures.later t) (g.met.P.PageSpace.later_then t _ _ _ (c.check.ensures.later t) (g.met.P.PageSpace.later_then t _ _ _ (c.reach_index.ensures.later t) (c.reach_leaves.ensures.later t)))

pub returns-clause-means : goal.returns-clause-means
returns-clause-means g c = λ t m. c.reach_leaves.ensures.means t (c.reach_index.ensures.means t (c.check.ensures.means t (c.read_numbers.ensures.means t m)))

-- the page that is said to be broken
pub returns-in_err-set_page-clause-place : goal.returns-in_err-set_page-clause-place
returns-in_err-set_page-clause-place g c =
    let p = err_from_is_err_and c.from_residual.result c.from_residual.ensures.1 in
    rw (p.1, p.2) (reached_by _ c.in_err-set_page.field-0.0 (λ given. given.1) c.in_err-set_page.ensures.place)

pub returns-in_err-found-clause-place : goal.returns-in_err-found-clause-place
returns-in_err-found-clause-place g c =
    let p = err_from_is_err_and c.from_residual-in_err-found.result c.from_residual-in_err-found.ensures.1 in
    rw (p.1, p.2) (reached_at _ c.args.root.0 c.in_err-found.field-0.0 (λ given. one_set c.in_ok-set_page.ensures.set) c.in_err-found.ensures.names)

pub returns-in_err-check-clause-place : goal.returns-in_err-check-clause-place
returns-in_err-check-clause-place g c =
    let p = err_from_is_err_and c.from_residual-in_err-check.result c.from_residual-in_err-check.ensures.1 in
    rw (p.1, p.2) (reached_at _ c.args.root.0 c.in_err-check.field-0.0 (λ given. one_set c.in_ok-set_page.ensures.set) c.in_err-check.ensures.names)

pub returns-in_err-reach_index-clause-place : goal.returns-in_err-reach_index-clause-place
returns-in_err-reach_index-clause-place g c =
    let kept = reads_then c.in_ok-found.ensures.kept c.in_ok-check.ensures.kept in
    let p = err_from_is_err_and c.from_residual-in_err-reach_index.result c.from_residual-in_err-reach_index.ensures.1 in
    rw (p.1, p.2) (reached_by _ c.in_err-reach_index.field-0.0 (λ given. (kept.shows given.0, one_set c.in_ok-set_page.ensures.set)) c.in_err-reach_index.ensures.place)

pub returns-in_err-reach_leaves-clause-place : goal.returns-in_err-reach_leaves-clause-place
returns-in_err-reach_leaves-clause-place g c =
    let first = reads_then c.in_ok-found.ensures.kept c.in_ok-check.ensures.kept in
    let kept = reads_then first c.in_ok-reach_index.ensures.kept in
    let p = err_from_is_err_and c.from_residual-in_err-reach_leaves.result c.from_residual-in_err-reach_leaves.ensures.1 in
    rw (p.1, p.2) (reached_by _ c.in_err-reach_leaves.field-0.0 (λ given.
    let index = before (λ (s : Space). WalksIndex s.pages.at c.args.root.0 (numbers_in c.in_ok-found.found) c.set_page.new.into.pages c.reach_index.new.into.pages) first given.0 (c.in_ok-reach_index.ensures.reached (first.shows given.0)) in (
      kept.shows given.0,
      set_kept index.set _ (one_set c.in_ok-set_page.ensures.set),
      still (λ (s : Space). (j : ℕ) → j < index_count (numbers_in c.in_ok-found.found) → slice_get c.reach_index.new.into.pages (index_no s.pages.at c.args.root.0 j) ≡ Some true) kept given.0
          (λ j below. index.set.set _ (j, nth (index_no (g.P.PageSpace.view c.args.space.now).space.pages.at c.args.root.0) (index_count (numbers_in c.in_ok-found.found)) j below)),
    )) c.in_err-reach_leaves.ensures.place)
