use Rattle.std.proofs.Common.{◌≡◌, ℕ, true, Some, slice_get, sym, subst, List, Bool}
use Rattle.std.proofs.lemmas.Result.{err_from_is_err_and}
use Rattle.sg_space.proofs.Known.{still, before, reads_then}
use Rattle.sg_space.specs.Units.{HasAt}
use Rattle.sg_space.specs.View.{Space}
use Rattle.sg_bands.specs.Parts.{root_form}
use Rattle.sg_bands.specs.Reached.{numbers_in, CanWalkBands, WalksBands, ReachesBlob}
use Rattle.sg_bands.proofs.Whole.{in_range, whole_is, root_said, may_walk, reaches}
use Rattle.sg_reach.specs.Form.{HasForm}
use Rattle.sg_reach.proofs.Faults.{broken_by, broken_so}
use Rattle.sg_reach.proofs.Setting.{head_free}
use Rattle.sg_reach.proofs.Placing.{one_set, reached_at, reached_by}
use Rattle.sg_bands.proofs.blob.reach_blob.Goals as goal

pub returns-in_err-set_page-clause-broken : goal.returns-in_err-set_page-clause-broken
returns-in_err-set_page-clause-broken g c =
    let p = err_from_is_err_and c.from_residual.result c.from_residual.ensures.1 in
    rw (p.1, p.2) (broken_by c.in_err-set_page.field-0.0 (λ no_more shows can. no_more (head_free can.page)) c.in_err-set_page.ensures.broken)

pub returns-in_err-found-clause-broken : goal.returns-in_err-found-clause-broken
returns-in_err-found-clause-broken g c =
    let p = err_from_is_err_and c.from_residual-in_err-found.result c.from_residual-in_err-found.ensures.1 in
    rw (p.1, p.2) (broken_so c.in_err-found.field-0.0 (λ nothing shows can. root_said (g.P.PageSpace.view c.args.space.now).space c.args.root.0 c.args.into.now.pages c.args.into.now.bands can ⊥ (λ r range first. nothing shows r range first)) c.in_err-found.ensures.broken)

pub returns-in_err-check-clause-broken : goal.returns-in_err-check-clause-broken
returns-in_err-check-clause-broken g c =
    let kept = c.in_ok-found.ensures.kept in
    let p = err_from_is_err_and c.from_residual-in_err-check.result c.from_residual-in_err-check.ensures.1 in
    rw (p.1, p.2) (broken_so c.in_err-check.field-0.0 (λ no_form shows can.
    let w = whole_is (g.P.PageSpace.view c.args.space.now).space c.args.root.0 c.args.into.now.pages c.args.into.now.bands (numbers_in c.in_ok-found.found) can (in_range c.in_ok-found.found) (c.in_ok-found.ensures.read shows) in
    let now = still (λ (s : Space). HasAt s.pages.at c.args.root.0 (HasForm (root_form (numbers_in c.in_ok-found.found)))) kept shows (w.parts.first.links) in
    no_form (kept.shows shows) (subst (λ f. HasAt (g.P.PageSpace.view c.read_numbers.new.space).space.pages.at c.args.root.0 (HasForm f)) (sym c.root_form.ensures) now)) c.in_err-check.ensures.broken)

pub reach_bands-requires : goal.reach_bands-requires
reach_bands-requires g c = λ told.
    let back = c.read_numbers.ensures.counts.told (c.check.ensures.counts.told told) in
    let shows = g.met.P.PageSpace.told_shows _ back in
    let kept = reads_then c.in_ok-found.ensures.kept c.in_ok-check.ensures.kept in
    let w = whole_is (g.P.PageSpace.view c.args.space.now).space c.args.root.0 c.args.into.now.pages c.args.into.now.bands (numbers_in c.in_ok-found.found) (c.requires back) (in_range c.in_ok-found.found) (c.in_ok-found.ensures.read shows) in
    subst (λ (flags : List Bool). CanWalkBands (g.P.PageSpace.view c.check.new.space).space c.args.root.0 (numbers_in c.in_ok-found.found) flags) (sym c.set_page.ensures.bands)
    (still (λ (s : Space). CanWalkBands s c.args.root.0 (numbers_in c.in_ok-found.found) c.args.into.now.bands) kept shows (may_walk (g.P.PageSpace.view c.args.space.now).space c.args.root.0 (numbers_in c.in_ok-found.found) c.args.into.now.bands w))

pub returns-in_err-reach_bands-clause-broken : goal.returns-in_err-reach_bands-clause-broken
returns-in_err-reach_bands-clause-broken g c =
    let kept = reads_then c.in_ok-found.ensures.kept c.in_ok-check.ensures.kept in
    let p = err_from_is_err_and c.from_residual-in_err-reach_bands.result c.from_residual-in_err-reach_bands.ensures.1 in
    rw (p.1, p.2) (broken_so c.in_err-reach_bands.field-0.0 (λ never shows can.
    let w = whole_is (g.P.PageSpace.view c.args.space.now).space c.args.root.0 c.args.into.now.pages c.args.into.now.bands (numbers_in c.in_ok-found.found) can (in_range c.in_ok-found.found) (c.in_ok-found.ensures.read shows) in
    never (kept.shows shows) (subst (λ (flags : List Bool). CanWalkBands (g.P.PageSpace.view c.check.new.space).space c.args.root.0 (numbers_in c.in_ok-found.found) flags) (sym c.set_page.ensures.bands)
    (still (λ (s : Space). CanWalkBands s c.args.root.0 (numbers_in c.in_ok-found.found) c.args.into.now.bands) kept shows (may_walk (g.P.PageSpace.view c.args.space.now).space c.args.root.0 (numbers_in c.in_ok-found.found) c.args.into.now.bands w)))) c.in_err-reach_bands.ensures.broken)

pub returns-clause-reached : goal.returns-clause-reached
returns-clause-reached g c = λ shows.
    let one = c.in_ok-found.ensures.kept in
    let two = reads_then one c.in_ok-check.ensures.kept in
    let form = subst (λ f. HasAt (g.P.PageSpace.view c.read_numbers.new.space).space.pages.at c.args.root.0 (HasForm f)) c.root_form.ensures (c.in_ok-check.ensures.read (one.shows shows)) in
    let links = before (λ (s : Space). HasAt s.pages.at c.args.root.0 (HasForm (root_form (numbers_in c.in_ok-found.found)))) one shows form in
    let walk = before (λ (s : Space). WalksBands s c.args.root.0 (numbers_in c.in_ok-found.found) c.set_page.new.into.bands c.reach_bands.new.into.bands) two shows (c.in_ok-reach_bands.ensures.reached (two.shows shows)) in
    let all = reaches (g.P.PageSpace.view c.args.space.now).space c.args.root.0 (numbers_in c.in_ok-found.found) c.args.into.now.pages c.set_page.new.into.pages c.set_page.new.into.bands c.reach_bands.new.into.bands (in_range c.in_ok-found.found) (c.in_ok-found.ensures.read shows) links c.in_ok-set_page.ensures.set walk in
    subst (λ (flags : List Bool). ReachesBlob (g.P.PageSpace.view c.args.space.now).space c.args.root.0 c.args.into.now.pages flags c.args.into.now.bands c.reach_bands.new.into.bands) (sym c.in_ok-reach_bands.ensures.pages)
    (subst (λ (flags : List Bool). ReachesBlob (g.P.PageSpace.view c.args.space.now).space c.args.root.0 c.args.into.now.pages c.set_page.new.into.pages flags c.reach_bands.new.into.bands) c.in_ok-set_page.ensures.bands all)

pub returns-in_err-reach_bands-clause-later : goal.returns-in_err-reach_bands-clause-later
returns-in_err-reach_bands-clause-later g c = λ t. g.met.P.PageSpace.later_then t _ _ _ (c.read_numbers.ensures.later t) (g.met.P.PageSpace.later_then t _ _ _ (c.check.ensures.later t) (c.reach_bands.ensures.later t))

pub returns-in_err-reach_bands-clause-means : goal.returns-in_err-reach_bands-clause-means
returns-in_err-reach_bands-clause-means g c = λ t m. c.reach_bands.ensures.means t (c.check.ensures.means t (c.read_numbers.ensures.means t m))

pub returns-clause-later : goal.returns-clause-later
returns-clause-later g c = λ t. g.met.P.PageSpace.later_then t _ _ _ (c.read_numbers.ensures.later t) (g.met.P.PageSpace.later_then t _ _ _ (c.check.ensures.later t) (c.reach_bands.ensures.later t))

pub returns-clause-means : goal.returns-clause-means
returns-clause-means g c = λ t m. c.reach_bands.ensures.means t (c.check.ensures.means t (c.read_numbers.ensures.means t m))

-- the page that is said to be broken
pub returns-in_err-set_page-clause-place : goal.returns-in_err-set_page-clause-place
returns-in_err-set_page-clause-place g c =
    let p = err_from_is_err_and c.from_residual.result c.from_residual.ensures.1 in
    rw (p.1, p.2) (reached_by _ c.in_err-set_page.field-0.0 (λ given. given.1) c.in_err-set_page.ensures.place)

pub returns-in_err-found-clause-place : goal.returns-in_err-found-clause-place
returns-in_err-found-clause-place g c =
    let p = err_from_is_err_and c.from_residual-in_err-found.result c.from_residual-in_err-found.ensures.1 in
    rw (p.1, p.2) (reached_at _ c.args.root.0 c.in_err-found.field-0.0 (λ given. one_set c.in_ok-set_page.ensures.set) c.in_err-found.ensures.names)

pub returns-in_err-check-clause-place : goal.returns-in_err-check-clause-place
returns-in_err-check-clause-place g c =
    let p = err_from_is_err_and c.from_residual-in_err-check.result c.from_residual-in_err-check.ensures.1 in
    rw (p.1, p.2) (reached_at _ c.args.root.0 c.in_err-check.field-0.0 (λ given. one_set c.in_ok-set_page.ensures.set) c.in_err-check.ensures.names)

pub returns-in_err-reach_bands-clause-place : goal.returns-in_err-reach_bands-clause-place
returns-in_err-reach_bands-clause-place g c =
    let p = err_from_is_err_and c.from_residual-in_err-reach_bands.result c.from_residual-in_err-reach_bands.ensures.1 in
    rw (p.1, p.2) (reached_at _ c.args.root.0 c.in_err-reach_bands.field-0.0 (λ given. subst (λ (flags : List Bool). slice_get flags c.args.root.0 ≡ Some true) (sym c.reach_bands.ensures.pages) (one_set c.in_ok-set_page.ensures.set)) c.in_err-reach_bands.ensures.names)
