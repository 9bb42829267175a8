use Rattle.std.proofs.Common.{◌≡◌, ℕ, ◌<◌, ◌≤◌, IsTrue, IsFalse, List, length, take, slice_get, refl, arith, rules, sym, subst, ap, ◌∙◌}
use Rattle.std.proofs.lemmas.Result.{err_from_is_err_and}
use Rattle.sg_space.proofs.Known.{still, before, reads_then}
use Rattle.sg_space.specs.Units.{HasAt}
use Rattle.sg_space.specs.View.{Space}
use Rattle.sg_reach.proofs.Faults.{broken_by, broken_so}
use Rattle.sg_array.specs.Array.{Array, IsArray, root_cell as array_cell}
use Rattle.sg_linear.specs.Extent.{buckets_of, shape_of}
use Rattle.sg_space.specs.Reads.{HasCell}
use Rattle.sg_reach.specs.Reached.{CanReachArray, ReachesArray, numbers_in}
use Rattle.sg_reach.proofs.Setting.{head_free}
use Rattle.sg_reach.proofs.Placing.{set_kept, one_set, reached_at, reached_by}
use Rattle.sg_reach.proofs.Whole.{in_range, root_said}
use Rattle.sg_tables.specs.Reached.{CanReachTable, CanReachBuckets, ReachesBuckets}
use Rattle.sg_tables.proofs.Whole.{known, root_sheet_there, may_array, its_directory, may_buckets, sums_are, reaches}
use Rattle.sg_tables.proofs.table.reach_table.Goals as goal

pub returns-in_err-set_page-clause-broken : goal.returns-in_err-set_page-clause-broken
returns-in_err-set_page-clause-broken g c =
    let p = err_from_is_err_and c.from_residual.result c.from_residual.ensures.1 in
    rw (p.1, p.2) (broken_by c.in_err-set_page.field-0.0 (λ no_more shows can. no_more (head_free can.can)) c.in_err-set_page.ensures.broken)

pub returns-in_err-trunk-clause-broken : goal.returns-in_err-trunk-clause-broken
returns-in_err-trunk-clause-broken g c =
    let p = err_from_is_err_and c.from_residual-in_err-trunk.result c.from_residual-in_err-trunk.ensures.1 in
    rw (p.1, p.2) (broken_so c.in_err-trunk.field-0.0 (λ none shows can. none shows (root_sheet_there can)) c.in_err-trunk.ensures.broken)

pub reach_array-requires : goal.reach_array-requires
reach_array-requires g c = λ told.
    let back = c.read_trunk.ensures.counts.told told in
    let shows = g.met.P.PageSpace.told_shows _ back in
    let can = c.requires back in
    still (λ (s : Space). CanReachArray s.pages.at c.in_ok-trunk.trunk.directory.0 c.set_page.new.into.pages) c.in_ok-trunk.ensures.kept shows (may_array (known c.in_ok-trunk.trunk can (c.in_ok-trunk.ensures.read shows)) c.in_ok-set_page.ensures.set)

pub returns-in_err-reach_array-clause-broken : goal.returns-in_err-reach_array-clause-broken
returns-in_err-reach_array-clause-broken g c =
    let one = c.in_ok-trunk.ensures.kept in
    let p = err_from_is_err_and c.from_residual-in_err-reach_array.result c.from_residual-in_err-reach_array.ensures.1 in
    rw (p.1, p.2) (broken_so c.in_err-reach_array.field-0.0 (λ never shows can. never (one.shows shows) (still (λ (s : Space). CanReachArray s.pages.at c.in_ok-trunk.trunk.directory.0 c.set_page.new.into.pages) one shows (may_array (known c.in_ok-trunk.trunk can (c.in_ok-trunk.ensures.read shows)) c.in_ok-set_page.ensures.set))) c.in_err-reach_array.ensures.broken)

pub returns-in_err-names-clause-broken : goal.returns-in_err-names-clause-broken
returns-in_err-names-clause-broken g c =
    let one = c.in_ok-trunk.ensures.kept in
    let two = reads_then one c.in_ok-reach_array.ensures.kept in
    let p = err_from_is_err_and c.from_residual-in_err-names.result c.from_residual-in_err-names.ensures.1 in
    rw (p.1, p.2) (broken_so c.in_err-names.field-0.0 (λ none shows can.
    root_said (g.P.PageSpace.view c.args.space.now).space.pages.at c.in_ok-trunk.trunk.directory.0 c.set_page.new.into.pages (may_array (known c.in_ok-trunk.trunk can (c.in_ok-trunk.ensures.read shows)) c.in_ok-set_page.ensures.set) ⊥
    (λ r range first. none (two.shows shows) r range (still (λ (s : Space). HasAt s.pages.at c.in_ok-trunk.trunk.directory.0 (HasCell 2 0 (array_cell r.size r.count r.peak))) two shows first))) c.in_err-names.ensures.broken)

pub returns-then-not-is_directory-clause-broken : goal.returns-then-not-is_directory-clause-broken
returns-then-not-is_directory-clause-broken g c = λ shows can.
    let one = c.in_ok-trunk.ensures.kept in
    let two = reads_then one c.in_ok-reach_array.ensures.kept in
    let other : IsFalse c.is_directory.result = search rules in
    c.is_directory.ensures.other other (its_directory (known c.in_ok-trunk.trunk can (c.in_ok-trunk.ensures.read shows)) (numbers_in c.in_ok-names.names) (in_range c.in_ok-names.names) (before (λ (s : Space). HasAt s.pages.at c.in_ok-trunk.trunk.directory.0 (HasCell 2 0 (array_cell c.in_ok-names.names.size c.in_ok-names.names.count c.in_ok-names.names.peak))) two shows (c.in_ok-names.ensures.read (two.shows shows))))

pub returns-then-not-is_directory-clause-later : goal.returns-then-not-is_directory-clause-later
returns-then-not-is_directory-clause-later g c = λ t. g.met.P.PageSpace.later_then t _ _ _ (c.read_trunk.ensures.later t) (g.met.P.PageSpace.later_then t _ _ _ (c.reach_array.ensures.later t) (c.read_numbers.ensures.later t))

pub returns-then-not-is_directory-clause-means : goal.returns-then-not-is_directory-clause-means
returns-then-not-is_directory-clause-means g c = λ t m. c.read_numbers.ensures.means t (c.reach_array.ensures.means t (c.read_trunk.ensures.means t m))

pub reach_buckets-requires : goal.reach_buckets-requires
reach_buckets-requires g c = λ told.
    let one = c.in_ok-trunk.ensures.kept in
    let two = reads_then one c.in_ok-reach_array.ensures.kept in
    let three = reads_then two c.in_ok-names.ensures.kept in
    let back = c.read_trunk.ensures.counts.told (c.reach_array.ensures.counts.told (c.read_numbers.ensures.counts.told told)) in
    let shows = g.met.P.PageSpace.told_shows _ back in
    let can = c.requires back in
    still (λ (s : Space). CanReachBuckets s.pages.at c.in_ok-trunk.trunk.directory.0 c.in_ok-trunk.trunk.root.extent (buckets_of (shape_of c.in_ok-trunk.trunk.root.extent)) c.reach_array.new.into.pages) three shows (may_buckets (known c.in_ok-trunk.trunk can (c.in_ok-trunk.ensures.read shows)) c.in_ok-set_page.ensures.set (before (λ (s : Space). ReachesArray s.pages.at c.in_ok-trunk.trunk.directory.0 c.set_page.new.into.pages c.reach_array.new.into.pages) one shows (c.in_ok-reach_array.ensures.reached (one.shows shows))))

pub returns-in_err-sums-clause-broken : goal.returns-in_err-sums-clause-broken
returns-in_err-sums-clause-broken g c =
    let one = c.in_ok-trunk.ensures.kept in
    let two = reads_then one c.in_ok-reach_array.ensures.kept in
    let three = reads_then two c.in_ok-names.ensures.kept in
    let p = err_from_is_err_and c.from_residual-in_err-sums.result c.from_residual-in_err-sums.ensures.1 in
    rw (p.1, p.2) (broken_so c.in_err-sums.field-0.0 (λ never shows can. never (three.shows shows) (still (λ (s : Space). CanReachBuckets s.pages.at c.in_ok-trunk.trunk.directory.0 c.in_ok-trunk.trunk.root.extent (buckets_of (shape_of c.in_ok-trunk.trunk.root.extent)) c.reach_array.new.into.pages) three shows (may_buckets (known c.in_ok-trunk.trunk can (c.in_ok-trunk.ensures.read shows)) c.in_ok-set_page.ensures.set (before (λ (s : Space). ReachesArray s.pages.at c.in_ok-trunk.trunk.directory.0 c.set_page.new.into.pages c.reach_array.new.into.pages) one shows (c.in_ok-reach_array.ensures.reached (one.shows shows)))))) c.in_err-sums.ensures.broken)

pub returns-in_err-sums-clause-later : goal.returns-in_err-sums-clause-later
returns-in_err-sums-clause-later g c = λ t. g.met.P.PageSpace.later_then t _ _ _ (c.read_trunk.ensures.later t) (g.met.P.PageSpace.later_then t _ _ _ (c.reach_array.ensures.later t) (g.met.P.PageSpace.later_then t _ _ _ (c.read_numbers.ensures.later t) (c.reach_buckets.ensures.later t)))

pub returns-in_err-sums-clause-means : goal.returns-in_err-sums-clause-means
returns-in_err-sums-clause-means g c = λ t m. c.reach_buckets.ensures.means t (c.read_numbers.ensures.means t (c.reach_array.ensures.means t (c.read_trunk.ensures.means t m)))

pub returns-then-sums-many-clause-broken : goal.returns-then-sums-many-clause-broken
returns-then-sums-many-clause-broken g c = λ shows can.
    let one = c.in_ok-trunk.ensures.kept in
    let two = reads_then one c.in_ok-reach_array.ensures.kept in
    let three = reads_then two c.in_ok-names.ensures.kept in
    let k = known c.in_ok-trunk.trunk can (c.in_ok-trunk.ensures.read shows) in
    let s = sums_are k c.in_ok-set_page.ensures.set (before (λ (s : Space). ReachesArray s.pages.at c.in_ok-trunk.trunk.directory.0 c.set_page.new.into.pages c.reach_array.new.into.pages) one shows (c.in_ok-reach_array.ensures.reached (one.shows shows))) (λ names a four. before (λ (s : Space). ReachesBuckets s.pages.at names c.in_ok-trunk.trunk.root.extent (buckets_of (shape_of c.in_ok-trunk.trunk.root.extent)) c.reach_array.new.into.pages c.reach_buckets.new.into.pages c.in_ok-sums.sums.entries c.in_ok-sums.sums.bytes) three shows (c.in_ok-sums.ensures.reached (three.shows shows) names (still (λ (s : Space). IsArray s.pages.at c.in_ok-trunk.trunk.directory.0 names) three shows a) four)) in
    let e = s.0 in
    omega arith

pub returns-then-sums-many-clause-later : goal.returns-then-sums-many-clause-later
returns-then-sums-many-clause-later g c = λ t. g.met.P.PageSpace.later_then t _ _ _ (c.read_trunk.ensures.later t) (g.met.P.PageSpace.later_then t _ _ _ (c.reach_array.ensures.later t) (g.met.P.PageSpace.later_then t _ _ _ (c.read_numbers.ensures.later t) (c.reach_buckets.ensures.later t)))

pub returns-then-sums-many-clause-means : goal.returns-then-sums-many-clause-means
returns-then-sums-many-clause-means g c = λ t m. c.reach_buckets.ensures.means t (c.read_numbers.ensures.means t (c.reach_array.ensures.means t (c.read_trunk.ensures.means t m)))

pub returns-then-sums-trunk-clause-broken : goal.returns-then-sums-trunk-clause-broken
returns-then-sums-trunk-clause-broken g c = λ shows can.
    let one = c.in_ok-trunk.ensures.kept in
    let two = reads_then one c.in_ok-reach_array.ensures.kept in
    let three = reads_then two c.in_ok-names.ensures.kept in
    let k = known c.in_ok-trunk.trunk can (c.in_ok-trunk.ensures.read shows) in
    let s = sums_are k c.in_ok-set_page.ensures.set (before (λ (s : Space). ReachesArray s.pages.at c.in_ok-trunk.trunk.directory.0 c.set_page.new.into.pages c.reach_array.new.into.pages) one shows (c.in_ok-reach_array.ensures.reached (one.shows shows))) (λ names a four. before (λ (s : Space). ReachesBuckets s.pages.at names c.in_ok-trunk.trunk.root.extent (buckets_of (shape_of c.in_ok-trunk.trunk.root.extent)) c.reach_array.new.into.pages c.reach_buckets.new.into.pages c.in_ok-sums.sums.entries c.in_ok-sums.sums.bytes) three shows (c.in_ok-sums.ensures.reached (three.shows shows) names (still (λ (s : Space). IsArray s.pages.at c.in_ok-trunk.trunk.directory.0 names) three shows a) four)) in
    let e = s.1 in
    omega arith

pub returns-then-sums-trunk-clause-later : goal.returns-then-sums-trunk-clause-later
returns-then-sums-trunk-clause-later g c = λ t. g.met.P.PageSpace.later_then t _ _ _ (c.read_trunk.ensures.later t) (g.met.P.PageSpace.later_then t _ _ _ (c.reach_array.ensures.later t) (g.met.P.PageSpace.later_then t _ _ _ (c.read_numbers.ensures.later t) (c.reach_buckets.ensures.later t)))

pub returns-then-sums-trunk-clause-means : goal.returns-then-sums-trunk-clause-means
returns-then-sums-trunk-clause-means g c = λ t m. c.reach_buckets.ensures.means t (c.read_numbers.ensures.means t (c.reach_array.ensures.means t (c.read_trunk.ensures.means t m)))

pub returns-clause-reached : goal.returns-clause-reached
returns-clause-reached g c = λ shows.
    let one = c.in_ok-trunk.ensures.kept in
    let two = reads_then one c.in_ok-reach_array.ensures.kept in
    let three = reads_then two c.in_ok-names.ensures.kept in
    let yes : IsTrue c.is_directory.result = search rules in
    let all : c.in_ok-sums.sums.entries ≡ c.in_ok-trunk.trunk.root.entries = omega arith in
    let sum : c.in_ok-sums.sums.bytes ≡ c.in_ok-trunk.trunk.root.bytes = omega arith in
    reaches c.in_ok-trunk.trunk (numbers_in c.in_ok-names.names) (c.in_ok-trunk.ensures.read shows) (in_range c.in_ok-names.names) (before (λ (s : Space). HasAt s.pages.at c.in_ok-trunk.trunk.directory.0 (HasCell 2 0 (array_cell c.in_ok-names.names.size c.in_ok-names.names.count c.in_ok-names.names.peak))) two shows (c.in_ok-names.ensures.read (two.shows shows))) (c.is_directory.ensures.yes yes) c.in_ok-set_page.ensures.set (before (λ (s : Space). ReachesArray s.pages.at c.in_ok-trunk.trunk.directory.0 c.set_page.new.into.pages c.reach_array.new.into.pages) one shows (c.in_ok-reach_array.ensures.reached (one.shows shows))) (λ names a four. before (λ (s : Space). ReachesBuckets s.pages.at names c.in_ok-trunk.trunk.root.extent (buckets_of (shape_of c.in_ok-trunk.trunk.root.extent)) c.reach_array.new.into.pages c.reach_buckets.new.into.pages c.in_ok-sums.sums.entries c.in_ok-sums.sums.bytes) three shows (c.in_ok-sums.ensures.reached (three.shows shows) names (still (λ (s : Space). IsArray s.pages.at c.in_ok-trunk.trunk.directory.0 names) three shows a) four)) all sum

pub returns-clause-later : goal.returns-clause-later
returns-clause-later g c = λ t. g.met.P.PageSpace.later_then t _ _ _ (c.read_trunk.ensures.later t) (g.met.P.PageSpace.later_then t _ _ _ (c.reach_array.ensures.later t) (g.met.P.PageSpace.later_then t _ _ _ (c.read_numbers.ensures.later t) (c.reach_buckets.ensures.later t)))

pub returns-clause-means : goal.returns-clause-means
returns-clause-means g c = λ t m. c.reach_buckets.ensures.means t (c.read_numbers.ensures.means t (c.reach_array.ensures.means t (c.read_trunk.ensures.means t m)))

pub returns-in_err-names-clause-later : goal.returns-in_err-names-clause-later
returns-in_err-names-clause-later g c = λ t. g.met.P.PageSpace.later_then t _ _ _ (c.read_trunk.ensures.later t) (g.met.P.PageSpace.later_then t _ _ _ (c.reach_array.ensures.later t) (c.read_numbers.ensures.later t))

-- the page that is said to be broken
pub returns-in_err-set_page-clause-place : goal.returns-in_err-set_page-clause-place
returns-in_err-set_page-clause-place g c =
    let p = err_from_is_err_and c.from_residual.result c.from_residual.ensures.1 in
    rw (p.1, p.2) (reached_by _ c.in_err-set_page.field-0.0 (λ given. given.1) c.in_err-set_page.ensures.place)

pub returns-in_err-trunk-clause-place : goal.returns-in_err-trunk-clause-place
returns-in_err-trunk-clause-place g c =
    let p = err_from_is_err_and c.from_residual-in_err-trunk.result c.from_residual-in_err-trunk.ensures.1 in
    rw (p.1, p.2) (reached_at _ c.args.root.0 c.in_err-trunk.field-0.0 (λ given. one_set c.in_ok-set_page.ensures.set) c.in_err-trunk.ensures.names)

pub returns-in_err-reach_array-clause-place : goal.returns-in_err-reach_array-clause-place
returns-in_err-reach_array-clause-place g c =
    let p = err_from_is_err_and c.from_residual-in_err-reach_array.result c.from_residual-in_err-reach_array.ensures.1 in
    rw (p.1, p.2) (reached_by _ c.in_err-reach_array.field-0.0 (λ given. (c.in_ok-trunk.ensures.kept.shows given.0, one_set c.in_ok-set_page.ensures.set)) c.in_err-reach_array.ensures.place)

pub returns-in_err-names-clause-place : goal.returns-in_err-names-clause-place
returns-in_err-names-clause-place g c =
    let p = err_from_is_err_and c.from_residual-in_err-names.result c.from_residual-in_err-names.ensures.1 in
    rw (p.1, p.2) (reached_at _ c.in_ok-trunk.trunk.directory.0 c.in_err-names.field-0.0 (λ given. (c.in_ok-reach_array.ensures.reached (c.in_ok-trunk.ensures.kept.shows given.0)).set.set c.in_ok-trunk.trunk.directory.0 (0, refl)) c.in_err-names.ensures.names)

pub returns-then-not-is_directory-clause-place : goal.returns-then-not-is_directory-clause-place
returns-then-not-is_directory-clause-place g c = λ given. (c.in_ok-reach_array.ensures.reached (c.in_ok-trunk.ensures.kept.shows given.0)).set.set c.in_ok-trunk.trunk.directory.0 (0, refl)

pub returns-in_err-sums-clause-place : goal.returns-in_err-sums-clause-place
returns-in_err-sums-clause-place g c =
    let one = c.in_ok-trunk.ensures.kept in
    let three = reads_then (reads_then one c.in_ok-reach_array.ensures.kept) c.in_ok-names.ensures.kept in
    let p = err_from_is_err_and c.from_residual-in_err-sums.result c.from_residual-in_err-sums.ensures.1 in
    rw (p.1, p.2) (reached_by _ c.in_err-sums.field-0.0 (λ given. (three.shows given.0, (c.in_ok-reach_array.ensures.reached (one.shows given.0)).set.set c.in_ok-trunk.trunk.directory.0 (0, refl))) c.in_err-sums.ensures.place)

pub returns-then-sums-many-clause-place : goal.returns-then-sums-many-clause-place
returns-then-sums-many-clause-place g c = λ given.
    let one = c.in_ok-trunk.ensures.kept in
    let three = reads_then (reads_then one c.in_ok-reach_array.ensures.kept) c.in_ok-names.ensures.kept in
    c.in_ok-sums.ensures.stays (three.shows given.0) c.args.root.0 (set_kept (c.in_ok-reach_array.ensures.reached (one.shows given.0)).set c.args.root.0 (one_set c.in_ok-set_page.ensures.set))

pub returns-then-sums-trunk-clause-place : goal.returns-then-sums-trunk-clause-place
returns-then-sums-trunk-clause-place g c = λ given.
    let one = c.in_ok-trunk.ensures.kept in
    let three = reads_then (reads_then one c.in_ok-reach_array.ensures.kept) c.in_ok-names.ensures.kept in
    c.in_ok-sums.ensures.stays (three.shows given.0) c.args.root.0 (set_kept (c.in_ok-reach_array.ensures.reached (one.shows given.0)).set c.args.root.0 (one_set c.in_ok-set_page.ensures.set))
