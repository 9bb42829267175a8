use Rattle.std.proofs.Common.{◌≡◌, ℕ, ◌+◌, ◌-◌, ◌/◌, ◌≤◌, length, map, sym, ap, ◌∙◌, arith}
use Rattle.std.specs.List.{range_with_len}
use Rattle.std.proofs.lemmas.List.FromFn.{length-map-range_with_len}
use Rattle.sg_catalog.specs.Catalog.{rows}
use Rattle.std.proofs.lemmas.Result.{err_from_is_err_and}
use Rattle.sg_space.proofs.Known.{still, reads_then}
use Rattle.sg_space.specs.View.{Space}
use Rattle.sg_names.specs.Pages.{catalog_from, page_no, pages_for}
use Rattle.sg_names.specs.Tally.{IsChain}
use Rattle.sg_names.proofs.Chains.{many_pages, pages_set}
use Rattle.sg_reach.proofs.Placing.{set_kept, reached_by, reached_among}
use Rattle.sg_names.proofs.Onces.{count_every}
use Rattle.sg_names.proofs.Sound.{raw, sound}
use Rattle.sg_names.proofs.names.reach_names.Goals as goal

pub returns-clause-reached : goal.returns-clause-reached
returns-clause-reached g c = λ shows.
    let peak = c.in_ok-peak.peak in
    let w = c.in_ok-peak.ensures.reached shows in
    let long : length (map (page_no (g.P.PageSpace.view c.args.space.now).space.pages.at) (range_with_len 0 (pages_for peak))) ≡ pages_for peak = length-map-range_with_len (page_no (g.P.PageSpace.view c.args.space.now).space.pages.at) 0 (pages_for peak) in
    let later = c.later_pages-pages.ensures in
    let chain : IsChain (g.P.PageSpace.view c.args.space.now).space.pages.at (c.later_pages-pages.result + 1) (catalog_from (g.P.PageSpace.view c.args.space.now).space.pages.at peak) = record { raw = raw (g.P.PageSpace.view c.args.space.now).space.pages.at peak c.args.into.now.pages w.pages c.requires.first w.set.can; many = omega (arith, long, later) } in
    let one = c.in_ok-peak.ensures.kept in
    let two = reads_then one c.in_ok-count.ensures.kept in
    let counted = c.in_ok-count.ensures.read (one.shows shows) (catalog_from (g.P.PageSpace.view c.args.space.now).space.pages.at peak) (still (λ (s : Space). IsChain s.pages.at (c.later_pages-pages.result + 1) (catalog_from (g.P.PageSpace.view c.args.space.now).space.pages.at peak)) one shows chain) in
    let once = c.in_ok-check_names_by.ensures.read (two.shows shows) (catalog_from (g.P.PageSpace.view c.args.space.now).space.pages.at peak) (still (λ (s : Space). IsChain s.pages.at (c.later_pages-pages.result + 1) (catalog_from (g.P.PageSpace.view c.args.space.now).space.pages.at peak)) two shows chain) in
    let every = count_every (rows (catalog_from (g.P.PageSpace.view c.args.space.now).space.pages.at peak)) in
    let few = c.if-branch-peak.false in
    let below : length (rows (catalog_from (g.P.PageSpace.view c.args.space.now).space.pages.at peak)) ≤ peak = omega (arith, counted, every, few) in
    record {
      catalog = catalog_from (g.P.PageSpace.view c.args.space.now).space.pages.at peak;
      is = sound (g.P.PageSpace.view c.args.space.now).space.pages.at peak c.args.into.now.pages (record { pages = w.pages; below_peak = below; once = once }) c.requires.first w.set.can;
      set = w.set;
    }

pub returns-clause-many : goal.returns-clause-many
returns-clause-many g c = λ shows cat h.
    let later = c.later_pages-pages.ensures in
    many_pages (g.P.PageSpace.view c.args.space.now).space.pages.at c.in_ok-peak.peak c.args.into.now.pages c.reach_pages.new.into.pages (c.in_ok-peak.ensures.reached shows) cat h ∙ ap (λ (n : ℕ). n + 1) (sym later)

pub returns-in_err-count-clause-later : goal.returns-in_err-count-clause-later
returns-in_err-count-clause-later g c = λ t. g.met.P.PageSpace.later_then t _ _ _ (c.reach_pages.ensures.later t) (c.count.ensures.later t)

pub returns-in_err-count-clause-means : goal.returns-in_err-count-clause-means
returns-in_err-count-clause-means g c = λ t m. c.count.ensures.means t (c.reach_pages.ensures.means t m)

pub returns-in_err-check_names_by-clause-later : goal.returns-in_err-check_names_by-clause-later
returns-in_err-check_names_by-clause-later g c = λ t. g.met.P.PageSpace.later_then t _ _ _ (c.reach_pages.ensures.later t) (g.met.P.PageSpace.later_then t _ _ _ (c.count.ensures.later t) (c.check_names_by.ensures.later t))

pub returns-in_err-check_names_by-clause-means : goal.returns-in_err-check_names_by-clause-means
returns-in_err-check_names_by-clause-means g c = λ t m. c.check_names_by.ensures.means t (c.count.ensures.means t (c.reach_pages.ensures.means t m))

pub returns-clause-later : goal.returns-clause-later
returns-clause-later g c = λ t. g.met.P.PageSpace.later_then t _ _ _ (c.reach_pages.ensures.later t) (g.met.P.PageSpace.later_then t _ _ _ (c.count.ensures.later t) (c.check_names_by.ensures.later t))

pub returns-clause-means : goal.returns-clause-means
returns-clause-means g c = λ t m. c.check_names_by.ensures.means t (c.count.ensures.means t (c.reach_pages.ensures.means t m))

-- the page that is said to be broken
pub returns-in_err-peak-clause-place : goal.returns-in_err-peak-clause-place
returns-in_err-peak-clause-place g c =
    let p = err_from_is_err_and c.from_residual.result c.from_residual.ensures.1 in
    rw (p.1, p.2) (reached_by _ c.in_err-peak.field-0.0 (λ shows. shows) c.in_err-peak.ensures.place)

pub returns-then-branch-peak-clause-place : goal.returns-then-branch-peak-clause-place
returns-then-branch-peak-clause-place g c = λ shows. set_kept (c.in_ok-peak.ensures.reached shows).set 0 c.requires.first

pub returns-in_err-check_names_by-clause-place : goal.returns-in_err-check_names_by-clause-place
returns-in_err-check_names_by-clause-place g c =
    let peak = c.in_ok-peak.peak in
    let p = err_from_is_err_and c.from_residual-in_err-check_names_by.result c.from_residual-in_err-check_names_by.ensures.1 in
    rw (p.1, p.2) (reached_among _ (λ shows. (catalog_from (g.P.PageSpace.view c.args.space.now).space.pages.at peak).pages) c.in_err-check_names_by.field-0.0
    (λ shows. pages_set (g.P.PageSpace.view c.args.space.now).space.pages.at peak c.requires.first (c.in_ok-peak.ensures.reached shows).set)
    (λ shows.
    let w = c.in_ok-peak.ensures.reached shows in
    let long : length (map (page_no (g.P.PageSpace.view c.args.space.now).space.pages.at) (range_with_len 0 (pages_for peak))) ≡ pages_for peak = length-map-range_with_len (page_no (g.P.PageSpace.view c.args.space.now).space.pages.at) 0 (pages_for peak) in
    let later = c.later_pages-pages.ensures in
    let chain : IsChain (g.P.PageSpace.view c.args.space.now).space.pages.at (c.later_pages-pages.result + 1) (catalog_from (g.P.PageSpace.view c.args.space.now).space.pages.at peak) = record { raw = raw (g.P.PageSpace.view c.args.space.now).space.pages.at peak c.args.into.now.pages w.pages c.requires.first w.set.can; many = omega (arith, long, later) } in
    let two = reads_then c.in_ok-peak.ensures.kept c.in_ok-count.ensures.kept in
    c.in_err-check_names_by.ensures.place (two.shows shows) (catalog_from (g.P.PageSpace.view c.args.space.now).space.pages.at peak) (still (λ (s : Space). IsChain s.pages.at (c.later_pages-pages.result + 1) (catalog_from (g.P.PageSpace.view c.args.space.now).space.pages.at peak)) two shows chain)))
