-- The catalogue and all that it names.
use Rattle.std.proofs.Common.{◌≡◌, ℕ, ◌+◌, ◌-◌, ◌*◌, ◌≤◌, Bool, List, [], ◌++◌, length, take, drop, Option, Some, slice_get, append_assoc, append-nil, sym, ap, subst, ◌∙◌, arith}
use Rattle.std.proofs.lemmas.List.{take_all}
use Rattle.sg_alloc.specs.declared.maps.Maps.{Maps}
use Rattle.sg_base.specs.Sheet.{Sheet}
use Rattle.sg_catalog.specs.Catalog.{Catalog, IsCatalog, filled, rows}
use Rattle.sg_catalog.specs.Steps.{part}
use Rattle.sg_catalog.specs.declared.row.Row.{Row}
use Rattle.sg_catalog.proofs.Walks.{filled_more, filled_all}
use Rattle.sg_space.specs.View.{Space}
use Rattle.sg_space.proofs.Known.{both}
use Rattle.sg_names.specs.Pages.{CanReachNames, ReachesNames, later_pages, pages_for}
use Rattle.sg_names.specs.Tally.{IsChain}
use Rattle.sg_reach.specs.Marks.{CanSet, AreSet}
use Rattle.sg_reach.proofs.Setting.{sets_then, rest_can, front_can}
use Rattle.sg_walk.specs.Marks.{CanSetBoth, AreSetBoth}
use Rattle.sg_walk.specs.Rows.{AreBodies, CanReachRows, ReachesRows, CanReach, Reaches, Reads, all_pages, all_bands, bodies_of}
use Rattle.sg_contents.specs.Standing.{Body, Contents}
use Rattle.sg_walk.proofs.Joining.{reaches_then, rest_rows, front_rows}
use Rattle.sg_walk.proofs.Naming.{contents_for, named_so}

-- the rows of the first pages were reached
abbrev pub SetsSo : Space → (old now : Maps) → Catalog → ℕ → Type 0
SetsSo s old now c j = ReachesRows s old now (filled (take (79 * j) c.places))

pub names_may : {s : Space} {taken : Maps} → CanReach s taken → CanReachNames s.pages.at taken.pages
names_may h = record { catalog = (h.contents).catalog; is = h.reads.catalog; can = front_can (all_pages (rows (h.contents).catalog) (bodies_of h.contents)) h.can.pages_can }

same_peak : {at : ℕ → Option Sheet} (c d : Catalog) → IsCatalog at c → IsCatalog at d → c.peak ≡ d.peak
same_peak c d h k = sym h.raw.says_peak.has.says ∙ (both h.raw.says_peak k.raw.says_peak).says

pub rows_may : {s : Space} {old mid : Maps} (h : CanReach s old) → ReachesNames s.pages.at old.pages mid.pages → mid.bands ≡ old.bands → CanReachRows s mid (rows (h.contents).catalog)
rows_may {s} {old} {mid} h n e =
    let set : AreSet old.pages mid.pages (later_pages s.pages.at (pages_for (h.contents).catalog.peak - 1)) = subst (λ (k : ℕ). AreSet old.pages mid.pages (later_pages s.pages.at (pages_for k - 1))) (same_peak n.catalog (h.contents).catalog n.is h.reads.catalog) n.set in
    record {
      bodies = bodies_of h.contents;
      are = h.reads.bodies;
      can = record { pages_can = rest_can set h.can.pages_can; bands_can = subst (λ (bs : List Bool). CanSet bs (all_bands (bodies_of h.contents))) (sym e) h.can.bands_can };
    }

pub page_may : {s : Space} {mid now : Maps} (c : Catalog) (j : ℕ) → CanReachRows s mid (rows c) → SetsSo s mid now c j → CanReachRows s now (filled (part j c.places))
page_may {s} {mid} {now} c j can done =
    let split : rows c ≡ filled (take (79 * j) c.places) ++ (filled (part j c.places) ++ filled (drop (79 * (j + 1)) c.places)) =
    filled_all c.places j
    ∙ (ap (λ (rs : List Row). rs ++ filled (drop (79 * (j + 1)) c.places)) (filled_more c.places j)
    ∙ append_assoc (filled (take (79 * j) c.places)) (filled (part j c.places)) (filled (drop (79 * (j + 1)) c.places))) in
    front_rows (filled (part j c.places)) (filled (drop (79 * (j + 1)) c.places))
    (rest_rows (filled (take (79 * j) c.places)) (filled (part j c.places) ++ filled (drop (79 * (j + 1)) c.places)) (subst (CanReachRows s mid) split can) done)

pub page_done : {s : Space} {mid now new : Maps} (c : Catalog) (j : ℕ) → SetsSo s mid now c j → ReachesRows s now new (filled (part j c.places)) → SetsSo s mid new c (j + 1)
page_done {s} {mid} {now} {new} c j a b = subst (ReachesRows s mid new) (sym (filled_more c.places j)) (reaches_then (filled (take (79 * j) c.places)) (filled (part j c.places)) a b)

pub chain_of : {at : ℕ → Option Sheet} {count : ℕ} (c : Catalog) → IsCatalog at c → length c.pages ≡ count → IsChain at count c
chain_of c h e = record { raw = h.raw; many = e }

-- THE CATALOGUE AND ALL OBJECTS
pub all_done : {s : Space} {old mid new : Maps} {count : ℕ} (n : ReachesNames s.pages.at old.pages mid.pages) (j : ℕ) → mid.bands ≡ old.bands → length n.catalog.pages ≡ count → j ≡ count → SetsSo s mid new n.catalog j → Reaches s old new
all_done {s} {old} {mid} {new} n j same many e done =
    let long = n.is.raw.long in
    let all : ReachesRows s mid new (rows n.catalog) = subst (λ (xs : _). ReachesRows s mid new (filled xs)) (take_all (79 * j) n.catalog.places (omega arith)) done in
    let contents = contents_for n.catalog all.bodies in
    let named : bodies_of contents ≡ all.bodies = named_so s n.catalog all.bodies mid.pages all.are all.set.pages_set.can in
    record {
      contents = contents;
      reads = record { catalog = n.is; bodies = subst (AreBodies s (rows n.catalog)) (sym named) all.are };
      set = record {
        pages_set = subst (λ (bs : List Body). AreSet old.pages new.pages (later_pages s.pages.at (pages_for n.catalog.peak - 1) ++ all_pages (rows n.catalog) bs)) (sym named) (sets_then n.set all.set.pages_set);
        bands_set = subst (λ (bs : List Body). AreSet old.bands new.bands (all_bands bs)) (sym named) (subst (λ (fs : List Bool). AreSet fs new.bands (all_bands all.bodies)) same all.set.bands_set);
      };
    }
