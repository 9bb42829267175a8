use Rattle.std.proofs.Common.{◌≡◌, ◌<◌, ◌≤◌, ℕ, true, false, List, Bool, length, slice_get, set, Some, ap, sym, ◌∙◌, subst, arith}
use Rattle.sg_alloc.specs.Flags.{free_of}
use Rattle.sg_alloc.proofs.Counted.{one_less}
use Rattle.std.proofs.lemmas.List.{length-set}
use Rattle.sg_space.proofs.InMemory.{slice_get-set_same, slice_get-set_other}
use Rattle.sg_found.proofs.Clearing.{all_free}
use Rattle.sg_found.proofs.first.take_first.Goals as goal

pub returns : goal.returns
returns c =
    let cleared = c.clear_pages.new.maps.pages in
    let bands0 = c.clear_bands.new.maps.bands in
    let now = c.set_page.new.self.pages in
    let same1 : c.clear_bands.new.maps.pages ≡ cleared = c.clear_bands.ensures.pages in
    let page : now ≡ set cleared 0 true = c.set_page.ensures.pages ∙ ap (λ (xs : List Bool). set xs 0 true) same1 in
    let at : c.take_first_bands.new.maps.pages ≡ set cleared 0 true = c.take_first_bands.ensures.pages ∙ page in
    let long : length cleared ≡ c.args.pages = c.clear_pages.ensures.size in
    let some : 0 < length cleared = let f = c.requires.first in omega (arith, long, f) in
    let free0 : slice_get cleared 0 ≡ Some false = c.clear_pages.ensures.free 0 c.requires.first in
    let all : free_of cleared ≡ length cleared = all_free cleared (λ k h. c.clear_pages.ensures.free k (omega (arith, h, long))) in
    let was : c.set_page.new.self.bands ≡ bands0 = c.set_page.ensures.bands in
    let all_bands : free_of bands0 ≡ length bands0 = all_free bands0 (λ k h. c.clear_bands.ensures.free k (let l = c.clear_bands.ensures.size in omega (arith, h, l))) in
    record {
      pages_are = ap length at ∙ (length-set cleared 0 true ∙ long);
      bands_are = c.take_first_bands.ensures.size ∙ (ap length was ∙ c.clear_bands.ensures.size);
      first = ap (λ (xs : List Bool). slice_get xs 0) at ∙ slice_get-set_same cleared 0 true some;
      others = λ p more less. ap (λ (xs : List Bool). slice_get xs p) at ∙ (slice_get-set_other cleared 0 p true (λ e. absurd (omega (arith, more, e))) ∙ c.clear_pages.ensures.free p less);
      map = λ b less. c.take_first_bands.ensures.taken b (subst (λ (n : ℕ). b < n) (sym c.map_bands.ensures) less);
      other_bands = λ b more less. c.take_first_bands.ensures.others b (subst (λ (n : ℕ). n ≤ b) (sym c.map_bands.ensures) more) ∙ (ap (λ (xs : List Bool). slice_get xs b) was ∙ c.clear_bands.ensures.free b less);
      free = let one = one_less cleared 0 free0 in let is : free_of c.take_first_bands.new.maps.pages ≡ free_of (set cleared 0 true) = ap free_of at in omega (arith, one, is, all, long);
      free_bands = let f = c.take_first_bands.ensures.free in let m = c.map_bands.ensures in let is : free_of c.set_page.new.self.bands ≡ free_of bands0 = ap free_of was in let l = c.clear_bands.ensures.size in omega (arith, f, m, is, all_bands, l);
    }
