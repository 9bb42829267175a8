use Rattle.std.proofs.Common.{◌≡◌, ℕ, ◌<◌, ◌≤◌, List, Bool, true, false, Some, length, set, slice_get, replicate, ap, ◌∙◌, subst, arith}
use Rattle.sg_alloc.specs.Flags.{map_bands_of}
use Rattle.sg_space.proofs.Firsts.{AreTaken, free_at}
use Rattle.sg_space.proofs.Fresh.{new_pages_are, new_bands_are}
use Rattle.sg_space.proofs.memory.MemSpace.new.Goals as goal

pub set_page-requires : goal.set_page-requires
set_page-requires c = ap (λ (xs : List Bool). slice_get xs 0) c.in_ok-maps.ensures.pages ∙ free_at c.args.pages 0 c.requires.page

pub take_first_bands-requires : goal.take_first_bands-requires
take_first_bands-requires c = λ b below.
    let less = c.requires.bands in
    let map = c.map_bands.ensures in
    ap (λ (xs : List Bool). slice_get xs b) (c.set_page.ensures.bands ∙ c.in_ok-maps.ensures.bands) ∙ free_at c.args.bands b (omega arith)

pub returns : goal.returns
returns c =
    let page_count = c.in_ok-new_pages.ensures.count in
    let band_count = c.in_ok-new_bands.ensures.count in
    let pages_long : length c.in_ok-new_pages.field-0.items ≡ c.args.pages = omega (arith, c.in_ok-new_pages.field-0.ok.0, page_count) in
    let bands_long : length c.in_ok-new_bands.field-0.items ≡ c.args.bands = omega (arith, c.in_ok-new_bands.field-0.ok.0, band_count) in
    let first = c.take_first_bands.ensures.pages ∙ (c.set_page.ensures.pages ∙ ap (λ (xs : List Bool). set xs 0 true) c.in_ok-maps.ensures.pages) in
    let taken : AreTaken c.set_page.new.self.bands c.take_first_bands.new.maps.bands c.map_bands.result = record { taken = c.take_first_bands.ensures.taken; others = c.take_first_bands.ensures.others; size = c.take_first_bands.ensures.size; free = c.take_first_bands.ensures.free } in
    let since : AreTaken (replicate c.args.bands false) c.take_first_bands.new.maps.bands c.map_bands.result = subst (λ (old : List Bool). AreTaken old c.take_first_bands.new.maps.bands c.map_bands.result) (c.set_page.ensures.bands ∙ c.in_ok-maps.ensures.bands) taken in
    let so_many : AreTaken (replicate c.args.bands false) c.take_first_bands.new.maps.bands (map_bands_of c.args.pages c.args.bands) = subst (λ (n : ℕ). AreTaken (replicate c.args.bands false) c.take_first_bands.new.maps.bands n) c.map_bands.ensures since in
    let p = new_pages_are c.take_first_bands.new.maps.pages c.in_ok-new_pages.field-0.items c.args.pages c.requires.page first pages_long c.in_ok-new_pages.ensures.empty in
    let b = new_bands_are c.take_first_bands.new.maps.bands c.in_ok-new_bands.field-0.items c.args.bands (map_bands_of c.args.pages c.args.bands) so_many c.requires.bands bands_long c.in_ok-new_bands.ensures.empty in
    record { catalogue = p.catalogue; other_pages = p.others; free_pages = p.free; page_count = p.all; map_bands = b.first; other_bands = b.others; free_bands = b.free; band_count = b.all }
