use Rattle.std.proofs.Common.{refl, ◌+◌, ◌≤◌, ◌≡◌, false, arith}
use Rattle.std.proofs.lemmas.Option.{slice_get_within}
use Rattle.sg_base.specs.Sheet.{Sheet}
use Rattle.sg_space.specs.Memory.{sheet_in, bytes_in}
use Rattle.sg_space.specs.Pages.{empty_sheet}
use Rattle.sg_space.proofs.InMemory.{taken_one, same_units}
use Rattle.sg_space.proofs.memory.MemSpacePageSpace.take_page.Goals as goal

pub returns : goal.returns
returns c =
    let free = c.take_page-p.ensures.least.free in
    let flags = c.args.self.now.page_flags in
    let within = slice_get_within c.args.self.now.maps.pages c.take_page-p.result.0 false free in
    let few = c.args.self.now.few_pages in
    record {
      counts = record { told = λ x. x; later = omega arith; quiet = refl; disk = tt; log_end = tt };
      few = omega arith;
      did = record {
        keeps = record { told = λ x. x; may_take = λ h. h; may_have = λ p n h. h };
        pages = λ x. taken_one sheet_in c.args.self.now.maps.pages c.take_page-p.new.self.pages c.args.self.now.pages.items c.take_page-p.result.0 c.format.new.self (λ (sheet : Sheet). sheet ≡ empty_sheet c.args.kind) c.take_page-p.ensures.pages free flags c.format.ensures;
        bands = λ x. same_units bytes_in c.args.self.now.maps.bands c.take_page-p.new.self.bands c.args.self.now.bands.items c.take_page-p.ensures.bands;
        may_fill = λ x n h. tt;
        small = omega arith;
        wrote = λ b none. none;
      };
      later = λ t. tt;
      means = λ t m. tt;
    }
