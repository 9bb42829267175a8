use Rattle.std.proofs.Common.{refl, ◌+◌, ◌≤◌, false, arith}
use Rattle.std.proofs.lemmas.Option.{slice_get_within}
use Rattle.sg_space.specs.Bands.{IsEmptyBand}
use Rattle.sg_space.specs.Memory.{sheet_in, bytes_in}
use Rattle.sg_space.proofs.InMemory.{taken_one, same_units}
use Rattle.sg_space.proofs.memory.MemSpacePageSpace.take_band.Goals as goal

pub returns : goal.returns
returns c =
    let free = c.take_band-b.ensures.least.free in
    let flags = c.args.self.now.band_flags in
    let within = slice_get_within c.args.self.now.maps.bands c.take_band-b.result.0 false free in
    let few = c.args.self.now.few_bands in
    record {
      counts = record { told = λ x. x; later = omega arith; quiet = refl; disk = tt; log_end = tt };
      few = omega arith;
      did = record {
        keeps = record { told = λ x. x; may_take = λ h. h; may_have = λ p n h. h };
        bands = λ x. taken_one bytes_in c.args.self.now.maps.bands c.take_band-b.new.self.bands c.args.self.now.bands.items c.take_band-b.result.0 c.clear.new.self IsEmptyBand c.take_band-b.ensures.bands free flags c.clear.ensures;
        pages = λ x. same_units sheet_in c.args.self.now.maps.pages c.take_band-b.new.self.pages c.args.self.now.pages.items c.take_band-b.ensures.pages;
        small = omega arith;
        writes = record { wrote = λ b none. absurd none };
      };
      later = λ t. tt;
      means = λ t m. tt;
    }
