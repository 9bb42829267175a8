use Rattle.std.proofs.Common.{refl, arith}
use Rattle.sg_space.specs.Memory.{sheet_in, bytes_in}
use Rattle.sg_space.proofs.InMemory.{is_there, freed_one, same_units}
use Rattle.sg_space.proofs.memory.MemSpacePageSpace.free_band.Goals as goal

pub returns : goal.returns
returns c =
    let there = is_there bytes_in c.args.self.now.maps.bands c.args.self.now.bands.items c.args.b.0 (c.requires tt) in
    record {
      counts = record { told = λ x. x; later = omega arith; quiet = refl; disk = tt; log_end = tt };
      few = omega arith;
      did = record {
        told = λ x. x;
        bands = λ x. freed_one bytes_in c.args.self.now.maps.bands c.free_band.new.self.bands c.args.self.now.bands.items c.args.b.0 c.free_band.ensures.bands there.flag;
        pages = λ x. same_units sheet_in c.args.self.now.maps.pages c.free_band.new.self.pages c.args.self.now.pages.items c.free_band.ensures.pages;
        may_have = λ p n h. h;
        wrote = λ b none. none;
      };
      done = refl;
      bytes = refl;
    }
