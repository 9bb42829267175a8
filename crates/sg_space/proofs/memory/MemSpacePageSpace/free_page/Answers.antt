use Rattle.std.proofs.Common.{refl, arith}
use Rattle.sg_space.specs.Memory.{sheet_in, bytes_in}
use Rattle.sg_space.proofs.InMemory.{is_there, freed_one, same_units}
use Rattle.sg_space.proofs.memory.MemSpacePageSpace.free_page.Goals as goal

pub returns : goal.returns
returns c =
    let there = is_there sheet_in c.args.self.now.maps.pages c.args.self.now.pages.items c.args.p.0 (c.requires tt) in
    record {
      counts = record { told = λ x. x; later = omega arith; quiet = refl; disk = tt; log_end = tt };
      few = omega arith;
      did = record {
        told = λ x. x;
        pages = λ x. freed_one sheet_in c.args.self.now.maps.pages c.free_page.new.self.pages c.args.self.now.pages.items c.args.p.0 c.free_page.ensures.pages there.flag;
        bands = λ x. same_units bytes_in c.args.self.now.maps.bands c.free_page.new.self.bands c.args.self.now.bands.items c.free_page.ensures.bands;
        may_have = λ q n ne h. h;
        wrote = λ b none. none;
      };
      done = refl;
      bytes = refl;
    }
