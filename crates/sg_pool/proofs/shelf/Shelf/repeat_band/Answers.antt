use Rattle.std.proofs.Common.{length, ◌∙◌, ap, arith, length-set}
use Rattle.sg_pool.proofs.Changing.{shelf_window}
use Rattle.sg_pool.proofs.shelf.Shelf.repeat_band.Goals as goal

pub invariant_of-self : goal.invariant_of-self
invariant_of-self g c =
    let s = c.args.self.now in
    let wide = s.shelf.wide in let there = c.requires.there in
    record {
      shelf = shelf_window s.pages s.bands s.slots.items s.wins c.repeat.new.self s.frames c.repeat.new.frames c.args.w _ s.shelf (omega (arith, wide, there)) c.repeat.ensures.frames c.repeat.ensures.still
          (ap length c.repeat.ensures.slots ∙ length-set s.wins.slots.items c.args.w _) c.repeat.ensures.bands;
    }
