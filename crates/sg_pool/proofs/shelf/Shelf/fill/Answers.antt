use Rattle.sg_pool.proofs.Indexing.{shelf_filled}
use Rattle.sg_pool.proofs.shelf.Shelf.fill.Goals as goal

pub invariant_of-self : goal.invariant_of-self
invariant_of-self c = let s = c.args.self.now in
    record { shelf = shelf_filled s.pages s.bands s.slots.items s.index.items s.wins s.frames s.shelf c.args.f c.requires.there c.args.p c.requires.page c.requires.empty c.requires.absent c.requires.well }
