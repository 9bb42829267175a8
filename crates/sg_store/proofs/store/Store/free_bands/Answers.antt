use Rattle.std.proofs.Common.{◌+◌, ap, ◌∙◌}
use Rattle.sg_room.specs.Bounds.{band_sum}
use Rattle.sg_store.specs.Room.{stock_of}
use Rattle.sg_store.proofs.store.Store.free_bands.Goals as goal

pub returns-clause-left : goal.returns-clause-left
returns-clause-left g c t z from m told o e =
    let b = g.E.Engine.basis z in
    ap (λ n. n + (b.sizes.map + band_sum (stock_of b o))) c.free_bands.ensures ∙ (g.E.Engine.leaves c.args.self.now.engine t z from m told o e).bands
