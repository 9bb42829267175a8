use Rattle.std.proofs.Common.{◌≤◌, ◌+◌, sym, subst}
use Rattle.sg_room.specs.Bounds.{page_sum}
use Rattle.sg_store.specs.Room.{stock_of}
use Rattle.sg_store.proofs.store.Store.free_pages.Goals as goal

pub returns-clause-left : goal.returns-clause-left
returns-clause-left g c t z from m told o e =
    let b = g.E.Engine.basis z in
    subst (λ n. b.sizes.pages ≤ n + page_sum (stock_of b o)) (sym c.free_pages.ensures) (g.E.Engine.leaves c.args.self.now.engine t z from m told o e).pages
