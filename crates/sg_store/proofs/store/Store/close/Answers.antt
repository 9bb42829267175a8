use Rattle.sg_store.specs.Seen.{core_of}
use Rattle.sg_store.proofs.Still.{closed_well}
use Rattle.sg_store.proofs.store.Store.close.Goals as goal

pub returns-clause-closes : goal.returns-clause-closes
returns-clause-closes g c t z from m told x lawful shows = (core_of c.settle-done.new.self, c.settle-done.ensures.closes t z from m told x lawful shows)

pub returns-clause-causes : goal.returns-clause-causes
returns-clause-causes g c = (core_of c.settle-done.new.self, c.settle-done.ensures.causes)

pub returns-clause-stock : goal.returns-clause-stock
returns-clause-stock g c =
    closed_well (g.E.Engine.view c.args.self.engine) (g.E.Engine.view c.settle-done.new.self.engine) (core_of c.args.self) (core_of c.settle-done.new.self) c.settle-done.result c.settle-done.ensures.causes
    (λ none t z from m told x lawful shows. c.settle-done.ensures.stock none t z from m told x lawful shows)
