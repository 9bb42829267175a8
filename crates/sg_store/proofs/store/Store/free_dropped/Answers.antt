use Rattle.std.proofs.Common.{sym, ◌∙◌, refl}
use Rattle.sg_store.specs.Engine.{led}
use Rattle.sg_store.proofs.Leaving as leaving
use Rattle.sg_store.proofs.Stocked.{frees_nothing}
use Rattle.sg_store.proofs.Accounting as accounting
use Rattle.sg_store.proofs.store.Store.free_dropped.Goals as goal

pub returns-then-not-has_dropped-clause-stays : goal.returns-then-not-has_dropped-clause-stays
returns-then-not-has_dropped-clause-stays g c z from m told x lawful k = leaving.unfreed_stays _ (g.E.Engine.basis z) lawful (led _ z from (g.E.Engine.view c.args.self.now.engine)) c.args.self.now.txns x c.args.txn.0 k

pub returns-then-not-has_dropped-clause-freed : goal.returns-then-not-has_dropped-clause-freed
returns-then-not-has_dropped-clause-freed g c z from m told x lawful k =
    (k, leaving.unfreed_none _ (g.E.Engine.basis z) lawful (led _ z from (g.E.Engine.view c.args.self.now.engine)) c.args.self.now.txns x c.args.txn.0 k c.requires.live (sym c.has_dropped.ensures ∙ c.if-not-has_dropped.true))

pub returns-then-not-has_dropped-clause-stock : goal.returns-then-not-has_dropped-clause-stock
returns-then-not-has_dropped-clause-stock g c z from m told x lawful k =
    frees_nothing _ (g.E.Engine.basis z) (led _ z from (g.E.Engine.view c.args.self.now.engine)) (led _ z from (g.E.Engine.view c.args.self.now.engine)) c.args.txn.0 refl refl

pub returns-then-not-has_dropped-clause-means : goal.returns-then-not-has_dropped-clause-means
returns-then-not-has_dropped-clause-means g c z from m = m

pub returns-clause-none : goal.returns-clause-none
returns-clause-none g c none = absurd (let e = sym c.has_dropped.ensures ∙ c.if-not-has_dropped.false in cc)

pub returns-then-not-has_dropped-clause-accounts : goal.returns-then-not-has_dropped-clause-accounts
returns-then-not-has_dropped-clause-accounts g c =
    accounting.accounts_done (g.E.Engine.view c.args.self.now.engine) (g.E.Engine.view c.args.self.now.engine) _ (accounting.unfailed_none (g.E.Engine.view c.args.self.now.engine))
