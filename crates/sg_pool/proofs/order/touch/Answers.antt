use Rattle.std.proofs.Common.{ℕ, Bool, sym, subst}
use Rattle.lru.specs.LruCache.{LruCache}
use Rattle.sg_pool.specs.Order.{IsOrder, IsUsed}
use Rattle.sg_pool.proofs.Ordering.{order_promoted, used_promoted}
use Rattle.sg_pool.proofs.order.touch.Goals as goal

pub returns-clause-used : goal.returns-clause-used
returns-clause-used c = subst (λ (o : LruCache ℕ Bool). IsUsed c.args.frame c.args.order.now.entries o.entries) (sym c.promote.ensures.entries) (used_promoted c.args.frame c.args.order.now.entries c.requires.there)

pub returns-clause-kept : goal.returns-clause-kept
returns-clause-kept c count order = subst (λ (o : LruCache ℕ Bool). IsOrder count o.entries) (sym c.promote.ensures.entries) (order_promoted c.args.frame count c.args.order.now.entries c.requires.there order)
