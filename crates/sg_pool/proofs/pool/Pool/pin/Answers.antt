use Rattle.std.proofs.Common.{ℕ, Bool, List, length, sym, ◌∙◌, subst}
use Rattle.sg_pool.specs.Order.{IsOrder}
use Rattle.sg_pool.proofs.Ordering.{order_pinned}
use Rattle.sg_pool.proofs.Slots.{frame_some}
use Rattle.sg_pool.proofs.pool.Pool.pin.Goals as goal

pub set_pin-requires : goal.set_pin-requires
set_pin-requires c = let s = c.args.self.now in
    record { there = s.pool.order.each c.in-Some.f (frame_some c.args.p.0 s.shelf.slots.items c.in-Some.f (sym c.find.ensures ∙ c.in-Some.is)).0 }

pub invariant_of-self : goal.invariant_of-self
invariant_of-self c = let s = c.args.self.now in
    record {
      pool = record {
        many = s.pool.many;
        order = subst (λ (es : List (ℕ × Bool)). IsOrder (length s.shelf.slots.items) es) (sym c.set_pin.ensures.entries) (order_pinned c.in-Some.f (length s.shelf.slots.items) s.order.entries (c.requires.room c.in-Some.f (sym c.find.ensures ∙ c.in-Some.is)) s.pool.order);
      };
    }
