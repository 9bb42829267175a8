use Rattle.std.proofs.Common.{rules, ⊎_elim, ◌≡◌, ℕ, Bool, List, length, sym, ◌∙◌, ap, subst, arith}
use Rattle.std.proofs.lemmas.List.{length-replicate}
use Rattle.sg_base.specs.declared.area.Area.TheVariants.{Home}
use Rattle.sg_gate.proofs.Fields.{in_range}
use Rattle.sg_pool.specs.Held.{no_slot, since_of}
use Rattle.sg_pool.specs.Order.{IsOrder, below}
use Rattle.sg_pool.specs.Shelves.{geometry_of}
use Rattle.sg_pool.proofs.Slots.{none_is_some}
use Rattle.sg_pool.proofs.Fresh.{fresh_backed, fresh_written}
use Rattle.sg_pool.proofs.Ordering.{order_below}
use Rattle.sg_pool.proofs.pool.Pool.new.Goals as goal

pub invariant_of-result : goal.invariant_of-result
invariant_of-result c =
    let n = c.args.geometry.now.frames in
    let count : length c.in-Ok-new.shelf.slots.items ≡ n = ap length c.in-Ok-new.ensures.slots ∙ length-replicate n no_slot in
    let many = (in_range c.args.geometry.now c.requires).frames.0 in
    record {
      pool = record {
        many = omega (arith, count, many);
        order = subst (λ (k : ℕ). IsOrder k c.in-Ok.order.entries) (sym count) (subst (λ (es : List (ℕ × Bool)). IsOrder n es) (let e : c.in-Ok.order.entries ≡ below n = search rules in sym e) (order_below n));
      };
    }

pub returns-in-Ok-new-clause-backed : goal.returns-in-Ok-new-clause-backed
returns-in-Ok-new-clause-backed c v ready = let s = c.in-Ok-new.shelf in fresh_backed c.args.geometry.now.frames s.slots.items s.wins s.frames c.in-Ok-new.ensures.slots c.in-Ok-new.ensures.wins (geometry_of s) (v.now Home) ready

pub returns-in-Ok-new-clause-written : goal.returns-in-Ok-new-clause-written
returns-in-Ok-new-clause-written c lsn has = let s = c.in-Ok-new.shelf in ⊎_elim
    (λ page. fresh_written c.args.geometry.now.frames s.slots.items s.wins s.frames c.in-Ok-new.ensures.slots c.in-Ok-new.ensures.wins page.0 lsn page.2)
    (λ band. none_is_some lsn (sym (ap (since_of s.wins.slots.items) (c.in-Ok-new.ensures.wins band.0)) ∙ band.2))
    has

pub returns-in-Ok-new-clause-bands : goal.returns-in-Ok-new-clause-bands
returns-in-Ok-new-clause-bands c v b = let s = c.in-Ok-new.shelf in ap (since_of s.wins.slots.items) (c.in-Ok-new.ensures.wins b)
