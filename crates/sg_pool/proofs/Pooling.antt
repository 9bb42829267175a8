-- The pool's order and its frames.
use Rattle.std.proofs.Common.{◌≡◌, ◌<◌, ℕ, Bool, Some, None, List, length, set, sym, ◌∙◌, ap, subst, arith, length-set}
use Rattle.sg_pool.specs.declared.slot.Slot.{Slot}
use Rattle.sg_pool.specs.Held.{frame_of, page_in, AreApart}
use Rattle.sg_pool.specs.Order.{IsOrder}
use Rattle.sg_pool.specs.Pools.{IsPool}
use Rattle.sg_pool.proofs.Slots.{frame_is, page_here}

pub pool_same : (slots slots' : List Slot) (es es' : List (ℕ × Bool)) → length slots' ≡ length slots → IsPool slots es → IsOrder (length slots) es' → IsPool slots' es'
pool_same slots slots' es es' same pool order = record { many = let m = pool.many in omega (arith, m, same); order = subst (λ (n : ℕ). IsOrder n es') (sym same) order }

pub held_new : (slots slots' : List Slot) (f p : ℕ) → f < length slots → slots' ≡ set slots f (record { number = Some p; since = None }) → AreApart slots' → frame_of slots' p ≡ Some f
held_new slots slots' f p lt is apart =
    let s : Slot = record { number = Some p; since = None } in
    frame_is slots' f p apart (let e = ap length is ∙ length-set slots f s in omega (arith, e, lt)) (ap (λ (t : List Slot). page_in t f) is ∙ page_here slots f s lt)
