use Rattle.std.proofs.Common.{◌≡◌, ◌<◌, ◌+◌, ◌-◌, ℕ, true, false, get_or, refl, subst, arith}
use Rattle.sg_pool.proofs.Placed.{no_place}
use Rattle.sg_pool.proofs.Sorted.{order_at, order_of}
use Rattle.sg_pool.proofs.part.are_in_order.Goals as goal

not_true : false ≡ true → ⊥
not_true e = cc

pub returns-then-places-k : goal.returns-then-places-k
returns-then-places-k c = (
  λ wrong. absurd (not_true wrong),
  λ up.
      let low = c.places.auto.k in
      let lt = c.places-test.true in
      let least = c.if-places-k.true in
      let here : c.places.k - 1 + 1 ≡ c.places.k = omega (arith, low) in
      let it = subst (λ (n : ℕ). (get_or c.args.places.now (c.places.k - 1) no_place).lsn < (get_or c.args.places.now n no_place).lsn) here (order_at c.args.places.now up (c.places.k - 1) no_place (omega (arith, low, lt))) in
      absurd (omega (arith, it, least)),
)

pub returns : goal.returns
returns c = (λ so. order_of c.args.places.now (λ k d lt. let past = c.places-test.false in c.places.invariant k d (omega (arith, lt, past))), λ up. refl)
