use Rattle.std.proofs.Common.{◌≤◌, ℕ, Option, sym, subst}
use Rattle.std.specs.Prelude.{IfNone, IfSome}
use Rattle.sg_pool.specs.Pooled.{IsUnwritten}
use Rattle.sg_pool.proofs.Oldest.{none_of_two, least_of_two, some_of_two}
use Rattle.sg_pool.proofs.pool.Pool.oldest.Goals as goal

pub returns-clause-none : goal.returns-clause-none
returns-clause-none c = let s = c.args.self.now in
    subst (λ (r : Option ℕ). IfNone r ((lsn : ℕ) → IsUnwritten s lsn → ⊥)) (sym c.earlier.ensures)
    (none_of_two s c.oldest_of.result c.oldest_of-2.result (record { none = c.oldest_of.ensures.none; least = c.oldest_of.ensures.least; some = c.oldest_of.ensures.some }) (record { none = c.oldest_of-2.ensures.none; least = c.oldest_of-2.ensures.least; some = c.oldest_of-2.ensures.some }))

pub returns-clause-least : goal.returns-clause-least
returns-clause-least c = let s = c.args.self.now in
    subst (λ (r : Option ℕ). IfSome r (λ o. (lsn : ℕ) → IsUnwritten s lsn → o ≤ lsn)) (sym c.earlier.ensures)
    (least_of_two s c.oldest_of.result c.oldest_of-2.result (record { none = c.oldest_of.ensures.none; least = c.oldest_of.ensures.least; some = c.oldest_of.ensures.some }) (record { none = c.oldest_of-2.ensures.none; least = c.oldest_of-2.ensures.least; some = c.oldest_of-2.ensures.some }))

pub returns-clause-some : goal.returns-clause-some
returns-clause-some c = let s = c.args.self.now in
    subst (λ (r : Option ℕ). IfSome r (λ o. IsUnwritten s o)) (sym c.earlier.ensures)
    (some_of_two s c.oldest_of.result c.oldest_of-2.result (record { none = c.oldest_of.ensures.none; least = c.oldest_of.ensures.least; some = c.oldest_of.ensures.some }) (record { none = c.oldest_of-2.ensures.none; least = c.oldest_of-2.ensures.least; some = c.oldest_of-2.ensures.some }))
