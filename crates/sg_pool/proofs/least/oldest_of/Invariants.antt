use Rattle.std.proofs.Common.{◌≡◌, ◌<◌, ◌≤◌, ℕ, Some, None}
use Rattle.std.specs.Prelude.{IfSome, IfNone}
use Rattle.sg_pool.specs.Held.{since_of}
use Rattle.sg_pool.proofs.least.oldest_of.Given as goal

abbrev pub invariant-frames : goal.invariant-frames
invariant-frames l = IfNone l.least ((f : ℕ) → f < l.f → since_of l.fn.slots.items (Some f) ≡ None)
    × IfSome l.least (λ o. (f x : ℕ) → f < l.f → since_of l.fn.slots.items (Some f) ≡ Some x → o ≤ x)
    × IfSome l.least (λ o. (f : ℕ) × (f < l.f) × (since_of l.fn.slots.items (Some f) ≡ Some o))
