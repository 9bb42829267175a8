use Rattle.std.proofs.Common.{◌≡◌, ℕ, Some, Contains, map}
use Rattle.std.specs.List.{list_any}
use Rattle.slab.specs.Slab.{get}
use Rattle.sg_core.specs.declared.txns.Live.{Live}
use Rattle.sg_core.specs.Live.{is_of}
use Rattle.sg_core.specs.Slots.{shown, live_of}
use Rattle.sg_core.proofs.txns.find.Given as goal

-- every entry left is the slab's, and the transaction is among those that are left, if it is live
abbrev pub invariant-loop-key : goal.invariant-loop-key
invariant-loop-key l =
    (goal.iterator-loop-key).can_next l.key-iterator ×
    (goal.iterator-loop-key).is_finite l.key-iterator ×
    ((key : ℕ) (entry : Live) → Contains l.key-iterator (key, entry) → get l.live key ≡ Some entry) ×
    (list_any (is_of l.t.0) (map (λ e. shown e.1) l.key-iterator) ≡ list_any (is_of l.t.0) (live_of l.live.slots))
