-- What calls leave of the disk's counts, one after another.
use Rattle.std.proofs.Common.{◌≡◌, ◌≤◌, inl, inr, ⊎_elim, Bool, true, false, Result, Ok, Err, ◌∙◌, arith}
use Rattle.std.specs.Bool.{OnFalse}
use Rattle.sg_disk.specs.Disk.{View}
use Rattle.sg_disk.specs.Heeds.{Heeds}
use Rattle.sg_log.specs.Held.{Tail}
use Rattle.sg_pool.specs.declared.fault.PoolFault.{PoolFault}
use Rattle.sg_pool.specs.Counts.{HasGrown, is_disk}

pub grown_same : (log : Tail) (v w : View) → v.handed ≤ w.handed → HasGrown log log v w
grown_same log v w kept = inr (omega (arith, kept))

-- no more of the log, and more may be handed over
pub grown_more : (log log' : Tail) (v w z : View) → HasGrown log log' v w → w.handed ≤ z.handed → HasGrown log log' v z
grown_more log log' v w z grown kept = ⊎_elim (λ full. inl (omega (arith, full, kept))) (λ less. inr (omega (arith, less, kept))) grown

pub grown_then : (log log1 log2 : Tail) (v w z : View) → HasGrown log log1 v w → HasGrown log1 log2 w z → w.handed ≤ z.handed → HasGrown log log2 v z
grown_then log log1 log2 v w z first second kept = ⊎_elim
    (λ full. inl (omega (arith, full, kept)))
    (λ less. ⊎_elim (λ full. inl full) (λ more. inr (omega (arith, less, more))) second)
    first

on_false_then : (b : Bool) (A B : Type 0) → (A → B) → OnFalse b A → OnFalse b B
on_false_then true A B f a = a
on_false_then false A B f a = f a

-- a call behind one that didn't fail
pub heeds_then : {U T : Type 0} (u : U) (r : Result T PoolFault) (v w z : View) → Heeds {E = PoolFault} is_disk (Ok u) v w → Heeds is_disk r w z → Heeds is_disk r v z
heeds_then u (Ok x) v w z first second = second ∙ first
heeds_then u (Err e) v w z first second = on_false_then (is_disk e) _ _ (λ (same : z.faults ≡ w.faults). same ∙ first) second
