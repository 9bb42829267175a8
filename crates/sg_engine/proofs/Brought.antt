-- A page or a band that was brought is held.
use Rattle.std.proofs.Common.{◌≡◌, ℕ, IsTrue, Option, Some, is_some, ap, subst}
use Rattle.std.specs.Prelude.{Result, Ok, IfOk}
use Rattle.sg_pool.specs.declared.fault.PoolFault.{PoolFault}
use Rattle.sg_pool.specs.declared.pool.Pool.{Pool}
use Rattle.sg_pool.specs.Lending.{IsBrought}
use Rattle.sg_pool.specs.Pooled.{frame_holding, window_holding, IsBandBrought}

some_true : (o : Option ℕ) (f : ℕ) → o ≡ Some f → IsTrue (is_some o)
some_true o f e = ap is_some e

pub brought_held : {T : Type 0} (p : ℕ) (old new : Pool) (result : Result T PoolFault) (x : T) → result ≡ Ok x → IfOk result (λ _. (f : ℕ) × IsBrought p old new f) → IsTrue (is_some (frame_holding new p))
brought_held {T = T} p old new result x is brought =
    let f = subst (λ (r : Result T PoolFault). IfOk r (λ _. (f : ℕ) × IsBrought p old new f)) is brought in
    some_true (frame_holding new p) f.0 f.1.held

pub band_held : {T : Type 0} (b : ℕ) (old new : Pool) (result : Result T PoolFault) (x : T) → result ≡ Ok x → IfOk result (λ _. (w : ℕ) × IsBandBrought b old new w) → IsTrue (is_some (window_holding new b))
band_held {T = T} b old new result x is brought =
    let w = subst (λ (r : Result T PoolFault). IfOk r (λ _. (w : ℕ) × IsBandBrought b old new w)) is brought in
    some_true (window_holding new b) w.0 w.1.held
