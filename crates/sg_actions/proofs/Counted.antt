-- The counts of calls that end with a call of the engine, or with a break.
use Rattle.std.proofs.Common.{◌≡◌, ℕ, ◌≤◌, ◌<◌, Bool, false, sym, subst, ◌∙◌, arith, inl, Ok, Err, Result}
use Rattle.sg_base.specs.Ends.{HasRisen}
use Rattle.sg_alloc.specs.declared.maps.Maps.{Maps}
use Rattle.sg_space.specs.View.{Counts}
use Rattle.sg_space.specs.declared.space.SpaceFault.{SpaceFault}
use Rattle.sg_space.specs.declared.space.SpaceFault.TheVariants.{Disk, LogEnd}
use Rattle.sg_action.specs.States.{State}
use Rattle.sg_actions.specs.Counts.{ActsCounts}
use Rattle.sg_actions.specs.Engine.{EngineSeen, EngineCounts}
use Rattle.sg_actions.specs.View.{acts_view}
use Rattle.sg_actions.proofs.Accounting.{count_none, count_ok, accounts_ok, accounts_err}
use Rattle.sg_actions.proofs.Counting.{HasLooked, looked_ok, looked_err, looked_then, looked_engine}
use Rattle.sg_actions.proofs.PuttingBack.{err_engine, err_is}

-- ONE CALL OF THE ENGINE, with another result that is the same failure,
pub engine_err : {T S : Type 0} {e e' : EngineSeen} (q : Result S SpaceFault) (f h : SpaceFault) → q ≡ Err h → h ≡ f → EngineCounts {T = T} e e' (Err f) → EngineCounts {T = S} e e' q
engine_err {T} {S} {e} {e'} q f h is same k =
    subst (λ (r : Result S SpaceFault). EngineCounts {T = S} e e' r) (sym is) (subst (λ (x : SpaceFault). EngineCounts {T = S} e e' (Err x)) (sym same) failed)
  where
    failed : EngineCounts {T = S} e e' (Err f)
    failed = record {
      told = k.told;
      tells = tt;
      base = k.base;
      extent = k.extent;
      later = k.later;
      quiet = tt;
      disk = k.disk;
      accounts = accounts_err (λ t. t) (count_none e.disk e.gate) k.accounts;
      log_end = k.log_end;
      tail = k.tail;
      failed = k.failed;
      stops = k.stops;
      first = k.first;
      full = tt;
      for_disk = k.for_disk;
      for_end = k.for_end;
    }

-- or with another answer
pub engine_ok : {T S : Type 0} {e e' : EngineSeen} {x : T} (y : S) → EngineCounts {T = T} e e' (Ok x) → EngineCounts {T = S} e e' (Ok y)
engine_ok {T} {S} {e} {e'} {x} y k = record {
  told = k.told;
  tells = k.tells;
  base = k.base;
  extent = k.extent;
  later = k.later;
  quiet = k.quiet;
  disk = tt;
  accounts = accounts_ok y (count_ok k.accounts);
  log_end = tt;
  tail = k.tail;
  failed = tt;
  stops = k.stops;
  first = k.first;
  full = k.full;
  for_disk = tt;
  for_end = tt;
}

-- SOME LOOKS, and a call of the engine that fails, or that is the last
pub acts_err : {T S : Type 0} {e e1 e' : EngineSeen} {b b1 : ℕ} (q : Result S SpaceFault) (f h : SpaceFault) → q ≡ Err h → h ≡ f → (e'.Told → e'.failed ≡ false) → HasLooked e e1 b b1 → EngineCounts {T = T} e1 e' (Err f) → ActsCounts {T = S} e e' b b1 q
acts_err {T} {S} {e} {e1} {e'} {b} {b1} q f h is same whole run k = err_is {T = T} q f h is same (looked_err run (err_engine b1 whole k))

pub acts_last : {T : Type 0} {e e1 e' : EngineSeen} {b b1 : ℕ} (q : Result T SpaceFault) → (e'.Told → e'.failed ≡ false) → HasLooked e e1 b b1 → EngineCounts {T = T} e1 e' q → ActsCounts {T = T} e e' b b1 q
acts_last {T} {e} {e1} {e'} {b} {b1} (Ok x) whole run k = looked_ok x (looked_then run (looked_ok x (looked_engine b1 k)))
acts_last {T} {e} {e1} {e'} {b} {b1} (Err f) whole run k = looked_err run (err_engine b1 whole k)

-- and two calls of the engine that answer
pub looked_two : {T U : Type 0} {e e1 e' : EngineSeen} (b : ℕ) {x : T} {y : U} → EngineCounts {T = T} e e1 (Ok x) → EngineCounts {T = U} e1 e' (Ok y) → HasLooked e e' b b
looked_two {T} {U} {e} {e1} {e'} b {x} {y} k l = looked_then {T = U} {x = y} (looked_engine b k) (looked_ok y (looked_engine b l))

-- THE SAME OF WHAT A SPACE SHOWS
pub shown_counts : {T : Type 0} (limits limits' : State → ℕ → ℕ) (e e' : EngineSeen) (begun begun' : Bool) (begin begin' : State) (b b' : ℕ) (maps maps' unfreed unfreed' : Maps) (r : Result T SpaceFault) → ActsCounts {T = T} e e' b b' r
    → Counts {T = T} (acts_view limits e begun begin b maps unfreed) (acts_view limits' e' begun' begin' b' maps' unfreed') r
shown_counts limits limits' e e' begun begun' begin begin' b b' maps maps' unfreed unfreed' (Ok x) k = record { told = k.told; later = k.later; quiet = k.quiet; disk = tt; log_end = tt }
shown_counts limits limits' e e' begun begun' begin begin' b b' maps maps' unfreed unfreed' (Err f) k = record { told = k.told; later = k.later; quiet = tt; disk = k.disk; log_end = λ z. inl (k.log_end z) }

-- a break, behind looks that count no fault
pub shown_break : {T : Type 0} (limits limits' : State → ℕ → ℕ) (e e' : EngineSeen) (begun begun' : Bool) (begin begin' : State) (b b' : ℕ) (maps maps' unfreed unfreed' : Maps) (fault : SpaceFault) → fault ≡ Disk → (e'.Told → e.Told) → e'.faults ≡ e.faults → HasRisen b b' → b ≤ b'
    → Counts {T = T} (acts_view limits e begun begin b maps unfreed) (acts_view limits' e' begun' begin' b' maps' unfreed') (Err fault)
shown_break limits limits' e e' begun begun' begin begin' b b' maps maps' unfreed unfreed' fault is told same risen up = record {
  told = told;
  later = omega (arith, same, up);
  quiet = tt;
  disk = λ d few. let r : b < b' = risen (omega (arith, few)) in omega (arith, same, r);
  log_end = λ z. absurd (let w : Disk ≡ LogEnd = sym is ∙ z in cc);
}
