-- What is said of faults, said of a longer call.
use Rattle.std.proofs.Common.{ℕ, ◌<◌, ◌≤◌, Result, Ok, Err, arith}
use Rattle.std.specs.Result.{IfErr}
use Rattle.sg_base.specs.Ends.{HasRisen}
use Rattle.sg_index.specs.declared.fault.IndexFault.{IndexFault}
use Rattle.sg_index.specs.declared.fault.IndexFault.TheVariants.{Records, NotAnIndex, TooMany}
use Rattle.sg_index.specs.Fault.{MatchFault}

pub risen_after : (a b c : ℕ) → a ≤ b → HasRisen b c → HasRisen a c
risen_after a b c le risen = λ small. let lt : b < c = risen small in omega (arith, lt, le)

pub risen_before : (a b c : ℕ) → HasRisen a b → b ≤ c → HasRisen a c
risen_before a b c risen le = λ small. let lt : a < b = risen (omega (arith, small, le)) in omega (arith, lt, le)

module _ {F : Type 0} where
  pub fault_weaker : (e : IndexFault F) {A A' B B' C C' : Type 0} → (A → A') → (B → B') → (C → C') → MatchFault e A B C → MatchFault e A' B' C'
  fault_weaker (Records f) a b c h = a h
  fault_weaker NotAnIndex a b c h = b h
  fault_weaker TooMany a b c h = c h

  pub failed_weaker : {T : Type 0} (r : Result T (IndexFault F)) {A A' B B' C C' : Type 0} → (A → A') → (B → B') → (C → C') → IfErr r (λ e. MatchFault e A B C) → IfErr r (λ e. MatchFault e A' B' C')
  failed_weaker (Ok x) a b c h = tt
  failed_weaker (Err e) a b c h = fault_weaker e a b c h
