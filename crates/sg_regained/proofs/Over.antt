-- THE COUNTS OF A WALK, behind which the engine is stopped where it failed.
use Rattle.std.proofs.Common.{◌≡◌, ℕ, ◌+◌, ◌<◌, ◌≤◌, ◌^◌, Result, Ok, Err, sym, subst, refl, arith}
use Rattle.sg_base.specs.Ends.{HasRisen}
use Rattle.sg_disk.specs.Accounts.{Accounts}
use Rattle.sg_disk.specs.Disk.{View}
use Rattle.sg_ops.specs.Table.{Table}
use Rattle.sg_space.specs.declared.space.SpaceFault.TheVariants.{Disk, LogEnd}
use Rattle.sg_reach.specs.declared.fault.ReachFault.{ReachFault}
use Rattle.sg_reach.specs.declared.fault.ReachFault.TheVariants as reaches
use Rattle.sg_action.specs.States.{State}
use Rattle.sg_actions.specs.Engine.{EngineSeen}
use Rattle.sg_actions.specs.Images.{Recovering}
use Rattle.sg_actions.proofs.Accounting.{count_ok, count_none, accounts_ok, accounts_break}
use Rattle.sg_resumed.specs.Walking.{HasWalked}
use Rattle.sg_starting.specs.Starting.{IsStartDisk, IfBroken}
use Rattle.sg_reach.specs.Fault as reach
use Rattle.sg_starting.specs.declared.opening.StartFault.{StartFault}
use Rattle.sg_starting.specs.declared.opening.StartFault.TheVariants.{Space}
use Rattle.sg_regained.specs.Regained.{OverCounts, IsStopped, started}

-- THE DISK'S OWN COUNTS, by an opening's word for a fault
accounts_as : {U T : Type 0} {Told : Type 0} {v w : View} {i j : ℕ} (e : ReachFault) → Accounts (λ f. f ≡ reaches.Space Disk) Told v w i j (let r : Result U ReachFault = Err e in r)
    → Accounts IsStartDisk Told v w i j (let r : Result T StartFault = Err (started e) in r)
accounts_as (reaches.Space Disk) k = record { later = k.later; heeded = λ n. absurd (n tt); caused = λ d. k.caused refl; handed = k.handed; shown = k.shown }
accounts_as (reaches.Space LogEnd) k = record {
  later = k.later;
  heeded = λ n. k.heeded (λ d. let e : reaches.Space LogEnd ≡ reaches.Space Disk = d in cc);
  caused = λ d. absurd d;
  handed = k.handed;
  shown = k.shown;
}
accounts_as (reaches.Broken page) k = record {
  later = k.later;
  heeded = λ n. k.heeded (λ d. let e : reaches.Broken page ≡ reaches.Space Disk = d in cc);
  caused = λ d. absurd d;
  handed = k.handed;
  shown = k.shown;
}

-- and of an engine that is stopped behind
accounts_stopped : {T F : Type 0} {IsDisk : F → Type 0} {Told : Type 0} {v : View} {i : ℕ} {b c : EngineSeen} {r : Result T F} → IsStopped b c → Accounts IsDisk Told v b.disk i b.gate r → Accounts IsDisk Told v c.disk i c.gate r
accounts_stopped {T} {F} {IsDisk} {Told} {v} {i} {b} {c} {r} s k =
    subst (λ (w : View). Accounts IsDisk Told v w i c.gate r) (sym s.disk) (subst (λ (n : ℕ). Accounts IsDisk Told v b.disk i n r) (sym s.gate) k)

-- one that ended well
pub over_ok : {U T : Type 0} {recovers : Table → Recovering} {a b : EngineSeen} {m n : Table → State → Type 0} {breaks : ℕ} {x : U} (y : T) → HasWalked {T = U} recovers a b 0 breaks m n (Ok x) → OverCounts {T = T} a b 0 breaks (Ok y)
over_ok {U} {T} {recovers} {a} {b} {m} {n} {breaks} {x} y h = record { tells = h.tells; later = h.later; quiet = h.quiet; disk = tt; accounts = accounts_ok y (count_ok h.accounts); no_end = tt }

risen_by : {before now : ℕ} (e : ReachFault) → (e ≡ reaches.Space Disk → HasRisen before now) → IsStartDisk (started e) → HasRisen before now
risen_by (reaches.Space Disk) h d = h refl
risen_by (reaches.Space LogEnd) h d = absurd d
risen_by (reaches.Broken page) h d = absurd d

no_end_by : (e : ReachFault) → (e ≡ reaches.Space LogEnd → ⊥) → started e ≡ Space LogEnd → ⊥
no_end_by (reaches.Space Disk) h s = absurd cc
no_end_by (reaches.Space LogEnd) h s = h refl
no_end_by (reaches.Broken page) h s = absurd cc

-- one that failed
pub over_err : {U T : Type 0} {recovers : Table → Recovering} {a b c : EngineSeen} {m n : Table → State → Type 0} {breaks : ℕ} (e : ReachFault) → HasWalked {T = U} recovers a b 0 breaks m n (Err e) → IsStopped b c
    → OverCounts {T = T} a c 0 breaks (Err (started e))
over_err {U} {T} {recovers} {a} {b} {c} {m} {n} {breaks} e h s = record {
  tells = tt;
  later = let l = h.later in let f = s.faults in omega (arith, l, f);
  quiet = tt;
  disk = λ d. subst (λ (k : ℕ). HasRisen (a.faults + 0) (k + breaks)) (sym s.faults) (risen_by e h.disk d);
  accounts = accounts_stopped s (accounts_as e h.accounts);
  no_end = no_end_by e h.no_end;
}

-- and one behind which a break is counted
pub over_break : {U T : Type 0} {recovers : Table → Recovering} {a b c : EngineSeen} {m n : Table → State → Type 0} {breaks : ℕ} {x : U} (more : ℕ) → breaks ≤ more → HasRisen breaks more → (a.Told → ⊥)
    → HasWalked {T = U} recovers a b 0 breaks m n (Ok x) → IsStopped b c → OverCounts {T = T} a c 0 more (Err (Space Disk))
over_break {U} {T} {recovers} {a} {b} {c} {m} {n} {breaks} {x} more up risen never h s = record {
  tells = tt;
  later = let l = h.later in let f = s.faults in omega (arith, l, up, f);
  quiet = tt;
  disk = λ d few. let q = h.quiet in let f = s.faults in let r : breaks < more = risen (omega (arith, few)) in omega (arith, q, r, f);
  accounts = accounts_stopped s (accounts_break never (count_ok h.accounts));
  no_end = λ k. absurd cc;
}

-- a break, and no walk
pub over_none : {T : Type 0} {a c : EngineSeen} → (a.Told → ⊥) → IsStopped a c → OverCounts {T = T} a c 0 1 (Err (Space Disk))
over_none {T} {a} {c} never s = record {
  tells = tt;
  later = let f = s.faults in omega (arith, f);
  quiet = tt;
  disk = λ d few. let f = s.faults in omega (arith, f);
  accounts = accounts_stopped s (accounts_break never (count_none a.disk a.gate));
  no_end = λ k. absurd cc;
}

-- WITH THE BREAKS BEFORE IT
pub over_sum_ok : {U T : Type 0} {a b : EngineSeen} {more : ℕ} {x : U} (y : T) (breaks sum : ℕ) → a.faults ≤ b.faults → (more ≡ 0 → sum ≡ breaks) → OverCounts {T = U} a b 0 more (Ok x) → OverCounts {T = T} a b breaks sum (Ok y)
over_sum_ok {U} {T} {a} {b} {more} {x} y breaks sum up same h =
    let q = h.quiet in
    let none : more ≡ 0 = omega (arith, q, up) in
    let s = same none in
    record {
      tells = h.tells;
      later = omega (arith, up, s);
      quiet = omega (arith, q, none, s);
      disk = tt;
      accounts = accounts_ok y (count_ok h.accounts);
      no_end = tt;
    }

pub over_sum_err : {U T : Type 0} {a b : EngineSeen} {more : ℕ} (w : StartFault) (breaks sum : ℕ) → a.faults ≤ b.faults → breaks ≤ sum → (sum + 1 < 2 ^ 64 → sum ≡ breaks + more) → OverCounts {T = U} a b 0 more (Err w) → OverCounts {T = T} a b breaks sum (Err w)
over_sum_err {U} {T} {a} {b} {more} w breaks sum up less exact h = record {
  tells = tt;
  later = omega (arith, up, less);
  quiet = tt;
  disk = λ d few. let s : sum ≡ breaks + more = exact (omega (arith, few)) in let r : a.faults + 0 < b.faults + more = h.disk d (omega (arith, few, s)) in omega (arith, s, r);
  accounts = record { later = h.accounts.later; heeded = h.accounts.heeded; caused = h.accounts.caused; handed = h.accounts.handed; shown = h.accounts.shown };
  no_end = h.no_end;
}

-- WHY IT FAILED
pub is_broken : (P : Type 0) (e : ReachFault) → reach.IfBroken P e → IfBroken (started e) P
is_broken P (reaches.Space fault) h = tt
is_broken P (reaches.Broken page) h = h
