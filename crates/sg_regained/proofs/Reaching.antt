-- WHAT A WALK OVER ALL THAT THE PAGES REACH LEAVES.
use Rattle.std.proofs.Common.{◌≡◌, ℕ, ◌≤◌, [], length, Option, Some, None, Result, Ok, Err, sym, subst, ◌∙◌, arith}
use Rattle.std.specs.Prelude.{OnOk}
use Rattle.sg_alloc.specs.declared.maps.Maps.{Maps}
use Rattle.sg_base.specs.Ends.{HasRisen}
use Rattle.sg_ops.specs.Table.{Table}
use Rattle.sg_space.specs.declared.space.SpaceFault.TheVariants.{Disk}
use Rattle.sg_reach.specs.Fault as reach
use Rattle.sg_reach.specs.declared.fault.ReachFault.{ReachFault}
use Rattle.sg_action.specs.States.{State}
use Rattle.sg_contents.specs.Standing.{Contents}
use Rattle.sg_reader.specs.Alike.{ReadsAs}
use Rattle.sg_actions.specs.Engine.{EngineSeen, led}
use Rattle.sg_actions.specs.Growing.{moments_stop}
use Rattle.sg_actions.specs.Images.{Recovering}
use Rattle.sg_unread.specs.Unread.{LooksOn}
use Rattle.sg_walked.specs.Walked.{IsWalked}
use Rattle.sg_found.specs.Looks.{AreBytes}
use Rattle.sg_resumed.specs.Walking.{HasWalked}
use Rattle.sg_starting.specs.declared.opening.StartFault.{StartFault}
use Rattle.sg_starting.specs.declared.opening.StartFault.TheVariants.{Space}
use Rattle.sg_regained.specs.Regained.{IsStopped, HasStopped, CanGoOver, HasGoneOver, OverCounts, started}
use Rattle.sg_regained.proofs.Over.{over_ok, over_err, over_break, over_none, is_broken}

-- an engine that doesn't tell is stopped,
stopped_never : {recovers : Table → Recovering} {a b : EngineSeen} {m : Table → State → Type 0} (t : Table) → (a.Told → ⊥) → IsStopped a b → HasStopped recovers t a b m
stopped_never {recovers} {a} {b} {m} t never s = record {
  silent = s.silent;
  failed = s.failed;
  tail = s.tail;
  faults = let f = s.faults in omega (arith, f);
  stops = λ f. s.disk;
  reads = λ from stands told. absurd (never told);
}

-- and one that was looked at
stopped_then : {recovers : Table → Recovering} {t : Table} {a b c : EngineSeen} {m n : Table → State → Type 0} → LooksOn recovers t a b m n → IsStopped b c → HasStopped recovers t a c m
stopped_then {recovers} {t} {a} {b} {c} {m} {n} l s = record {
  silent = s.silent;
  failed = s.failed;
  tail = s.tail ∙ l.tail;
  faults = let f = s.faults in let g = l.faults in omega (arith, f, g);
  stops = λ f. s.disk ∙ (l.stops f).1;
  reads = λ from stands told. moments_stop (led from a) (led from b) (led from c) s.disk (l.reads from stands told).moments;
}

-- one that ended well
pub reaches_ok : {U : Type 0} {recovers : Table → Recovering} {pages bands breaks : ℕ} {a b : EngineSeen} {m n : Table → State → Type 0} {x : U} (maps : Maps) → HasWalked {T = U} recovers a b 0 breaks m n (Ok x)
    → length maps.pages ≡ pages → length maps.bands ≡ bands → (a.Told → IsWalked pages bands a.now maps) → ((t : Table) (from : State) → m t from → a.Told → AreBytes maps.pages pages a.now)
    → HasGoneOver recovers pages bands a b breaks m n (Ok maps)
reaches_ok {U} {recovers} {pages} {bands} {breaks} {a} {b} {m} {n} {x} maps h long wide walked bytes = record {
  counts = over_ok maps h;
  looks = h.looks;
  stopped = λ t. tt;
  walked = walked;
  bytes = bytes;
  long = long;
  wide = wide;
  broken = tt;
}

-- that failed
pub reaches_err : {U : Type 0} {recovers : Table → Recovering} {pages bands breaks : ℕ} {a b c : EngineSeen} {m n k : Table → State → Type 0} (e : ReachFault) → HasWalked {T = U} recovers a b 0 breaks m n (Err e)
    → reach.IfBroken (a.Told → (s : Contents) → ReadsAs pages bands a.now s → ⊥) e → IsStopped b c → HasGoneOver recovers pages bands a c breaks m k (Err (started e))
reaches_err {U} {recovers} {pages} {bands} {breaks} {a} {b} {c} {m} {n} {k} e h broken s = record {
  counts = over_err e h s;
  looks = λ t. tt;
  stopped = λ t. stopped_then (h.looks t) s;
  walked = tt;
  bytes = λ t from stands. tt;
  long = tt;
  wide = tt;
  broken = is_broken _ e broken;
}

-- behind which a break is counted
pub reaches_break : {U : Type 0} {recovers : Table → Recovering} {pages bands breaks : ℕ} {a b c : EngineSeen} {m n k : Table → State → Type 0} {x : U} (more : ℕ) → breaks ≤ more → HasRisen breaks more → (a.Told → ⊥)
    → HasWalked {T = U} recovers a b 0 breaks m n (Ok x) → IsStopped b c → HasGoneOver recovers pages bands a c more m k (Err (Space Disk))
reaches_break {U} {recovers} {pages} {bands} {breaks} {a} {b} {c} {m} {n} {k} {x} more up risen never h s = record {
  counts = over_break more up risen never h s;
  looks = λ t. tt;
  stopped = λ t. stopped_then (h.looks t) s;
  walked = tt;
  bytes = λ t from stands. tt;
  long = tt;
  wide = tt;
  broken = tt;
}

-- and none at all
pub reaches_none : {recovers : Table → Recovering} {pages bands : ℕ} {a c : EngineSeen} {m k : Table → State → Type 0} → (a.Told → ⊥) → IsStopped a c → HasGoneOver recovers pages bands a c 1 m k (Err (Space Disk))
reaches_none {recovers} {pages} {bands} {a} {c} {m} {k} never s = record {
  counts = over_none never s;
  looks = λ t. tt;
  stopped = λ t. stopped_never t never s;
  walked = tt;
  bytes = λ t from stands. tt;
  long = tt;
  wide = tt;
  broken = tt;
}

-- THE SAME, with what it is known by
pub reached_as : {recovers : Table → Recovering} {pages bands : ℕ} {a b : EngineSeen} {m n : Table → State → Type 0} (breaks breaks' : ℕ) (taken taken' : Result Maps StartFault) → breaks' ≡ breaks → taken' ≡ taken
    → HasGoneOver recovers pages bands a b breaks m n taken → HasGoneOver recovers pages bands a b breaks' m n taken'
reached_as {recovers} {pages} {bands} {a} {b} {m} {n} breaks breaks' taken taken' e f h =
    subst (λ (k : ℕ). HasGoneOver recovers pages bands a b k m n taken') (sym e) (subst (λ (r : Result Maps StartFault). HasGoneOver recovers pages bands a b breaks m n r) (sym f) h)

-- of an engine that is this, of so many pages and bands
pub reached_at : {E : Type 0} {recovers : Table → Recovering} (view : E → EngineSeen) (means : E → Table → State → Type 0) (e e' : E) (pages pages' bands bands' : ℕ) {b : EngineSeen} {breaks : ℕ} {n : Table → State → Type 0} {taken : Result Maps StartFault}
    → e' ≡ e → pages' ≡ pages → bands' ≡ bands → HasGoneOver recovers pages' bands' (view e') b breaks (means e') n taken → HasGoneOver recovers pages bands (view e) b breaks (means e) n taken
reached_at {E} {recovers} view means e e' pages pages' bands bands' {b} {breaks} {n} {taken} same p q h =
    subst (λ (x : E). HasGoneOver recovers pages bands (view x) b breaks (means x) n taken) same
    (subst (λ (k : ℕ). HasGoneOver recovers k bands (view e') b breaks (means e') n taken) p
    (subst (λ (k : ℕ). HasGoneOver recovers pages' k (view e') b breaks (means e') n taken) q h))

-- operations that are none: what looks leave doesn't depend on any
pub no_table : Table
no_table = record { records = []; ranges = [] }

-- COUNTS of an engine that is this, with so many breaks
pub counts_at : {E T : Type 0} (view : E → EngineSeen) {a : EngineSeen} {breaks : ℕ} (e e' : E) (sum sum' : ℕ) (r : Result T StartFault) → e' ≡ e → sum' ≡ sum → OverCounts {T = T} a (view e) breaks sum r → OverCounts {T = T} a (view e') breaks sum' r
counts_at {E} {T} view {a} {breaks} e e' sum sum' r same f h =
    subst (λ (x : E). OverCounts {T = T} a (view x) breaks sum' r) (sym same) (subst (λ (k : ℕ). OverCounts {T = T} a (view e) breaks k r) (sym f) h)

-- WHERE NO FLAGS ARE LENT no walk can be asked for
pub none_lent : (room : Option Maps) (unfreed : Maps) (pages bands : ℕ) → room ≡ None → CanGoOver room unfreed pages bands → ⊥
none_lent room unfreed pages bands none h = absurd (let no : ◌≡◌ {A = Option Maps} None (Some h.room_is.flags) = sym none ∙ h.room_is.is in cc)

-- what holds at all, or of a result that is a failure
pub ok_always : {T F P : Type 0} (r : Result T F) → P → OnOk r P
ok_always (Ok x) p = p
ok_always (Err e) p = tt

pub ok_never : {T F : Type 0} (P : Type 0) (r : Result T F) (e : F) → r ≡ Err e → OnOk r P
ok_never {T} {F} P r e is = subst (λ (q : Result T F). OnOk q P) (sym is) tt
