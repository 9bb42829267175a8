-- THE COUNTS OF LOOKS, as those of a take-off and of a walk.
use Rattle.std.proofs.Common.{◌≡◌, ◌⊎◌, inl, inr, Bool, true, false, ℕ, ◌+◌, ◌<◌, ◌≤◌, Result, Ok, Err, List, IsSome, [], refl, sym, ap, subst, ◌∙◌, arith}
use Rattle.std.specs.Prelude.{OnOk, IfErr}
use Rattle.sg_base.specs.Ends.{HasRisen}
use Rattle.sg_ops.specs.Table.{Table}
use Rattle.sg_space.specs.declared.space.SpaceFault.{SpaceFault}
use Rattle.sg_space.specs.declared.space.SpaceFault.TheVariants.{Disk, LogEnd}
use Rattle.sg_reach.specs.declared.fault.ReachFault.{ReachFault}
use Rattle.sg_reach.specs.declared.fault.ReachFault.TheVariants.{Space, Broken}
use Rattle.sg_action.specs.States.{State}
use Rattle.sg_actions.specs.Engine.{EngineSeen, led, now_of}
use Rattle.sg_actions.specs.Images.{Recovering}
use Rattle.sg_actions.specs.Steps.{repeated}
use Rattle.sg_actions.specs.WentOff.{OffCounts}
use Rattle.sg_found.specs.Looks.{AreBytes, HasLooked}
use Rattle.sg_walked.specs.Walked.{AllSay}
use Rattle.sg_base.specs.declared.numbers.PageNo.{PageNo}
use Rattle.sg_reach.specs.Fault.{IfBroken}
use Rattle.sg_resumed.specs.Walking.{Ends, HasWalked, IsSpace, found_by}
use Rattle.sg_unread.specs.Unread.{LooksOn}

-- operations that are none: what looks leave doesn't depend on any
pub no_table : Table
no_table = record { records = []; ranges = [] }

-- an engine that told was not full, nor is it behind looks
not_full : {recovers : Table → Recovering} {t : Table} {a b : EngineSeen} {m n : Table → State → Type 0} → LooksOn recovers t a b m n → (a.Told → a.failed ≡ false) → (a.full ≡ true → a.failed ≡ true) → a.Told → b.full ≡ false
not_full {recovers} {t} {a} {b} h whole full told = by_test a.full refl
  where
    by_test : (x : Bool) → a.full ≡ x → b.full ≡ false
    by_test false is = h.full ∙ is
    by_test true is = absurd (let no : true ≡ false = sym (full is) ∙ whole told in cc)

-- looks that succeeded, behind which the engine has not failed,
pub off_looked : {T U : Type 0} {recovers : Table → Recovering} {a b : EngineSeen} {m n : Table → State → Type 0} (breaks : ℕ) {x : T} (y : U) → b.failed ≡ false → HasLooked {T = T} recovers a b m n (Ok x) → OffCounts {T = U} a b breaks breaks (Ok y)
off_looked {T} {U} {recovers} {a} {b} {m} {n} breaks {x} y good h =
    let l = h.looks no_table in
    record {
      told = l.told;
      tells = h.tells;
      later = let f = l.faults in omega (arith, f);
      quiet = ap (λ (k : ℕ). k + breaks) h.quiet;
      disk = tt;
      accounts = record { later = l.accounts.faults; heeded = l.accounts.heeded (λ f. absurd (let no : true ≡ false = sym f ∙ good in cc)); caused = tt; handed = l.accounts.handed; shown = l.accounts.shown };
      log_end = tt;
      tail = let t = l.tail in omega (arith, t);
      silent = tt;
      stops = l.stops;
    }

-- ones that failed,
pub off_failed : {T U : Type 0} {recovers : Table → Recovering} {a b : EngineSeen} {m n : Table → State → Type 0} (breaks : ℕ) (q : Result U SpaceFault) (f g : SpaceFault) → q ≡ Err g → g ≡ f → (a.Told → a.failed ≡ false) → (b.Told → b.failed ≡ false) → (a.full ≡ true → a.failed ≡ true)
    → HasLooked {T = T} recovers a b m n (Err f) → OffCounts {T = U} a b breaks breaks q
off_failed {T} {U} {recovers} {a} {b} {m} {n} breaks q f g is same whole whole' full h =
    let l = h.looks no_table in
    subst (λ (r : Result U SpaceFault). OffCounts {T = U} a b breaks breaks r) (sym is) (record {
      told = l.told;
      tells = tt;
      later = let k = l.faults in omega (arith, k);
      quiet = tt;
      disk = λ d few. let r : a.faults < b.faults = h.risen (omega (arith, few)) in omega (arith, r);
      accounts = record { later = l.accounts.faults; heeded = λ no. absurd (no (same ∙ h.disk)); caused = λ d told. l.accounts.caused told h.failed (not_full l whole full told); handed = l.accounts.handed; shown = l.accounts.shown };
      log_end = λ z. absurd (let no : Disk ≡ LogEnd = sym h.disk ∙ (sym same ∙ z) in cc);
      tail = let t = l.tail in omega (arith, t);
      silent = λ told. absurd (let no : true ≡ false = sym h.failed ∙ whole' told in cc);
      stops = l.stops;
    })

-- and a break behind some, where the engine tells no more
pub off_broken : {T U : Type 0} {recovers : Table → Recovering} {a b : EngineSeen} {m n : Table → State → Type 0} (breaks more : ℕ) (f : SpaceFault) {x : T} → f ≡ Disk → HasRisen breaks more → breaks ≤ more → (b.Told → ⊥) → (a.Told → HasRisen a.disk.faults b.disk.faults)
    → HasLooked {T = T} recovers a b m n (Ok x) → OffCounts {T = U} a b breaks more (Err f)
off_broken {T} {U} {recovers} {a} {b} {m} {n} breaks more f {x} is risen up silent caused h =
    let l = h.looks no_table in
    record {
      told = l.told;
      tells = tt;
      later = let k = l.faults in omega (arith, k, up);
      quiet = tt;
      disk = λ d few. let q = h.quiet in let r : breaks < more = risen (omega (arith, few)) in omega (arith, r, q);
      accounts = record { later = l.accounts.faults; heeded = λ no. absurd (no is); caused = λ d told. caused told; handed = l.accounts.handed; shown = l.accounts.shown };
      log_end = λ z. absurd (let no : Disk ≡ LogEnd = sym is ∙ z in cc);
      tail = let t = l.tail in omega (arith, t);
      silent = silent;
      stops = l.stops;
    }

-- THE WALK, by how it ends
walk_by : {recovers : Table → Recovering} {a b : EngineSeen} {m n : Table → State → Type 0} (found r : Result (Unit {0}) ReachFault) (breaks : ℕ) → ((t : Table) → LooksOn recovers t a b m n) → b.failed ≡ false → OnOk found (a.Told → b.Told) → OnOk found (b.faults ≡ a.faults)
    → breaks ≡ 0 → r ≡ found_by found → HasWalked {T = Unit {0}} recovers a b 0 breaks m n r
walk_by {recovers} {a} {b} {m} {n} (Ok x) r breaks looks good tells quiet none is =
    let l = looks no_table in
    subst (λ (q : Result (Unit {0}) ReachFault). HasWalked {T = Unit {0}} recovers a b 0 breaks m n q) (sym is) (record {
      looks = looks;
      tells = tells;
      later = let f = l.faults in omega (arith, f);
      quiet = omega (arith, quiet, none);
      disk = tt;
      accounts = record { later = l.accounts.faults; heeded = l.accounts.heeded (λ f. absurd (let no : true ≡ false = sym f ∙ good in cc)); caused = tt; handed = l.accounts.handed; shown = l.accounts.shown };
      unbroken = λ told z. none;
      no_end = tt;
    })
walk_by {recovers} {a} {b} {m} {n} (Err e) r breaks looks good tells quiet none is = by_fault e is
  where
    broke : (p : PageNo) → r ≡ Err (Broken p) → HasWalked {T = Unit {0}} recovers a b 0 breaks m n r
    broke p same =
        let l = looks no_table in
        subst (λ (q : Result (Unit {0}) ReachFault). HasWalked {T = Unit {0}} recovers a b 0 breaks m n q) (sym same) (record {
          looks = looks;
          tells = tt;
          later = let f = l.faults in omega (arith, f);
          quiet = tt;
          disk = λ d. absurd cc;
          accounts = record { later = l.accounts.faults; heeded = λ no. l.accounts.heeded (λ f. absurd (let no : true ≡ false = sym f ∙ good in cc)); caused = λ d told. absurd cc; handed = l.accounts.handed; shown = l.accounts.shown };
          unbroken = λ told z. none;
          no_end = λ z. absurd cc;
        })

    by_fault : (f : ReachFault) → r ≡ found_by (Err f) → HasWalked {T = Unit {0}} recovers a b 0 breaks m n r
    by_fault (Space fault) same = broke (record { 0 = 0 }) same
    by_fault (Broken p) same = broke p same

pub walk_ended : {recovers : Table → Recovering} {a b : EngineSeen} {m n : Table → State → Type 0} (found r : Result (Unit {0}) ReachFault) (breaks : ℕ) → ((t : Table) → LooksOn recovers t a b m n) → (a.Told → a.failed ≡ false) → (b.Told → b.failed ≡ false) → (a.full ≡ true → a.failed ≡ true)
    → OnOk found (a.Told → b.Told) → OnOk found (b.faults ≡ a.faults) → Ends b found breaks r → HasWalked {T = Unit {0}} recovers a b 0 breaks m n r
walk_ended {recovers} {a} {b} {m} {n} found r breaks looks whole whole' full tells quiet (inr (good, none, is)) = walk_by found r breaks looks good tells quiet none is
walk_ended {recovers} {a} {b} {m} {n} found r breaks looks whole whole' full tells quiet (inl (bad, one, is)) =
    let l = looks no_table in
    subst (λ (q : Result (Unit {0}) ReachFault). HasWalked {T = Unit {0}} recovers a b 0 breaks m n q) (sym is) (record {
      looks = looks;
      tells = tt;
      later = let f = l.faults in omega (arith, f);
      quiet = tt;
      disk = λ d few. let f = l.faults in omega (arith, f, one);
      accounts = record { later = l.accounts.faults; heeded = λ no. absurd (no refl); caused = λ d told. l.accounts.caused told bad (not_full l whole full told); handed = l.accounts.handed; shown = l.accounts.shown };
      unbroken = λ told z. absurd (let no : true ≡ false = sym bad ∙ whole' told in cc);
      no_end = λ z. absurd cc;
    })

-- behind an Ok it found something, and the engine has not failed
pub ends_ok : (P : Type 0) (e : EngineSeen) (found r : Result (Unit {0}) ReachFault) (breaks : ℕ) → Ends e found breaks r → OnOk found P → OnOk r P
ends_ok P e found (Err f) breaks h p = tt
ends_ok P e (Ok x) (Ok y) breaks h p = p
ends_ok P e (Err f) (Ok y) breaks (inl (bad, one, is)) p = absurd cc
ends_ok P e (Err (Space fault)) (Ok y) breaks (inr (good, none, is)) p = absurd cc
ends_ok P e (Err (Broken q)) (Ok y) breaks (inr (good, none, is)) p = absurd cc

-- and it is broken only where what it read is no objects
pub ends_broken : (P : Type 0) (e : EngineSeen) (found r : Result (Unit {0}) ReachFault) (breaks : ℕ) → Ends e found breaks r → IfErr found (λ f. e.failed ≡ false → P) → IfErr r (IfBroken P)
ends_broken P e found (Ok y) breaks h p = tt
ends_broken P e found (Err (Space fault)) breaks h p = tt
ends_broken P e found (Err (Broken q)) breaks (inl (bad, one, is)) p = absurd cc
ends_broken P e (Ok x) (Err (Broken q)) breaks (inr (good, none, is)) p = absurd cc
ends_broken P e (Err f) (Err (Broken q)) breaks (inr (good, none, is)) p = p good

-- what looks at pages say for any operations
pub ok_all : {T F : Type 0} (P : Type 0) (Q : Table → State → Type 0) (r : Result T F) → ((t : Table) (from : State) → Q t from → OnOk r P) → OnOk r ((t : Table) (from : State) → Q t from → P)
ok_all P Q (Ok x) h = h
ok_all P Q (Err e) h = tt

pub broken_all : (L P : Type 0) (e : EngineSeen) (Q : Table → State → Type 0) (r : Result (Unit {0}) ReachFault) → ((t : Table) (from : State) → Q t from → IfErr r (IfBroken L)) → IfErr r (λ f. IsSpace f → e.failed ≡ true) → (((t : Table) (from : State) → Q t from → L) → P) → IfErr r (λ f. e.failed ≡ false → P)
broken_all L P e Q (Ok x) lacks fails g = tt
broken_all L P e Q (Err (Space fault)) lacks fails g = λ good. absurd (let no : true ≡ false = sym (fails tt) ∙ good in cc)
broken_all L P e Q (Err (Broken p)) lacks fails g = λ good. g lacks

-- each page of these says something
pub all_say : (taken : List Bool) (count : ℕ) (x : State) → AreBytes taken count x → AllSay count x taken
all_say taken count x h p less set = subst IsSome (sym (h p less set).says) refl

-- the pages and bands are as before
pub looks_now : {recovers : Table → Recovering} {t : Table} {a b : EngineSeen} {m n : Table → State → Type 0} → LooksOn recovers t a b m n → (from : State) → m t from → a.Told → (b.Told → b.failed ≡ false) → b.Told → a.now ≡ now_of t (led from a) → b.now ≡ now_of t (led from b) → b.now ≡ a.now
looks_now {recovers} {t} {a} {b} h from s told whole told' e f = f ∙ (ap (repeated t from) ((h.reads from s told).stays (whole told')).steps ∙ sym e)

-- two numbers that aren't the same, where the other case is out
pub apart_by : {P Q R : Type 0} → (P × Q) ⊎ R → (R → ⊥) → Q
apart_by (inl h) never = h.1
apart_by (inr r) never = absurd (never r)
