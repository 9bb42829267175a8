-- A look at an engine, as one of the space over it.
use mathlib.Core.Logic.{∥∥₁_elim, ∥∥₁_prop}
use Rattle.std.proofs.Common.{◌≡◌, ℕ, ◌+◌, ◌<◌, ◌≤◌, nat_lt, cond, Bool, true, false, Option, Some, None, Result, Ok, Err, sym, ap, subst, ◌∙◌, refl, arith}
use Rattle.std.proofs.lemmas.Bool.Decides.{nat_tests}
use Rattle.std.specs.Prelude.{OnOk, OnErr, IfOk}
use Rattle.sg_base.specs.Ends.{HasRisen}
use Rattle.sg_base.specs.Sheet.{Sheet}
use Rattle.sg_ops.specs.Table.{Table}
use Rattle.sg_space.specs.Pages.{Looks}
use Rattle.sg_space.specs.declared.space.SpaceFault.{SpaceFault}
use Rattle.sg_space.specs.declared.space.SpaceFault.TheVariants.{Disk}
use Rattle.sg_action.specs.States.{State}
use Rattle.sg_actions.specs.Engine.{EngineSeen, EngineView, EngineRests, Stays, led}
use Rattle.sg_actions.specs.Images.{Recovering}
use Rattle.sg_actions.proofs.Accounting.{accounted_by, still_full}
use Rattle.sg_actions.proofs.Calling.{LooksBy}
use Rattle.sg_actions.proofs.Led.{Same}
use Rattle.sg_reader.specs.Alike.{ReadsAs}
use Rattle.sg_unread.specs.Unread.{below, filled, said_of, unread_space, unread_view, IsReadable, LooksOn}

looked : {T : Type 0} (e e' : EngineView) (r : Result T SpaceFault) → OnErr r (e'.failed ≡ true) → OnOk r (e.Told → e'.Told) → OnOk r (e.Told → Stays e e') → e.Told → e'.failed ≡ false → e'.Told × Stays e e'
looked e e' (Ok x) bad tells stays told w = (tells told, stays told)
looked e e' (Err x) bad tells stays told w = absurd (let no : true ≡ false = sym bad ∙ w in cc)

-- one look, whether it fails or not
pub looks_once : {T : Type 0} {recovers : Table → Recovering} {t : Table} {e e' : EngineSeen} {m m' : Table → State → Type 0} {r : Result T SpaceFault} → LooksBy recovers t e e' m m' r → LooksOn recovers t e e' m m'
looks_once {T} {recovers} {t} {e} {e'} {m} {m'} {r} h = record {
  told = h.rests.counts.told;
  base = h.rests.counts.base;
  tail = h.rests.tail;
  records = h.rests.records;
  faults = h.rests.counts.later;
  extent = h.rests.counts.extent;
  full = still_full e e' r h.rests.only_disk h.rests.counts;
  accounts = accounted_by e e' r h.whole h.full h.rests.counts;
  stops = h.rests.counts.stops;
  means = h.keeps;
  reads = λ from s told. record {
    moments = (h.looks from s).moments told;
    told = λ w. (looked (led from e) (led from e') r h.rests.counts.failed h.rests.counts.tells (h.looks from s).stays told w).0;
    stays = λ w. (looked (led from e) (led from e') r h.rests.counts.failed h.rests.counts.tells (h.looks from s).stays told w).1;
  };
}

-- what its records mean
pub by_looks : {recovers : Table → Recovering} {t : Table} {e e' : EngineSeen} {m m' : Table → State → Type 0} → LooksOn recovers t e e' m m' → ∥ ((from : State) × m t from) ∥₁ → ∥ ((from : State) × m' t from) ∥₁
by_looks l h = ∥∥₁_elim h ∥∥₁_prop (λ x. ∣ (x.0, l.means x.0 x.1) ∣₁)

-- WHAT IT READS AS stays, behind looks and before them
pub readable_back : {e e' : EngineSeen} {pages bands : ℕ} → (e'.Told → e.Told) → (e.Told → e'.Told → Same e e') → IsReadable e' pages bands → IsReadable e pages bands
readable_back {e} {e'} {pages} {bands} back same w =
    let told = back w.told in
    record { told = told; contents = w.contents; reads = subst (λ (x : State). ReadsAs pages bands x w.contents) (same told w.told).now w.reads }

pub readable_on : {e e' : EngineSeen} {pages bands : ℕ} → (e.Told → e'.Told) → (e.Told → e'.Told → Same e e') → IsReadable e pages bands → IsReadable e' pages bands
readable_on {e} {e'} {pages} {bands} on same w =
    let told = on w.told in
    record { told = told; contents = w.contents; reads = subst (λ (x : State). ReadsAs pages bands x w.contents) (sym (same w.told told).now) w.reads }

-- A LOOK that succeeds
pub looks_ok : {T U : Type 0} (e e' : EngineSeen) (blank : Sheet) (pages bands breaks : ℕ) (L M : Type 0) (x : T) (y : U) → EngineRests e e' (let r : Result T SpaceFault = Ok x in r) → (e.Told → e'.Told → Same e e') → L → M
    → Looks (unread_view e blank pages bands breaks) (unread_view e' blank pages bands breaks) L M (let r : Result U SpaceFault = Ok y in r)
looks_ok e e' blank pages bands breaks L M x y h same later means = record {
  counts = record { told = readable_back h.counts.told same; later = let l = h.counts.later in omega (arith, l); quiet = ap (λ (n : ℕ). n + breaks) h.counts.quiet; disk = tt; log_end = tt };
  writes = record { only_disk = tt; records = h.records };
  kept = record {
    keeps = record { told = readable_on h.counts.tells same; may_take = λ w. w; may_have = λ p n w. w };
    shows = h.counts.tells;
    same = λ told j. unread_space blank ((same told (h.counts.tells told)).now j) pages bands;
    wrote = λ b w. w;
    still = λ w. w;
  };
  later = later;
  means = means;
}

looks_err : {T U : Type 0} (e e' : EngineSeen) (blank : Sheet) (pages bands breaks : ℕ) (L M : Type 0) (f : SpaceFault) → EngineRests {T = T} e e' (Err f) → (e'.Told → e'.failed ≡ false) → L → M
    → Looks {T = U} (unread_view e blank pages bands breaks) (unread_view e' blank pages bands breaks) L M (Err f)
looks_err {T} {U} e e' blank pages bands breaks L M f h whole later means = record {
  counts = record {
    told = λ w. absurd (let no : true ≡ false = sym h.counts.failed ∙ whole w.told in cc);
    later = let l = h.counts.later in omega (arith, l);
    quiet = tt;
    disk = λ d few. let r : e.faults < e'.faults = h.counts.disk d (omega (arith, few)) in omega (arith, r);
    log_end = λ z. tt;
  };
  writes = record { only_disk = h.only_disk; records = h.records };
  kept = tt;
  later = later;
  means = means;
}

-- and one that fails
pub looks_err_is : {T U : Type 0} (e e' : EngineSeen) (blank : Sheet) (pages bands breaks : ℕ) (L M : Type 0) (r : Result U SpaceFault) (f h : SpaceFault) → r ≡ Err h → h ≡ f → EngineRests {T = T} e e' (Err f) → (e'.Told → e'.failed ≡ false) → L → M
    → Looks {T = U} (unread_view e blank pages bands breaks) (unread_view e' blank pages bands breaks) L M r
looks_err_is {T} {U} e e' blank pages bands breaks L M r f h is same l whole later means =
    subst (λ (q : Result U SpaceFault). Looks {T = U} (unread_view e blank pages bands breaks) (unread_view e' blank pages bands breaks) L M q) (sym is)
    (looks_err {T = T} {U = U} e e' blank pages bands breaks L M h (subst (λ (x : SpaceFault). EngineRests {T = T} e e' (Err x)) (sym same) l) whole later means)

-- one that breaks at once
pub breaks_at_once : {U : Type 0} (e : EngineSeen) (blank : Sheet) (pages bands breaks breaks' : ℕ) (L M : Type 0) (f : SpaceFault) → f ≡ Disk → breaks ≤ breaks' → HasRisen breaks breaks' → L → M
    → Looks {T = U} (unread_view e blank pages bands breaks) (unread_view e blank pages bands breaks') L M (Err f)
breaks_at_once {U} e blank pages bands breaks breaks' L M f is more risen later means = record {
  counts = record {
    told = λ w. w;
    later = omega (arith, more);
    quiet = tt;
    disk = λ d few. let r : breaks < breaks' = risen (omega (arith, few)) in omega (arith, r);
    log_end = λ z. tt;
  };
  writes = record { only_disk = is; records = refl };
  kept = tt;
  later = later;
  means = means;
}

pub none_looked : {U : Type 0} (P : U → Type 0) (r : Result U SpaceFault) (h : SpaceFault) → r ≡ Err h → IfOk r P
none_looked P (Ok x) h is = absurd cc
none_looked P (Err y) h is = tt

lt_true : (a b : ℕ) → a < b → nat_lt a b ≡ true
lt_true a b lt = grind (arith, nat_tests)

here : {A : Type 0} (b : Bool) (x y : A) → b ≡ true → cond b x y ≡ x
here true x y is = refl
here false x y is = absurd cc

-- one with a number below
pub is_below : {A : Type 0} (p count : ℕ) (contents : ℕ → Option A) → p < count → below count contents p ≡ contents p
is_below p count contents lt = here (nat_lt p count) (contents p) None (lt_true p count lt)

-- and none behind the last
not_here : {A : Type 0} (b : Bool) (o : Option A) → b ≡ false → Rattle.std.proofs.Common.IsSome (cond b o None) → ⊥
not_here true o e h = absurd cc
not_here false o e h = absurd cc

lt_false : (a b : ℕ) → b ≤ a → nat_lt a b ≡ false
lt_false a b le = grind (arith, nat_tests)

pub none_behind : {A : Type 0} (p count : ℕ) (contents : ℕ → Option A) → count ≤ p → Rattle.std.proofs.Common.IsSome (below count contents p) → ⊥
none_behind p count contents beyond = not_here (nat_lt p count) (contents p) (lt_false p count beyond)

-- a page that says nothing is shown as a blank one
blank_said : (blank : Sheet) (o : Option Sheet) → o ≡ None → said_of blank o ≡ blank
blank_said blank None e = refl
blank_said blank (Some x) e = absurd cc

pub blank_filled : (blank : Sheet) (now : State) (p : ℕ) → now.pages p ≡ None → filled blank now p ≡ Some blank
blank_filled blank now p e = ap (λ (x : Sheet). Some x) (blank_said blank (now.pages p) e)

some_said : (blank : Sheet) (o : Option Sheet) (sheet : Sheet) → o ≡ Some sheet → said_of blank o ≡ sheet
some_said blank None sheet e = absurd cc
some_said blank (Some x) sheet e = cc

pub sheet_filled : (blank : Sheet) (now : State) (p : ℕ) (sheet : Sheet) → now.pages p ≡ Some sheet → filled blank now p ≡ Some sheet
sheet_filled blank now p sheet e = ap (λ (x : Sheet). Some x) (some_said blank (now.pages p) sheet e)

pub is_nothing : {A : Type 0} (o : Option A) → false ≡ Rattle.std.specs.Prelude.is_some o → o ≡ None
is_nothing None e = refl
is_nothing (Some x) e = absurd cc
