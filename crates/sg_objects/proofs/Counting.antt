-- What calls one after another come to: how often the space failed, and how many records they wrote.
use Rattle.std.proofs.Common.{◌≡◌, ℕ, ◌+◌, ◌≤◌, Result, Ok, Err, OnOk, IfOk, IfErr, sym, ◌∙◌, subst, arith}
use Rattle.std.specs.Prelude.{IsErrAnd}
use Rattle.std.proofs.lemmas.Result.{err_from_is_err_and}
use Rattle.sg_base.specs.Ends.{HasRisen}
use Rattle.sg_space.specs.View.{View, Counts}
use Rattle.sg_space.specs.declared.space.SpaceFault.{SpaceFault}
use Rattle.sg_space.specs.declared.space.SpaceFault.TheVariants.{Disk, LogEnd}
use Rattle.sg_objects.specs.Quiet.{most_records, most_freed}

-- CALLS THAT WENT WELL, one after another
pub record Went (old new : View) : Type 0 where
  pub told : new.Told → old.Told
  pub faults : new.faults ≡ old.faults

pub went : {T : Type 0} {old new : View} {x : T} → Counts old new (Ok x) → Went old new
went k = record { told = k.told; faults = k.quiet }

pub went_then : {old mid new : View} → Went old mid → Went mid new → Went old new
went_then a b = record { told = λ t. a.told (b.told t); faults = b.faults ∙ a.faults }

-- and then none
pub counts_ok : {T : Type 0} {old new : View} (x : T) → Went old new → Counts old new (Ok x)
counts_ok x w = record {
  told = w.told;
  later = let e = w.faults in omega (arith, e);
  quiet = w.faults;
  disk = tt;
  log_end = tt;
}

-- or another one
pub counts_then : {T : Type 0} {old mid new : View} {r : Result T SpaceFault} → Went old mid → Counts mid new r → Counts old new r
counts_then {new = new} {r = r} w k = record {
  told = λ t. w.told (k.told t);
  later = subst (λ (n : ℕ). n ≤ new.faults) w.faults k.later;
  quiet = subst (λ (n : ℕ). OnOk r (new.faults ≡ n)) w.faults k.quiet;
  disk = subst (λ (n : ℕ). IfErr r (λ e. e ≡ Disk → HasRisen n new.faults)) w.faults k.disk;
  log_end = k.log_end;
}

-- that fails, and its failure is handed on
pub counts_err : {T U : Type 0} {old new : View} (r : Result U SpaceFault) (f e : SpaceFault) → r ≡ Err e → e ≡ f
    → Counts {T = T} old new (Err f) → Counts {T = U} old new r
counts_err {T} {U} {old} {new} r f e is same k =
    subst (λ (q : Result U SpaceFault). Counts {T = U} old new q) (sym is) (subst (λ (x : SpaceFault). Counts {T = U} old new (Err x)) (sym same) failed)
  where
    failed : Counts {T = U} old new (Err f)
    failed = record { told = k.told; later = k.later; quiet = tt; disk = k.disk; log_end = k.log_end }

-- which leaves no result of which anything is said
pub no_ok : {T : Type 0} (P : T → Type 0) (r : Result T SpaceFault) (e : SpaceFault) → r ≡ Err e → IfOk r P
no_ok {T} P r e is = subst (λ (q : Result T SpaceFault). IfOk q P) (sym is) tt

-- both of a result that hands a call's failure on
pub no_ok_handed : {T : Type 0} (f : SpaceFault) (P : T → Type 0) (r : Result T SpaceFault) → IsErrAnd r (λ e. e ≡ f) → IfOk r P
no_ok_handed f P r handed = let p = err_from_is_err_and r handed in no_ok P r p.0 p.1

pub counts_handed : {T U : Type 0} {old new : View} (r : Result U SpaceFault) (f : SpaceFault) → IsErrAnd r (λ e. e ≡ f)
    → Counts {T = T} old new (Err f) → Counts {T = U} old new r
counts_handed r f handed k = let p = err_from_is_err_and r handed in counts_err r f p.0 p.1 p.2 k

-- or a report that what was read can't be
pub counts_broken : {T : Type 0} {old new : View} (f : SpaceFault) → f ≡ Disk → (new.Told → old.Told) → HasRisen old.faults new.faults
    → old.faults ≤ new.faults → Counts {T = T} old new (Err f)
counts_broken f disk told risen rising = record {
  told = told;
  later = rising;
  quiet = tt;
  disk = λ e. risen;
  log_end = λ e. absurd (let z : Disk ≡ LogEnd = sym disk ∙ e in cc);
}

-- AT MOST SO MANY RECORDS, and so at most as many as these
pub few_by : (old new : View) (n m : ℕ) → n ≤ m → new.records ≤ old.records + n → new.records ≤ old.records + m
few_by old new n m le few = omega (arith, le, few)

-- where none was written
pub few_none : (old new : View) (m : ℕ) → new.records ≡ old.records → new.records ≤ old.records + m
few_none old new m none = omega (arith, none)

-- one call after another
pub few_then : (old mid new : View) (n m : ℕ) → mid.records ≤ old.records + n → new.records ≤ mid.records + m → new.records ≤ old.records + (n + m)
few_then old mid new n m few more = omega (arith, few, more)

pub few_from : (old mid new : View) (m : ℕ) → mid.records ≡ old.records → new.records ≤ mid.records + m → new.records ≤ old.records + m
few_from old mid new m none few = omega (arith, none, few)

-- what undoes a note with a freeing writes most
pub one_freed : 1 ≤ most_freed
one_freed = omega arith

pub two_freed : 2 ≤ most_freed
two_freed = omega arith

pub four_freed : 4 ≤ most_freed
four_freed = omega arith

pub eight_freed : 8 ≤ most_freed
eight_freed = omega arith

-- and a put that splits a bucket writes most of what verbs write
pub one_most : 1 ≤ most_records
one_most = omega arith

pub two_most : 2 ≤ most_records
two_most = omega arith

pub four_most : 4 ≤ most_records
four_most = omega arith

pub eight_most : 8 ≤ most_records
eight_most = omega arith

pub table_most : 22 ≤ most_records
table_most = omega arith

pub paint_most : 2002 ≤ most_records
paint_most = omega arith

pub write_most : 5003 ≤ most_records
write_most = omega arith
