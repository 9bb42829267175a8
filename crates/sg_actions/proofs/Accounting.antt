-- How a run of calls accounts for the disk.
use Rattle.std.proofs.Common.{◌≡◌, ℕ, ◌<◌, ◌≤◌, inl, inr, List, length, Bool, true, false, sym, ap, subst, ◌∙◌, refl, arith, Ok, Err}
use Rattle.std.specs.Prelude.{Result, IfErr}
use Rattle.sg_disk.specs.Accounts.{Accounts, IsShownEnd}
use Rattle.sg_disk.specs.Disk.{View}
use Rattle.sg_space.specs.declared.space.SpaceFault.{SpaceFault}
use Rattle.sg_space.specs.declared.space.SpaceFault.TheVariants.{Disk, LogEnd}
use Rattle.sg_actions.specs.Accounted.{HasAccounted}
use Rattle.sg_actions.specs.Engine.{EngineSeen, EngineCounts, Extent}
use Rattle.sg_actions.specs.Taken.{IsWithin}

-- the disk's own count is as it was, and the log's end moved by what was handed over
pub record KeepsCount (v w : View) (gate gate' : ℕ) : Type 0 where
  pub faults : w.faults ≡ v.faults
  pub handed : v.handed ≤ w.handed
  pub shown : IsShownEnd v w gate gate'

pub count_none : (v : View) (gate : ℕ) → KeepsCount v v gate gate
count_none v gate = record { faults = refl; handed = omega arith; shown = inr (omega arith) }

pub count_ok : {T E : Type 0} {IsDisk : E → Type 0} {Told : Type 0} {v w : View} {i j : ℕ} {x : T} → Accounts IsDisk Told v w i j (let r : Result T E = Ok x in r) → KeepsCount v w i j
count_ok k = record { faults = k.heeded; handed = k.handed; shown = k.shown }

shown_on : (u v w : View) (i j k : ℕ) → v.handed ≤ w.handed → IsShownEnd u v i j → IsShownEnd v w j k → IsShownEnd u w i k
shown_on u v w i j k le (inl full) q = inl (omega (arith, full, le))
shown_on u v w i j k le (inr p) (inl full) = inl full
shown_on u v w i j k le (inr p) (inr q) = inr (omega (arith, p, q))

pub count_then : {u v w : View} {i j k : ℕ} → KeepsCount u v i j → KeepsCount v w j k → KeepsCount u w i k
count_then {u} {v} {w} {i} {j} {k} f g = record {
  faults = g.faults ∙ f.faults;
  handed = let x = f.handed in let y = g.handed in omega (arith, x, y);
  shown = shown_on u v w i j k g.handed f.shown g.shown;
}

-- of a call that ends well,
pub accounts_ok : {T E : Type 0} {IsDisk : E → Type 0} {Told : Type 0} {v w : View} {i j : ℕ} (x : T) → KeepsCount v w i j → Accounts IsDisk Told v w i j (let r : Result T E = Ok x in r)
accounts_ok {T} {E} {IsDisk} {Told} {v} {w} x k = record { later = let e = k.faults in omega (arith, e); heeded = k.faults; caused = tt; handed = k.handed; shown = k.shown }

-- of one that fails behind others,
pub accounts_err : {T U E : Type 0} {IsDisk : E → Type 0} {Told Told' : Type 0} {u v w : View} {i j k : ℕ} {f : E} → (Told → Told') → KeepsCount u v i j → Accounts IsDisk Told' v w j k (let r : Result T E = Err f in r)
    → Accounts IsDisk Told u w i k (let r : Result U E = Err f in r)
accounts_err {T} {U} {E} {IsDisk} {Told} {Told'} {u} {v} {w} {i} {j} {k} {f} tells s h = record {
  later = let e = s.faults in let l = h.later in omega (arith, e, l);
  heeded = λ n. h.heeded n ∙ s.faults;
  caused = λ d t few. let e = s.faults in let r : v.faults < w.faults = h.caused d (tells t) few in omega (arith, r, e);
  handed = let x = s.handed in let y = h.handed in omega (arith, x, y);
  shown = shown_on u v w i j k h.handed s.shown h.shown;
}

-- and of a break, which is counted over an engine that doesn't tell
pub accounts_break : {T E : Type 0} {IsDisk : E → Type 0} {Told : Type 0} {v w : View} {i j : ℕ} {f : E} → (Told → ⊥) → KeepsCount v w i j → Accounts IsDisk Told v w i j (let r : Result T E = Err f in r)
accounts_break {T} {E} {IsDisk} {Told} {v} {w} never k = record {
  later = let e = k.faults in omega (arith, e);
  heeded = λ n. k.faults;
  caused = λ d t. absurd (never t);
  handed = k.handed;
  shown = k.shown;
}

no : {P : Type 0} (b : Bool) → b ≡ true → b ≡ false → P
no b t f = absurd cc

-- ONE CALL OF THE ENGINE
pub accounted_by : {T : Type 0} (e e' : EngineSeen) (r : Result T SpaceFault) → (e'.Told → e'.failed ≡ false) → (e.full ≡ true → e.failed ≡ true) → EngineCounts e e' r → HasAccounted e e'
accounted_by e e' (Ok x) whole full k = record {
  stays = λ f. (k.stops f).0;
  first = k.first;
  tells = λ t f. k.tells t;
  near = λ f. inl (sym k.full ∙ f);
  faults = k.accounts.later;
  heeded = λ f. k.accounts.heeded;
  caused = λ t f n. no e'.failed f (whole (k.tells t));
  handed = k.accounts.handed;
  shown = k.accounts.shown;
}
accounted_by e e' (Err Disk) whole full k = record {
  stays = λ f. (k.stops f).0;
  first = k.first;
  tells = λ t f. no e'.failed k.failed f;
  near = λ f. inl (sym (k.for_disk refl) ∙ f);
  faults = k.accounts.later;
  heeded = λ f. ap (λ (v : View). v.faults) (k.stops (full (sym (k.for_disk refl) ∙ f k.failed))).1;
  caused = λ t f n. k.accounts.caused refl t;
  handed = k.accounts.handed;
  shown = k.accounts.shown;
}
accounted_by e e' (Err LogEnd) whole full k = record {
  stays = λ f. (k.stops f).0;
  first = k.first;
  tells = λ t f. no e'.failed k.failed f;
  near = λ f. inr (let n = k.log_end refl in let t = k.tail in omega (arith, n, t));
  faults = k.accounts.later;
  heeded = λ f. k.accounts.heeded (λ d. let e : LogEnd ≡ Disk = d in cc);
  caused = λ t f n. no e'.full (k.for_end refl) n;
  handed = k.accounts.handed;
  shown = k.accounts.shown;
}

-- one that answers no more than that the disk failed isn't refused for the log's end
pub still_full : {T : Type 0} (e e' : EngineSeen) (r : Result T SpaceFault) → IfErr r (λ f. f ≡ Disk) → EngineCounts e e' r → e'.full ≡ e.full
still_full e e' (Ok x) only k = k.full
still_full e e' (Err f) only k = k.for_disk only

-- THERE ARE NO MORE FLAGS than pages and bands, behind a call of the engine
pub within_by : {T : Type 0} {pages bands : List Bool} {e e' : EngineSeen} {r : Result T SpaceFault} → EngineCounts e e' r → (e.Told → IsWithin pages bands e.extent) → e'.Told → IsWithin pages bands e'.extent
within_by {T} {pages} {bands} {e} {e'} {r} k h told = subst (λ (x : Extent). IsWithin pages bands x) (sym k.extent) (h (k.told told))

-- and by flags of the same number
pub within_as : {pages bands pages' bands' : List Bool} {x : Extent} → length pages' ≡ length pages → length bands' ≡ length bands → IsWithin pages bands x → IsWithin pages' bands' x
within_as {pages} {bands} {pages'} {bands'} {x} e f h = record { pages = let p = h.pages in omega (arith, p, e); bands = let b = h.bands in omega (arith, b, f) }
