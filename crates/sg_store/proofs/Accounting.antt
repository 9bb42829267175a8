-- Calls account for the disk's own counts, one behind another.
use Rattle.std.proofs.Common.{◌≡◌, ◌⊎◌, ℕ, inl, inr, ◌+◌, ◌≤◌, Result, Ok, Err, refl, ◌∙◌, ap, arith}
use Rattle.sg_base.specs.Ends.{HasRisen}
use Rattle.sg_disk.specs.Disk.{FULL, View}
use Rattle.sg_store.specs.Ground.{Ground}
use Rattle.sg_store.specs.Engine.{Sizes, Shown}
use Rattle.sg_store.specs.Accounting.{AccountsFor, Unfailed}

-- the log's end is shown by the bytes of two calls
pub shown_both : (a b c x y z : ℕ) → (FULL ≤ b) ⊎ (y + a ≤ x + b) → (FULL ≤ c) ⊎ (z + b ≤ y + c) → b ≤ c → (FULL ≤ c) ⊎ (z + a ≤ x + c)
shown_both a b c x y z (inl full) k le = inl (omega (arith, full, le))
shown_both a b c x y z (inr h) (inl full) le = inl full
shown_both a b c x y z (inr h) (inr k) le = inr (omega (arith, h, k))

-- the count rose, of a part of the calls
risen_behind : (a b c : ℕ) → b ≡ a → HasRisen b c → HasRisen a c
risen_behind a b c e h last = (let lt = h last in omega (arith, lt, e))

module _ {basis : Sizes → Ground} where
  -- a call that doesn't come to the disk
  pub unasked : (v w : Shown basis) → w.disk ≡ v.disk → w.gate ≡ v.gate → Unfailed v w
  unasked v w d g =
      let h : w.disk.handed ≡ v.disk.handed = ap (λ (u : View). u.handed) d in
      record {
        faults = ap (λ (u : View). u.faults) d;
        handed = omega (arith, h);
        shown = inr (omega (arith, h, g));
      }

  pub unfailed_none : (v : Shown basis) → Unfailed v v
  unfailed_none v = unasked v v refl refl

  pub unfailed_both : (u v w : Shown basis) → Unfailed u v → Unfailed v w → Unfailed u w
  unfailed_both u v w h k = record {
    faults = k.faults ∙ h.faults;
    handed = omega (arith, h.handed, k.handed);
    shown = shown_both u.disk.handed v.disk.handed w.disk.handed u.gate v.gate w.gate h.shown k.shown k.handed;
  }

  -- a call that was done
  pub unfailed_done : {T E : Type 0} {IsDisk : E → Type 0} (v w : Shown basis) (x : T) → AccountsFor IsDisk v w (Ok x) → Unfailed v w
  unfailed_done v w x a = record { faults = a.heeded; handed = a.handed; shown = a.shown }

  -- one that was refused for what is no fault of the disk
  pub unfailed_refused : {T E : Type 0} {IsDisk : E → Type 0} (v w : Shown basis) (e : E) → (IsDisk e → ⊥) → AccountsFor {T = T} IsDisk v w (Err e) → Unfailed v w
  unfailed_refused v w e other a = record { faults = a.heeded other; handed = a.handed; shown = a.shown }

  pub accounts_done : {T E : Type 0} {IsDisk : E → Type 0} (v w : Shown basis) (x : T) → Unfailed v w → AccountsFor IsDisk v w (Ok x)
  accounts_done v w x k = record { later = (let f = k.faults in omega (arith, f)); heeded = k.faults; caused = tt; handed = k.handed; shown = k.shown }

  pub accounts_refused : {T E : Type 0} {IsDisk : E → Type 0} (v w : Shown basis) (e : E) → (IsDisk e → ⊥) → Unfailed v w → AccountsFor {T = T} IsDisk v w (Err e)
  accounts_refused v w e other k = record { later = (let f = k.faults in omega (arith, f)); heeded = λ not. k.faults; caused = λ is told. absurd (other is); handed = k.handed; shown = k.shown }

  -- one that failed, behind some that didn't
  pub accounts_failed : {A B E F : Type 0} {IsDisk : E → Type 0} {IsOther : F → Type 0} (u v w : Shown basis) (e : E) (f : F) → (IsDisk e → IsOther f) → (IsOther f → IsDisk e)
      → Unfailed u v → (u.Told → v.Told) → AccountsFor {T = A} IsDisk v w (Err e) → AccountsFor {T = B} IsOther u w (Err f)
  accounts_failed u v w e f to back h tells a =
      let same = h.faults in
      record {
        later = (let l = a.later in omega (arith, same, l));
        heeded = λ not. a.heeded (λ is. not (to is)) ∙ same;
        caused = λ is told. risen_behind u.disk.faults v.disk.faults w.disk.faults same (a.caused (back is) (tells told));
        handed = omega (arith, h.handed, a.handed);
        shown = shown_both u.disk.handed v.disk.handed w.disk.handed u.gate v.gate w.gate h.shown a.shown a.handed;
      }

  -- the same of one kind of fault
  pub accounts_then : {A B E : Type 0} {IsDisk : E → Type 0} (u v w : Shown basis) (e : E) → Unfailed u v → (u.Told → v.Told) → AccountsFor {T = A} IsDisk v w (Err e) → AccountsFor {T = B} IsDisk u w (Err e)
  accounts_then u v w e h tells a = accounts_failed u v w e e (λ is. is) (λ is. is) h tells a

  -- some calls, and then one, whatever that came to
  pub accounts_behind : {T E : Type 0} {IsDisk : E → Type 0} (u v w : Shown basis) (r : Result T E) → Unfailed u v → (u.Told → v.Told) → AccountsFor IsDisk v w r → AccountsFor IsDisk u w r
  accounts_behind u v w (Ok x) h tells a = accounts_done u w x (unfailed_both u v w h (unfailed_done v w x a))
  accounts_behind u v w (Err e) h tells a = accounts_then u v w e h tells a

  -- what was read can't be, in an engine that doesn't tell
  pub accounts_broken : {T E : Type 0} {IsDisk : E → Type 0} (u w : Shown basis) (e : E) → IsDisk e → (u.Told → ⊥) → Unfailed u w → AccountsFor {T = T} IsDisk u w (Err e)
  accounts_broken u w e is untold k = record {
    later = (let f = k.faults in omega (arith, f));
    heeded = λ not. absurd (not is);
    caused = λ d told. absurd (untold told);
    handed = k.handed;
    shown = k.shown;
  }
