-- No fault of the disk is passed over.
use Rattle.std.proofs.Common.{◌≡◌, ◌⊎◌, ℕ, inl, inr, ⊎_elim, ◌≤◌, Option, Some, None, refl, sym, ◌∙◌, subst, arith}
use Rattle.std.specs.Prelude.{Err, false, is_some, IsSome}
use Rattle.sg_base.specs.Ends.{HasRisen}
use Rattle.sg_model.specs.declared.stop.Stop.{Stop}
use Rattle.sg_model.specs.declared.stop.Stop.TheVariants as stops
use Rattle.sg_space.specs.declared.space.SpaceFault.{SpaceFault}
use Rattle.sg_space.specs.declared.space.SpaceFault.TheVariants as spaces
use Rattle.sg_store.specs.Ground.{Ground}
use Rattle.sg_store.specs.Engine.{Sizes, Shown, IsDiskFault}
use Rattle.sg_store.specs.Stops.{stop_at, refused_at, stop_behind}
use Rattle.sg_store.specs.Heeds.{Heeds}
use Rattle.sg_store.specs.Accounting.{AccountsFor, Unfailed}
use Rattle.sg_store.proofs.Accounting.{shown_both}

-- a store that hasn't stopped
pub not_stopped : {A : Type 0} (s : Option Stop) → is_some s ≡ false → IsSome s → A
not_stopped None e some = absurd (cc)
not_stopped (Some why) e some = absurd (cc)

down : (why : Stop) → Some why ≡ None → ⊥
down why e = cc

-- the count rose, of a part of the calls
pub risen_on : (a b c d : ℕ) → a ≤ b → b ≤ c → c ≤ d → HasRisen b c → HasRisen a d
risen_on a b c d ab bc cd h last = (let lt = h (omega (arith, cd, last)) in omega (arith, ab, cd, lt))

pub stop_at_behind : (s : Option Stop) (f : SpaceFault) → ◌≡◌ {A = Option Stop} (Some (stop_at f)) (stop_behind s (Err (refused_at f)))
stop_at_behind s spaces.Disk = refl
stop_at_behind s spaces.LogEnd = refl

-- the part of a call that stopped a store that stops for the disk
middle : (r q : Option Stop) → ((why : Stop) → r ≡ Some why → q ≡ Some why) → q ≡ Some stops.Disk → (r ≡ None) ⊎ (r ≡ Some stops.Disk)
middle None q stays e = inl refl
middle (Some why) q stays e = inr (sym (stays why refl) ∙ e)

module _ {basis : Sizes → Ground} where
  -- no call was made
  pub heeds_none : (s : Option Stop) (v : Shown basis) → Heeds s s v v
  heeds_none s v = record {
    later = omega arith;
    tail = omega arith;
    tells = λ e h. h;
    stays = λ why e. e;
    quiet = λ e. (e, refl);
    heeded = λ not. refl;
    risen = λ e. inl e;
    caused = λ e. inl e;
    disk_later = omega arith;
    handed = omega arith;
    shown = inr (omega arith);
  }

  -- calls were made that didn't fail
  pub heeds_well : (s : Option Stop) (v w : Shown basis) → w.faults ≡ v.faults → v.tail ≤ w.tail → (v.Told → w.Told) → Unfailed v w → Heeds s s v w
  heeds_well s v w quiet tail tells k = record {
    later = omega (arith, quiet);
    tail = tail;
    tells = λ e. tells;
    stays = λ why e. e;
    quiet = λ e. (e, quiet);
    heeded = λ not. k.faults;
    risen = λ e. inl e;
    caused = λ e. inl e;
    disk_later = (let f = k.faults in omega (arith, f));
    handed = k.handed;
    shown = k.shown;
  }

  -- one has failed, and the store stops
  pub heeds_fault : {T : Type 0} (s : Option Stop) (f : SpaceFault) (v w : Shown basis) → s ≡ None → v.faults ≤ w.faults → v.tail ≤ w.tail → (IsDiskFault f → HasRisen v.faults w.faults)
      → AccountsFor {T = T} IsDiskFault v w (Err f) → Heeds s (Some (stop_at f)) v w
  heeds_fault s spaces.Disk v w none later tail risen a = record {
    later = later;
    tail = tail;
    tells = λ e. absurd (down stops.Disk e);
    stays = λ why e. absurd (down why (sym e ∙ none));
    quiet = λ e. absurd (down stops.Disk e);
    heeded = λ not. absurd (not refl);
    risen = λ e. inr (risen tt);
    caused = λ e. inr (λ told. a.caused tt told);
    disk_later = a.later;
    handed = a.handed;
    shown = a.shown;
  }
  heeds_fault s spaces.LogEnd v w none later tail risen a = record {
    later = later;
    tail = tail;
    tells = λ e. absurd (down stops.LogEnd e);
    stays = λ why e. absurd (down why (sym e ∙ none));
    quiet = λ e. absurd (down stops.LogEnd e);
    heeded = λ not. a.heeded (λ is. is);
    risen = λ e. absurd (other e);
    caused = λ e. absurd (other e);
    disk_later = a.later;
    handed = a.handed;
    shown = a.shown;
  }
    where
      other : Some stops.LogEnd ≡ Some stops.Disk → ⊥
      other e = cc

  -- and nothing else has changed
  pub heeds_halt : {E T : Type 0} (view : E → Shown basis) (s now : Option Stop) (f : SpaceFault) (v : Shown basis) (a b : E) → b ≡ a → now ≡ Some (stop_at f) → s ≡ None
      → v.faults ≤ (view a).faults → v.tail ≤ (view a).tail → (IsDiskFault f → HasRisen v.faults (view a).faults)
      → AccountsFor {T = T} IsDiskFault v (view a) (Err f) → Heeds s now v (view b)
  heeds_halt view s now f v a b same is none later tail risen acc =
      subst (λ e. Heeds s now v (view e)) (sym same) (subst (λ n. Heeds s n v (view a)) (sym is) (heeds_fault s f v (view a) none later tail risen acc))

  -- a transaction is no more
  pub heeds_kept : {E : Type 0} (view : E → Shown basis) (s now : Option Stop) (v : Shown basis) (a b : E) → b ≡ a → now ≡ s
      → (view a).faults ≡ v.faults → v.tail ≤ (view a).tail → (v.Told → (view a).Told) → Unfailed v (view a) → Heeds s now v (view b)
  heeds_kept view s now v a b same is quiet tail tells k =
      subst (λ e. Heeds s now v (view e)) (sym same) (subst (λ n. Heeds s n v (view a)) (sym is) (heeds_well s v (view a) quiet tail tells k))

  -- a call, and then another
  pub heeds_then : (s r q : Option Stop) (u v w : Shown basis) → Heeds s r u v → Heeds r q v w → Heeds s q u w
  heeds_then s r q u v w h k = record {
    later = omega (arith, h.later, k.later);
    tail = omega (arith, h.tail, k.tail);
    tells = λ e told. k.tells e (h.tells (k.quiet e).0 told);
    stays = λ why e. k.stays why (h.stays why e);
    quiet = λ e. (let p = k.quiet e in let o = h.quiet p.0 in (o.0, p.1 ∙ o.1));
    heeded = λ not. k.heeded not ∙ h.heeded (λ was. not (k.stays stops.Disk was));
    risen = λ e. ⊎_elim (λ (is : r ≡ Some stops.Disk). ⊎_elim (λ was. inl was) (λ rose. inr (risen_on u.faults u.faults v.faults w.faults (omega arith) h.later k.later rose)) (h.risen is))
        (λ rose. inr (risen_on u.faults v.faults w.faults w.faults h.later k.later (omega arith) rose)) (k.risen e);
    caused = λ e. ⊎_elim (λ (is : r ≡ Some stops.Disk). first is) (λ rose. ⊎_elim (λ (none : r ≡ None). inr (λ told. last (rose (h.tells none told)))) (λ is. first is) (middle r q k.stays e)) (k.caused e);
    disk_later = omega (arith, h.disk_later, k.disk_later);
    handed = omega (arith, h.handed, k.handed);
    shown = shown_both u.disk.handed v.disk.handed w.disk.handed u.gate v.gate w.gate h.shown k.shown k.handed;
  }
    where
      first : r ≡ Some stops.Disk → (s ≡ Some stops.Disk) ⊎ (u.Told → HasRisen u.disk.faults w.disk.faults)
      first is = ⊎_elim (λ was. inl was) (λ rose. inr (λ told. risen_on u.disk.faults u.disk.faults v.disk.faults w.disk.faults (omega arith) h.disk_later k.disk_later (rose told))) (h.caused is)

      last : HasRisen v.disk.faults w.disk.faults → HasRisen u.disk.faults w.disk.faults
      last rose = risen_on u.disk.faults v.disk.faults w.disk.faults w.disk.faults h.disk_later k.disk_later (omega arith) rose
