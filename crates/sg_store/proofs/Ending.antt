-- A verb behind the test of the tail never comes to the log's end.
use Rattle.std.proofs.Common.{◌≡◌, ℕ, ◌+◌, ◌<◌, ◌≤◌, Bool, true, false, List, [], length, refl, ap, subst, arith}
use Rattle.std.specs.Prelude.{◌==◌, ◌^◌, Result, Err}
use Rattle.sg_space.specs.declared.space.SpaceFault.{SpaceFault}
use Rattle.sg_space.specs.declared.space.SpaceFault.TheVariants as spaces
use Rattle.sg_store.specs.declared.fault.ObjFault.{ObjFault}
use Rattle.sg_store.specs.declared.fault.ObjFault.TheVariants as faults
use Rattle.sg_store.specs.declared.fault.Refused.{Refused}
use Rattle.sg_store.specs.declared.fault.Refused.TheVariants as refusals
use Rattle.sg_store.specs.Engine.{IsVerbEnd, IsNearEnd, VERB_BYTES}
use Rattle.sg_store.specs.Stops.{refused_at}

never_disk : {T : Type 0} (r : Refused) → r ≡ refusals.DiskFault → ◌≡◌ {A = Result T Refused} (Err r) (Err refusals.LogEnd) → ⊥
never_disk r e h = cc

low_enough : (tail : ℕ) → tail ≤ 2 ^ 62 → 2 ^ 63 < tail + 2 ^ 30 → ⊥
low_enough tail a b = omega (arith, a, b)

-- its changes don't
pub never_verb : {T : Type 0} (tail : ℕ) (changing : Bool) (f : SpaceFault) (o : ObjFault) → o ≡ faults.Space f → (changing ≡ true → tail ≤ 2 ^ 62) → IsVerbEnd changing tail o → (r : Refused) → r ≡ refused_at f → ◌≡◌ {A = Result T Refused} (Err r) (Err refusals.LogEnd) → ⊥
never_verb tail changing spaces.Disk o is low end r e h = never_disk r e h
never_verb tail changing spaces.LogEnd o is low end r e h = let z = subst (λ x. IsVerbEnd changing tail x) is end in low_enough tail (low z.0) z.1

-- nor does its end
pub never_end : {T : Type 0} (tail now : ℕ) (changing : Bool) (note : List ℕ) → (length note == 0) ≡ false → (changing ≡ false → note ≡ []) → (changing ≡ true → tail ≤ 2 ^ 62) → now ≤ tail + VERB_BYTES
    → (f : SpaceFault) → IsNearEnd now f → (r : Refused) → r ≡ refused_at f → ◌≡◌ {A = Result T Refused} (Err r) (Err refusals.LogEnd) → ⊥
never_end tail now changing note some looks low grows spaces.Disk end r e h = never_disk r e h
never_end {T} tail now true note some looks low grows spaces.LogEnd end r e h = far (low refl) grows end
  where
    far : tail ≤ 2 ^ 62 → now ≤ tail + 2 ^ 30 → 2 ^ 63 < now + 131072 → ⊥
    far a b c = omega (arith, a, b, c)
never_end tail now false note some looks low grows spaces.LogEnd end r e h = none (looks refl) some
  where
    none : note ≡ [] → (length note == 0) ≡ false → ⊥
    none a b = absurd (clash (ap (λ (n : List ℕ). length n == 0) a) b)
      where
        clash : (length note == 0) ≡ true → (length note == 0) ≡ false → ⊥
        clash y z = absurd (cc)

-- the log was near its end
abbrev pub IsNear : ℕ → SpaceFault → Type 0
IsNear tail spaces.Disk = Unit {0}
IsNear tail spaces.LogEnd = 2 ^ 63 < tail + 131072

pub near_at : (at tail : ℕ) (f : SpaceFault) → at ≤ tail → IsNearEnd at f → IsNear tail f
near_at at tail spaces.Disk le h = tt
near_at at tail spaces.LogEnd le h = nearer at tail le h
  where
    nearer : (a b : ℕ) → a ≤ b → 2 ^ 63 < a + 131072 → 2 ^ 63 < b + 131072
    nearer a b le h = omega (arith, le, h)
