-- A frame is cleaned, and then gets a page.
use Rattle.std.proofs.Common.{◌≡◌, inl, inr, ⊎_elim, ◌<◌, ◌≤◌, ℕ, Bool, IsTrue, Option, None, Result, Ok, Err, List, length, set, refl, sym, ◌∙◌, ap, subst, arith}
use Rattle.std.specs.Prelude.{OnErr}
use Rattle.sg_base.specs.Ends.{HasRisen}
use Rattle.sg_base.specs.declared.area.Area.{Area}
use Rattle.sg_base.specs.declared.area.Area.TheVariants.{Home}
use Rattle.sg_disk.specs.Disk.{Image, Part, View, Leaves, LeavesOnly}
use Rattle.sg_disk.proofs.Moments.{weaker, joined}
use Rattle.sg_log.specs.Frames.{Numbered}
use Rattle.sg_log.specs.Held.{Tail}
use Rattle.sg_log.proofs.Holding.{holds_along}
use Rattle.sg_gate.specs.Layout.{home_at}
use Rattle.sg_pool.specs.Units.{Geometry, page_at, Units, IsBacked, IsCleaned}
use Rattle.sg_pool.specs.declared.fault.PoolFault.{PoolFault}
use Rattle.sg_pool.specs.declared.fault.PoolFault.TheVariants.{Disk, Damaged, Memory}
use Rattle.sg_pool.specs.declared.slot.Slot.{Slot}
use Rattle.sg_pool.specs.declared.shelf.Shelf.{Shelf}
use Rattle.sg_pool.specs.Held.{frame_of, page_in, AreApart, bytes_of}
use Rattle.sg_pool.specs.Moments.{IsSameOrForced}
use Rattle.sg_pool.specs.Shelves.{geometry_of, units, OnTold, LoadFails, BringFails}
use Rattle.sg_pool.specs.Well.{IsWell}
use Rattle.sg_pool.proofs.Slots.{frame_kept}
use Rattle.sg_pool.proofs.Changing.{cleaned_twice}

pub on_told : {T : Type 0} (r : Result T PoolFault) (P : Type 0) → P → OnTold r P
on_told (Ok x) P p = p
on_told (Err Disk) P p = tt
on_told (Err (Damaged n)) P p = p
on_told (Err Memory) P p = p

pub on_told_weaker : {T : Type 0} (r : Result T PoolFault) (P Q : Type 0) → (P → Q) → OnTold r P → OnTold r Q
on_told_weaker (Ok x) P Q f p = f p
on_told_weaker (Err Disk) P Q f p = tt
on_told_weaker (Err (Damaged n)) P Q f p = f p
on_told_weaker (Err Memory) P Q f p = f p

-- what holds behind a refusal, whatever the call would have answered
pub told_as : (T U : Type 0) (e : PoolFault) (P : Type 0) → OnTold {T = T} (Err e) P → OnTold {T = U} (Err e) P
told_as T U Disk P p = tt
told_as T U (Damaged n) P p = p
told_as T U Memory P p = p

-- nothing more is told once the disk failed
pub disk_told : (T : Type 0) (e : PoolFault) (P : Type 0) → e ≡ Disk → OnTold {T = T} (Err e) P
disk_told T e P is = subst (λ (f : PoolFault). OnTold {T = T} (Err f) P) (sym is) tt

pub on_err : {T E P : Type 0} (r : Result T E) → P → OnErr r P
on_err (Ok x) p = tt
on_err (Err e) p = p

pub log_now : (w z : View) (log log' : Tail) (ds ps : List Numbered) → z.now ≡ w.now → IsSameOrForced w log log' ds ps → IsSameOrForced z log log' ds ps
log_now w z log log' ds ps same is = ⊎_elim (λ kept. inl (kept.0, holds_along same kept.1)) (λ gone. inr (gone.0, holds_along same gone.1)) is

-- reads after a run: each image is one of its last state
pub then_reads : (v w z : View) (P : Image → Type 0) → LeavesOnly v w P → LeavesOnly w z (Leaves w.now) → LeavesOnly v z P
then_reads v w z P run reads = joined run (weaker reads (λ c leaves. run.each c (inl leaves)))

pub absent_still : (slots t : List Slot) (f p : ℕ) → f < length slots → AreApart slots → t ≡ set slots f (record { number = page_in slots f; since = None }) → frame_of slots p ≡ None → frame_of t p ≡ None
absent_still slots t f p lt apart is absent = ap (λ (u : List Slot). frame_of u p) is ∙ (frame_kept slots f (record { number = page_in slots f; since = None }) lt refl p apart ∙ absent)

-- in another geometry's words
pub cleaned_more : (g g' : Geometry) (m n k : Units) → g' ≡ g → IsCleaned g m n → IsCleaned g' n k → IsCleaned g m k
cleaned_more g g' m n k same first second = cleaned_twice g m n k first (subst (λ (h : Geometry). IsCleaned h n k) same second)

pub backed_in : (g g' : Geometry) (p : Part) (m : Units) → g' ≡ g → IsBacked g p m → IsBacked g' p m
backed_in g g' p m same backed = subst (λ (h : Geometry). IsBacked h p m) (sym same) backed

-- a page that is in no frame is its home
pub at_home : (slots : List Slot) (frames : List (List ℕ)) (n : ℕ) (home : List ℕ) → frame_of slots n ≡ None → bytes_of frames (frame_of slots n) home ≡ home
at_home slots frames n home e = ap (λ (o : Option ℕ). bytes_of frames o home) e

pub risen_more : (a b c : ℕ) → a ≤ b → HasRisen b c → HasRisen a c
risen_more a b c le risen small = let lt = risen small in omega (arith, lt)

module _ (told : Bool) (area : Area) (p : ℕ) (v w z : View) (s t : Shelf) (later : v.faults ≤ w.faults) (small : p < s.pages)
    (unit_same : IsTrue told → (area ≡ Home → ⊥) → IsBacked (geometry_of s) (v.now Home) (units (v.now Home).seen s) → page_at (w.now Home).seen (home_at p) ≡ (units (v.now Home).seen s).page p) where
  pub bring_fails : (e : PoolFault) → LoadFails told p w z e → BringFails told area p v z s e
  bring_fails Disk fails = risen_more v.faults w.faults z.faults later fails
  bring_fails (Damaged n) fails = (fails.0, λ is_told apart backed well. fails.1 is_told (subst IsWell (sym (unit_same is_told apart backed)) well))
  bring_fails Memory fails = fails
