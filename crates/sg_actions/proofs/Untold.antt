-- What can't be where the engine tells, so that a break is counted only where it doesn't.
use Rattle.std.proofs.Common.{◌≡◌, ℕ, zero, suc, ◌+◌, ◌<◌, ◌≤◌, ◌==◌, List, [], ◌∷◌, ◌++◌, length, set, Option, Some, None, IsSome, Bool, true, false, sym, ap, subst, ◌∙◌, refl, arith, slice_get}
use Rattle.std.specs.Prelude.{is_some, if◌then◌else◌}
use Rattle.std.proofs.lemmas.Bool.Decides.{nat_tests}
use Rattle.std.proofs.Props.{props}
use Rattle.sg_base.specs.Op.{Op, is_format}
use Rattle.sg_base.specs.Op.Op.{Format, Put, Remove, Set, Links, Item, ItemBack}
use Rattle.sg_base.specs.Page.{cell_in, cell_size, bytes_of}
use Rattle.sg_base.specs.Sheet.{Sheet}
use Rattle.sg_base.specs.Slots.{Slots, cell_bytes, put_in, set_in, remove_in}
use Rattle.sg_ops.specs.Steps.{step}
use Rattle.sg_ops.specs.Table.{Table}
use Rattle.sg_slotted.proofs.Room.{bytes_of-push, bytes_of-set, bytes_with, bytes_without}
use Rattle.sg_space.specs.Pages.{IsPossible, arg_size}
use Rattle.sg_space.specs.Units.{HasAt}
use Rattle.sg_space.specs.View.{View}
use Rattle.sg_step.proofs.Steps.{slots_some, put_is, set_is, remove_is}
use Rattle.sg_action.specs.States.{State}
use Rattle.sg_actions.specs.Changes.{BringsFew, IsNoCell, FindsNoCell, comp_of, op_off}
use Rattle.sg_record.specs.Changes.{Change as Changing, BandOp}
use Rattle.sg_record.specs.Changes.Change.{Page as PageHeld, SegWrite, SegOp}
use Rattle.sg_recovery.specs.Log.Record.{Begin, Change, TopEnd, PhysComp, TopVoid, CompEnd, Save, Commit, End}
use Rattle.sg_actions.specs.Engine.{Extent, ArePagesFit, IsOn, StepOn, AllOn}
use Rattle.sg_actions.specs.Steps.{Step, Steps, step_at, step_of, step_by}
use Rattle.sg_record.specs.Records.{Record, Says}
use Rattle.sg_record.specs.Records.Says.{Begin as SaysBegin, Changed, TopEnd as SaysTopEnd, PhysComp as SaysPhysComp, TopVoid as SaysTopVoid, CompEnd as SaysCompEnd, Save as SaysSave, Commit as SaysCommit, End as SaysEnd, Checkpoint as SaysCheckpoint}
use Rattle.sg_actions.specs.Undoing.{Hop, Stood, hop_in, stood_of, stood_by}
use Rattle.sg_actions.proofs.PuttingBack.{stood_of_is, firsts}
use Rattle.sg_actions.proofs.TakenOff.{off_page}
use Rattle.sg_actions.specs.Taken.{is_set, is_there, units_there, IsWithin}
use Rattle.sg_actions.proofs.Flags.{there_is, has_there, get_set, and_left, some_of}

-- nothing is there that isn't taken
pub none_there : {A : Type 0} (taken unfreed : List Bool) (contents : ℕ → Option A) (n : ℕ) → is_there taken unfreed n ≡ false → IsSome ((units_there taken unfreed contents).at n) → ⊥
none_there taken unfreed contents n h some = let e : is_there taken unfreed n ≡ true = has_there taken unfreed contents n some in cc

pub none_at : {A : Type 0} {P : A → Type 0} (taken unfreed : List Bool) (contents : ℕ → Option A) (n : ℕ) → is_there taken unfreed n ≡ false → HasAt (units_there taken unfreed contents).at n P → ⊥
none_at taken unfreed contents n h has = let e : is_there taken unfreed n ≡ true = (there_is taken unfreed contents n has.what has.is).both in cc

-- a flag that is set is one of those that there are
below_long : (flags : List Bool) (n : ℕ) (b : Bool) → slice_get flags n ≡ Some b → n < length flags
below_long [] n b e = absurd (cc)
below_long (x ∷ xs) zero b e = omega arith
below_long (x ∷ xs) (suc n) b e = let h : n < length xs = below_long xs n b e in omega (arith, h)

pub there_below : (taken unfreed : List Bool) (n : ℕ) → is_there taken unfreed n ≡ true → n < length taken
there_below taken unfreed n h = below_long taken n true (get_set taken n (and_left (is_set taken n) (is_set unfreed n) h))

-- a band that is there has a number of 16 bits
pub band_few : (pages bands unfreed : List Bool) (x : Extent) (n : ℕ) → IsWithin pages bands x → x.bands ≤ 65536 → is_there bands unfreed n ≡ true → n ≤ 65535
band_few pages bands unfreed x n within few h = let l = there_below bands unfreed n h in let w = within.bands in omega (arith, l, w, few)

-- and none is there behind that
pub none_behind : (pages bands : List Bool) (x : Extent) (o : Option Bool) → IsWithin pages bands x → x.bands ≤ 65536 → o ≡ slice_get bands 65536 → is_some o ≡ true → ⊥
none_behind pages bands x None within few e some = cc
none_behind pages bands x (Some b) within few e some = let l = below_long bands 65536 b (sym e) in let w = within.bands in absurd (omega (arith, l, w, few))

-- AN OPERATION THAT FITS brings few bytes,
put_few : (p new : Sheet) (slot : ℕ) (cell : List ℕ) (b : Bool) → (slot == length p.slots) ≡ b → new.slots ≡ (if b then p.slots ++ (Some cell ∷ []) else set p.slots slot (Some cell)) → slot ≤ length p.slots → cell_in p.slots slot ≡ None → bytes_of new.slots ≤ 4072 → length cell ≤ 4096
put_few p new slot cell true s is next empty room =
    let b : bytes_of new.slots ≡ bytes_of p.slots + (4 + length cell) = ap bytes_of is ∙ bytes_of-push p.slots (Some cell) in omega (arith, b, room)
put_few p new slot cell false s is next empty room =
    let below : slot < length p.slots = grind (arith, nat_tests, s, next) in
    let size : cell_size (cell_in p.slots slot) ≡ 0 = ap cell_size empty in
    let with : bytes_of (set p.slots slot (Some cell)) + cell_size (cell_in p.slots slot) ≡ bytes_of p.slots + length cell = bytes_of-set p.slots slot (Some cell) below in
    let b : bytes_of new.slots ≡ bytes_of (set p.slots slot (Some cell)) = ap bytes_of is in
    omega (arith, size, with, b, room)

pub fits_few : (t : Table) (op : Op) (p new : Sheet) → arg_size op ≤ 256 → step t op p ≡ Some new → BringsFew op
fits_few t (Format kind) p new short e = tt
fits_few t (Put slot cell) p new short e =
    let h = slots_some p new (put_in p.slots slot cell) e in
    let g = put_is p.slots new.slots slot cell h.slots in
    put_few p new slot cell (slot == length p.slots) refl g.is g.next g.empty g.room
fits_few t (Remove slot) p new short e = tt
fits_few t (Set slot cell) p new short e =
    let h = slots_some p new (set_in p.slots slot cell) e in
    let g = set_is p.slots new.slots slot cell h.slots in
    let was : List ℕ = cell_bytes (cell_in p.slots slot) in
    let with : bytes_of (set p.slots slot (Some cell)) + length was ≡ bytes_of p.slots + length cell = bytes_with p.slots slot was cell (sym g.full) in
    let without : bytes_of (set p.slots slot None) + length was ≡ bytes_of p.slots = bytes_without p.slots slot was (sym g.full) in
    let b : bytes_of new.slots ≡ bytes_of (set p.slots slot (Some cell)) = ap bytes_of g.is in
    let room : bytes_of new.slots ≤ 4072 = g.room in
    omega (arith, with, without, b, room)
fits_few t (Links ab) p new short e = tt
fits_few t (Item slot code arg) p new short e = short
fits_few t (ItemBack slot code arg) p new short e = short

-- and finds the cell that it takes away
no_cell : (slots : Slots) (slot : ℕ) (cell : List ℕ) → bytes_of slots ≤ 4072 → cell_in slots slot ≡ Some cell → IsNoCell 4096 (cell_in slots slot) → ⊥
no_cell slots slot cell fit full none =
    let long : 4096 < length cell = subst (IsNoCell 4096) full none in
    let without : bytes_of (set slots slot None) + length cell ≡ bytes_of slots = bytes_without slots slot cell (sym full) in
    omega (arith, long, without, fit)

pub finds_cell : (t : Table) (op : Op) (p new : Sheet) → is_format op ≡ false → bytes_of p.slots ≤ 4072 → step t op p ≡ Some new → FindsNoCell op p → ⊥
finds_cell t (Format kind) p new plain fit e none = cc
finds_cell t (Put slot cell) p new plain fit e none = none
finds_cell t (Remove slot) p new plain fit e none =
    let h = slots_some p new (remove_in p.slots slot) e in
    no_cell p.slots slot (cell_bytes (cell_in p.slots slot)) fit (remove_is p.slots new.slots slot h.slots).full none
finds_cell t (Set slot cell) p new plain fit e none =
    let h = slots_some p new (set_in p.slots slot cell) e in
    no_cell p.slots slot (cell_bytes (cell_in p.slots slot)) fit (set_is p.slots new.slots slot cell h.slots).full none
finds_cell t (Links ab) p new plain fit e none = none
finds_cell t (Item slot code arg) p new plain fit e none = none
finds_cell t (ItemBack slot code arg) p new plain fit e none = none

-- the same of one that is asked of a space
pub asked_few : (t : Table) (v : View) (p : ℕ) (op : Op) → HasAt v.space.pages.at p (IsPossible t v p op) → BringsFew op
asked_few t v p op h = let fit = some_of (step t op h.what) h.has.fits in fits_few t op h.what fit.0 h.has.short fit.1

same_some : {A : Type 0} (x y : A) → Some x ≡ Some y → x ≡ y
same_some x y h = cc

pub asked_finds : (t : Table) (v : View) (taken unfreed : List Bool) (x : State) (p : ℕ) (op : Op) (shown : Sheet) → v.space.pages ≡ units_there taken unfreed x.pages → x.pages p ≡ Some shown → ArePagesFit x
    → HasAt v.space.pages.at p (IsPossible t v p op) → FindsNoCell op shown → ⊥
asked_finds t v taken unfreed x p op shown is looked fits h none =
    let fit = some_of (step t op h.what) h.has.fits in
    let there = there_is taken unfreed x.pages p h.what (sym (ap (λ u. u.at p) is) ∙ h.is) in
    let same : shown ≡ h.what = same_some shown h.what (sym looked ∙ there.is) in
    finds_cell t op h.what fit.0 h.has.plain (fits p h.what there.is) fit.1 (subst (FindsNoCell op) same none)

-- THE PAGE OR THE BAND of a step of the log is one of those that there are,
pub on_at : (x : Extent) (rs : Steps) (at : ℕ) (s : Step) → AllOn x rs → step_at rs at ≡ Some s → StepOn x s
on_at x [] at s all e = absurd (none_is s e)
  where
    none_is : (s : Step) → None ≡ Some s → ⊥
    none_is s e = cc
on_at x (r ∷ rs) at s all e = by (on_at x rs at s all.1) (r.lsn == at) e
  where
    by : (step_at rs at ≡ Some s → StepOn x s) → (b : Bool) → (if b then Some r.is else step_at rs at) ≡ Some s → StepOn x s
    by rest true f = subst (λ (y : Step). StepOn x y) (same_some r.is s f) all.0
    by rest false f = rest f

-- which is a fact of numbers,
pub on_prop : (x : Extent) (c : Changing) → (a b : IsOn x c) → a ≡ b
on_prop x (PageHeld w) a b = let p : (u v : w.page < x.pages) → u ≡ v = hlevel props in p a b
on_prop x (SegWrite w) a b = let p : (u v : w.band < x.bands) → u ≡ v = hlevel props in p a b
on_prop x (SegOp w) a b = let p : (u v : w.band < x.bands) → u ≡ v = hlevel props in p a b

-- of the change that takes it off,
pub comp_on : (x : Extent) (c comp : Changing) → comp ≡ comp_of c → IsOn x c → IsOn x comp
comp_on x c comp e h = subst (λ (d : Changing). IsOn x d) (sym e) (by c h)
  where
    by_list : (w : BandOp) (xs : List ℕ) → w.band < x.bands → IsOn x (op_off w xs)
    by_list w [] k = k
    by_list w (y ∷ ys) k = k

    by : (d : Changing) → IsOn x d → IsOn x (comp_of d)
    by (PageHeld w) k = subst (λ (n : ℕ). n < x.pages) (sym (off_page w)) k
    by (SegWrite w) k = k
    by (SegOp w) k = by_list w w.before k

-- and of the bytes that come back
pub part_on : (outside : ℕ) (x : Extent) (o : Option Step) (n : ℕ) (c : Option Changing) (s : Stood) → ((t : Step) → o ≡ Some t → StepOn x t) → Some (c, n) ≡ hop_in o → Some s ≡ stood_by outside c → s.0 < x.bands
part_on outside x o n c s on e k = by_step o on (sym e)
  where
    no : {A : Type 0} (y : A) → None ≡ Some y → ⊥
    no y z = cc

    by_band : (band at : ℕ) (bytes : List ℕ) → band < x.bands → stood_of outside band at bytes ≡ Some s → s.0 < x.bands
    by_band band at bytes h z = subst (λ (q : Stood). q.0 < x.bands) (stood_of_is outside band at bytes s z).0 h

    by_change : (d : Changing) → IsOn x d → stood_by outside (Some d) ≡ Some s → s.0 < x.bands
    by_change (PageHeld w) h z = absurd (no s z)
    by_change (SegWrite w) h z = by_band w.band w.at w.before h z
    by_change (SegOp w) h z = by_band w.band w.at w.before h z

    by_step : (q : Option Step) → ((t : Step) → q ≡ Some t → StepOn x t) → hop_in q ≡ (let h : Hop = (c, n) in Some h) → s.0 < x.bands
    by_step None h z = absurd (no (c, n) z)
    by_step (Some (Begin t p)) h z = absurd (no (c, n) z)
    by_step (Some (Change t p d)) h z = by_change d (h (Change t p d) refl) (ap (stood_by outside) (firsts (Some d, p) (c, n) z) ∙ sym k)
    by_step (Some (TopEnd t p u note)) h z = absurd (no (c, n) z)
    by_step (Some (PhysComp t p u d)) h z = absurd (no s (ap (stood_by outside) (firsts (None, u) (c, n) z) ∙ sym k))
    by_step (Some (TopVoid t p u)) h z = absurd (no (c, n) z)
    by_step (Some (CompEnd t p u)) h z = absurd (no (c, n) z)
    by_step (Some (Save t p m)) h z = absurd (no (c, n) z)
    by_step (Some (Commit t p)) h z = absurd (no (c, n) z)
    by_step (Some (End t p)) h z = absurd (no (c, n) z)

-- a record that is a step of a change holds one
pub no_change : (what r : Record) {u p : ℕ} {d : Changing} → step_of what ≡ Some (Change u p d) → r ≡ what → ((c : Changing) → r.says ≡ Changed c → ⊥) → ⊥
no_change what r {u} {p} {d} e is f = by what.says e (λ c z. f c (ap (λ (y : Record). y.says) is ∙ z))
  where
    by : (s : Says) → step_by what.transaction what.previous s ≡ Some (Change u p d) → ((c : Changing) → s ≡ Changed c → ⊥) → ⊥
    by SaysBegin z g = cc
    by (Changed c) z g = g c refl
    by (SaysTopEnd w n) z g = cc
    by (SaysPhysComp w c) z g = cc
    by (SaysTopVoid w) z g = cc
    by (SaysCompEnd w) z g = cc
    by (SaysSave m) z g = cc
    by SaysCommit z g = cc
    by SaysEnd z g = cc
    by (SaysCheckpoint m live) z g = cc
