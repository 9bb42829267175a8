-- A walk that sets pages one after another, each of which is looked at.
use Rattle.std.proofs.Common.{◌≡◌, ℕ, ◌+◌, ◌<◌, ◌≤◌, ◌^◌, Bool, false, List, [], ◌∷◌, map, Option, Some, IsSome, slice_get, refl, sym, ap, subst, ◌∙◌, arith, inl, inr}
use Rattle.std.specs.List.{range_with_len}
use Rattle.std.proofs.lemmas.Bool.{cases_lt}
use Rattle.byteorder.specs.Endian.{little_bytes}
use Rattle.sg_base.specs.Sheet.{Sheet}
use Rattle.sg_space.specs.Reads.{HasCell, HasSized}
use Rattle.sg_space.specs.Units.{HasAt}
use Rattle.sg_space.specs.View.{View, Space, OnlyReads}
use Rattle.sg_space.proofs.Known.{reads_then, keeps_same}
use Rattle.sg_reach.specs.declared.looks.Form.{Form}
use Rattle.sg_reach.specs.Form.{HasForm}
use Rattle.sg_reach.specs.Marks.{CanSet, AreSet}
use Rattle.sg_reach.specs.Parts.{link_at}
use Rattle.sg_reach.specs.Walk.{CanWalk, Walks}
use Rattle.sg_reach.proofs.Forms.{full_at, link_is}
use Rattle.sg_reach.proofs.Setting.{sets_none, sets_more, next_free}

-- a walk that has come to page j
pub record WalkTo (v w : View) (page : ℕ → ℕ) (Is : ℕ → Type 0) (old now : List Bool) (j : ℕ) : Type 0 where
  pub told : w.Told → v.Told
  pub later : v.faults ≤ w.faults
  pub kept : OnlyReads v w
  pub walks : v.Shows → Walks page Is j old now

pub reads_same : (v : View) → OnlyReads v v
reads_same v = record { keeps = keeps_same; shows = λ s. s; same = λ s. refl; wrote = λ b h. h; still = λ s. s }

pub walk_start : (v : View) (page : ℕ → ℕ) (Is : ℕ → Type 0) (flags : List Bool) → WalkTo v v page Is flags flags 0
walk_start v page Is flags = record {
  told = λ t. t;
  later = omega arith;
  kept = reads_same v;
  walks = λ s. record { is = λ j b. absurd (omega arith); set = sets_none flags flags refl };
}

below_more : (Is : ℕ → Type 0) (j : ℕ) → ((i : ℕ) → i < j → Is i) → Is j → (i : ℕ) → i < j + 1 → Is i
below_more Is j h here i less = elim (cases_lt i j) [
  | inl b ↦ h i b
  | inr p ↦ subst Is (let e : j ≡ i = omega arith in e) here
]

-- one page more
pub walk_on : {u v w : View} {Is : ℕ → Type 0} {old mid new : List Bool} {j : ℕ} (page : ℕ → ℕ) (n : ℕ) → WalkTo u v page Is old mid j → (w.Told → v.Told) → v.faults ≤ w.faults → OnlyReads v w → (u.Shows → page j ≡ n) → AreSet mid new (n ∷ []) → (u.Shows → Is j) → WalkTo u w page Is old new (j + 1)
walk_on {u} {v} {w} {Is} {old} {mid} {new} {j} page n i told later kept at set here =
    let before = i.later in
    record {
      told = λ t. i.told (told t);
      later = omega arith;
      kept = reads_then i.kept kept;
      walks = λ s. record {
        is = below_more Is j (i.walks s).is (here s);
        set = sets_more page j (i.walks s).set (subst (λ (x : ℕ). AreSet mid new (x ∷ [])) (sym (at s)) set);
      };
    }

-- all of them
pub walk_end : {u w : View} {page : ℕ → ℕ} {Is : ℕ → Type 0} {old new : List Bool} (j count : ℕ) → WalkTo u w page Is old new j → j ≡ count → u.Shows → Walks page Is count old new
walk_end {page = page} {Is = Is} {old = old} {new = new} j count i e shows = subst (λ (n : ℕ). Walks page Is n old new) e (i.walks shows)

-- the next page is free, where all may be set
pub walk_free : {u w : View} {Is : ℕ → Type 0} {old mid : List Bool} {j : ℕ} (page : ℕ → ℕ) (n count : ℕ) → WalkTo u w page Is old mid j → CanWalk page Is count old → j < count → u.Shows → page j ≡ n → slice_get mid n ≡ Some false
walk_free {mid = mid} {j = j} page n count i can below shows at = subst (λ (x : ℕ). slice_get mid x ≡ Some false) at (next_free page count j (i.walks shows).set can.can below)

-- what is read of a page that names others
pub link_sized : {at : ℕ → Option Sheet} {p : ℕ} {f : Form} (slot : ℕ) → HasAt at p (HasForm f) → f.first ≤ slot → slot < f.first + f.count → HasAt at p (HasSized f.kind slot f.size)
link_sized slot h from to = let item = full_at slot h.has from to in record { what = h.what; is = h.is; has = record { kind_is = h.has.kind; cell = item.cell; is = item.is; size_is = (item.item).sized } }

pub link_read : (at : ℕ → Option Sheet) (p kind slot n : ℕ) → HasAt at p (HasCell kind slot (little_bytes 4 n)) → n < 2 ^ 32 → link_at at p slot ≡ n
link_read at p kind slot n h small = link_is at p slot n h.is h.has.is small

pub is_there : {at : ℕ → Option Sheet} {p n : ℕ} {P : Sheet → Type 0} → p ≡ n → HasAt at p P → IsSome (at n)
is_there {at} e h = subst (λ (x : ℕ). IsSome (at x)) e (subst IsSome (sym h.is) refl)
