-- That the count of free ones is exact.
use Rattle.sg_base.specs.Page.{bytes_of, stored}
use Rattle.sg_base.specs.Sheet.{Sheet}
use Rattle.std.proofs.Common.{◌≡◌, ℕ, zero, suc, ◌+◌, ◌*◌, ◌<◌, ◌≤◌, List, [], ◌∷◌, length, Option, Some, None, IsSome, is_none, Bool, true, false, not, sym, ap, ◌∙◌, refl, arith, cond, count_by}
use Rattle.std.specs.Prelude.{◌&&◌, if◌then◌else◌}
use mathlib.Core.Logic.{∥∥₁_elim}
use Rattle.std.proofs.Props.{props}
use Rattle.std.specs.List.{range_with_len}
use Rattle.std.proofs.lemmas.List.Sums.{sum_by-cons}
use Rattle.sg_alloc.specs.Flags.{free_of}
use Rattle.sg_space.specs.Units.{IsExact}
use Rattle.sg_alloc.specs.declared.maps.Maps.{Maps}
use Rattle.sg_ops.specs.Table.{Table}
use Rattle.sg_action.specs.States.{State}
use Rattle.sg_actions.specs.Engine.{EngineSeen, ArePagesFit}
use Rattle.sg_actions.specs.View.{acts_view}
use Rattle.sg_actions.specs.Taken.{is_set, is_there, units_there, AreFlags, AreSaid}

-- a flag past the last is clear
pub past : (flags : List Bool) (n : ℕ) → length flags ≤ n → is_set flags n ≡ false
past [] n h = refl
past (x ∷ xs) zero h = absurd (omega arith)
past (x ∷ xs) (suc n) h = past xs n (omega arith)

free_cons : (x : Bool) (xs : List Bool) → free_of (x ∷ xs) ≡ cond {A = ℕ} (not x) 1 0 + free_of xs
free_cons x xs = sum_by-cons (λ (b : Bool). cond {A = ℕ} (not b) 1 0) x xs

both : (x y : Bool) → (y ≡ false → x ≡ true) → cond {A = ℕ} (not x) 1 0 + cond {A = ℕ} (not y) 1 0 ≡ cond {A = ℕ} (not (x && y)) 1 0
both true true h = refl
both true false h = refl
both false true h = refl
both false false h = absurd (let e : false ≡ true = h refl in cc)

-- how many are free, by any test that says so of each
pub counted : (taken unfreed : List Bool) (a : ℕ) (g : ℕ → Bool) → length unfreed ≡ length taken
    → ((n : ℕ) → n < length taken → is_set unfreed n ≡ false → is_set taken n ≡ true)
    → ((n : ℕ) → n < length taken → g (a + n) ≡ not (is_there taken unfreed n))
    → free_of taken + free_of unfreed ≡ count_by g (range_with_len a (length taken))
counted [] [] a g long inside h = refl
counted [] (y ∷ ys) a g long inside h = absurd (omega arith)
counted (x ∷ xs) [] a g long inside h = absurd (omega arith)
counted (x ∷ xs) (y ∷ ys) a g long inside h =
    let first : g a ≡ not (x && y) = ap g (let e : a ≡ a + 0 = omega arith in e) ∙ h 0 (omega arith) in
    let rest : free_of xs + free_of ys ≡ count_by g (range_with_len (a + 1) (length xs)) = counted xs ys (a + 1) g (omega arith) (λ n below e. inside (suc n) (omega arith) e)
    (λ n below. ap g (let e : (a + 1) + n ≡ a + suc n = omega arith in e) ∙ h (suc n) (omega arith)) in
    let l1 = free_cons x xs in
    let l2 = free_cons y ys in
    let one : cond {A = ℕ} (not x) 1 0 + cond {A = ℕ} (not y) 1 0 ≡ cond {A = ℕ} (not (x && y)) 1 0 = both x y (λ e. inside 0 (omega arith) e) in
    let right : count_by g (a ∷ range_with_len (a + 1) (length xs)) ≡ cond {A = ℕ} (g a) 1 0 + count_by g (range_with_len (a + 1) (length xs)) = sum_by-cons (λ (n : ℕ). cond {A = ℕ} (g n) 1 0) a (range_with_len (a + 1) (length xs)) in
    let same : cond {A = ℕ} (g a) 1 0 ≡ cond {A = ℕ} (not (x && y)) 1 0 = ap (λ (b : Bool). cond {A = ℕ} b 1 0) first in
    (let e : free_of (x ∷ xs) + free_of (y ∷ ys) ≡ cond {A = ℕ} (g a) 1 0 + count_by g (range_with_len (a + 1) (length xs)) = omega (arith, l1, l2, one, same, rest) in e) ∙ sym right

none_there : {A : Type 0} (b : Bool) (o : Option A) → (b ≡ true → IsSome o) → is_none (if b then o else None) ≡ not b
none_there false o h = refl
none_there true None h = let e : false ≡ true = h refl in cc
none_there true (Some x) h = refl

taken_there : (taken unfreed : List Bool) (n : ℕ) → is_there taken unfreed n ≡ true → is_set taken n ≡ true
taken_there taken unfreed n h = grind (arith, h)

pub units_exact : {A : Type 0} (taken unfreed : List Bool) (contents : ℕ → Option A) → AreFlags taken unfreed → AreSaid taken contents → IsExact (units_there taken unfreed contents)
units_exact taken unfreed contents flags said = record {
  free = counted taken unfreed 0 (λ n. is_none ((units_there taken unfreed contents).at n)) flags.long flags.inside
      (λ n below. ap (λ k. is_none ((units_there taken unfreed contents).at k)) (let e : 0 + n ≡ n = omega arith in e) ∙ none_there (is_there taken unfreed n) (contents n) (λ h. said n (taken_there taken unfreed n h)));
  past = λ n beyond. let e : is_set taken n ≡ false = past taken n beyond in ap (λ (b : Bool). if b && is_set unfreed n then contents n else None) e;
}

-- there are no more pages than a store may have
pub few_there : (pages : List Bool) {count : ℕ} → count ≤ 1048576 → count ≡ length pages → length pages ≤ 1048576
few_there pages few is = omega (arith, few, is)

there_is : {A : Type 0} (b : Bool) (o : Option A) (x : A) → (if b then o else None) ≡ Some x → o ≡ Some x
there_is true o x e = e
there_is false o x e = absurd cc

-- what a page that is there says is within its bytes
pub pages_within : (taken unfreed : List Bool) (contents : ℕ → Option Sheet) → ((n : ℕ) (p : Sheet) → contents n ≡ Some p → 4 * length p.slots + stored p.slots ≤ 4072)
    → (n : ℕ) (sheet : Sheet) → (units_there taken unfreed contents).at n ≡ Some sheet → bytes_of sheet.slots ≤ 4072
pages_within taken unfreed contents fit n sheet is = fit n sheet (there_is (is_there taken unfreed n) (contents n) sheet is)

-- the same of an engine whose pages fit, whatever its records mean
pub pages_fit_some : (limits : State → ℕ → ℕ) (means : Table → State → Type 0) (e : EngineSeen) (begin : State) (breaks : ℕ) (maps unfreed : Maps) → ∥ ((t : Table) × (from : State) × means t from) ∥₁ → ((t : Table) (from : State) → means t from → ArePagesFit e.now)
    → (n : ℕ) (sheet : Sheet) → (acts_view limits e true begin breaks maps unfreed).space.pages.at n ≡ Some sheet → bytes_of sheet.slots ≤ 4072
pages_fit_some limits means e begin breaks maps unfreed some fit n sheet is = ∥∥₁_elim some (hlevel props) (λ x. pages_within maps.pages unfreed.pages e.now.pages (fit x.0 x.1 x.2) n sheet is)
