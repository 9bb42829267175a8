-- The counts of a space of an engine's pages and bands, each of which is there.
use mathlib.Core.Logic.{∥∥₁_elim}
use Rattle.std.proofs.Common.{◌≡◌, ℕ, zero, suc, ◌+◌, ◌<◌, ◌≤◌, ◌*◌, nat_lt, Bool, true, false, cond, [], ◌∷◌, length, Option, Some, None, refl, sym, ap, subst, arith}
use Rattle.std.specs.Prelude.{is_none}
use Rattle.std.specs.List.{count_by, range_with_len}
use Rattle.std.proofs.Props.{props}
use Rattle.std.proofs.lemmas.Bool.Decides.{nat_tests}
use Rattle.std.proofs.lemmas.List.Sums.{sum_by-cons}
use Rattle.sg_base.specs.Page.{bytes_of, stored}
use Rattle.sg_base.specs.Sheet.{Sheet}
use Rattle.sg_ops.specs.Table.{Table}
use Rattle.sg_space.specs.Units.{IsExact, Units}
use Rattle.sg_action.specs.States.{State}
use Rattle.sg_actions.specs.Engine.{EngineSeen, ArePagesFit}
use Rattle.sg_unread.specs.Unread.{below, filled, said_of}

lt_true : (a b : ℕ) → a < b → nat_lt a b ≡ true
lt_true a b lt = grind (arith, nat_tests)

lt_false : (a b : ℕ) → b ≤ a → nat_lt a b ≡ false
lt_false a b le = grind (arith, nat_tests)

-- none of so many from one on is missing
none_missing : (g : ℕ → Bool) (a n : ℕ) → ((k : ℕ) → k < a + n → g k ≡ false) → 0 ≡ count_by g (range_with_len a n)
none_missing g a zero all = refl
none_missing g a (suc n) all =
    let rest = none_missing g (a + 1) n (λ k less. all k (omega arith)) in
    let here = all a (omega arith) in
    let step : count_by g (a ∷ range_with_len (a + 1) n) ≡ cond {A = ℕ} (g a) 1 0 + count_by g (range_with_len (a + 1) n) = sum_by-cons (λ (m : ℕ). cond {A = ℕ} (g m) 1 0) a (range_with_len (a + 1) n) in
    let one : cond {A = ℕ} (g a) 1 0 ≡ 0 = ap (λ (b : Bool). cond {A = ℕ} b 1 0) here in
    omega (arith, step, one, rest)

-- EACH IS THERE, and none behind the last
pub all_exact : {A : Type 0} (count : ℕ) (contents : ℕ → A) → IsExact (let u : Units A = record { at = below count (λ n. Some (contents n)); free = 0; count = count } in u)
all_exact {A} count contents = record {
  free = none_missing (λ n. is_none (below count (λ n. Some (contents n)) n)) 0 count (λ k less. there (nat_lt k count) (contents k) (lt_true k count (omega (arith, less))));
  past = λ n beyond. past (nat_lt n count) (contents n) (lt_false n count beyond);
}
  where
    there : (b : Bool) (x : A) → b ≡ true → is_none (cond {A = Option A} b (Some x) None) ≡ false
    there true x e = refl
    there false x e = absurd cc

    past : (b : Bool) (x : A) → b ≡ false → cond {A = Option A} b (Some x) None ≡ None
    past true x e = absurd cc
    past false x e = refl

-- what a page that is there says is within its bytes, where the blank page is
said_fits : (blank : Sheet) (pages : ℕ → Option Sheet) (n : ℕ) (sheet : Sheet) → bytes_of blank.slots ≤ 4072 → ((p : Sheet) → pages n ≡ Some p → 4 * length p.slots + stored p.slots ≤ 4072) → (o : Option Sheet) → pages n ≡ o → said_of blank o ≡ sheet → bytes_of sheet.slots ≤ 4072
said_fits blank pages n sheet small fit None is e = subst (λ (p : Sheet). bytes_of p.slots ≤ 4072) e small
said_fits blank pages n sheet small fit (Some p) is e = subst (λ (q : Sheet). bytes_of q.slots ≤ 4072) e (fit p is)

within_fits : (blank : Sheet) (x : State) (n : ℕ) (sheet : Sheet) → bytes_of blank.slots ≤ 4072 → ArePagesFit x → (b : Bool) → cond {A = Option Sheet} b (filled blank x n) None ≡ Some sheet → bytes_of sheet.slots ≤ 4072
within_fits blank x n sheet small fit false e = absurd cc
within_fits blank x n sheet small fit true e = said_fits blank x.pages n sheet small (fit n) (x.pages n) refl (let same : said_of blank (x.pages n) ≡ sheet = cc in same)

pub said_within : (means : Table → State → Type 0) (e : EngineSeen) (blank : Sheet) (pages : ℕ) → bytes_of blank.slots ≤ 4072 → ∥ ((t : Table) × (from : State) × means t from) ∥₁ → ((t : Table) (from : State) → means t from → ArePagesFit e.now)
    → (n : ℕ) (sheet : Sheet) → below pages (filled blank e.now) n ≡ Some sheet → bytes_of sheet.slots ≤ 4072
said_within means e blank pages small some fit n sheet is = ∥∥₁_elim some (hlevel props) (λ x. within_fits blank e.now n sheet small (fit x.0 x.1 x.2) (nat_lt n pages) is)

-- a page without slots has room
pub no_bytes : {slots : Rattle.sg_base.specs.Slots.Slots} → slots ≡ [] → bytes_of slots ≤ 4072
no_bytes e = subst (λ (xs : Rattle.sg_base.specs.Slots.Slots). bytes_of xs ≤ 4072) (sym e) (omega arith)
