-- What may be done to a page that is known, and what a caller may rely on after it.
use Rattle.std.proofs.Common.{◌≡◌, ℕ, ◌+◌, List, length, Option, Some, IsSome, true, false, refl, sym, subst, arith, inl, inr}
use Rattle.std.proofs.lemmas.Bool.{cases_eq}
use Rattle.std.proofs.lemmas.Bool.Decides.{nat_tests}
use Rattle.sg_base.specs.Op.{Op, shrinks}
use Rattle.sg_base.specs.Op.Op.{Put, Set, Remove}
use Rattle.sg_base.specs.Sheet.{Sheet}
use Rattle.sg_ops.specs.Steps.{step}
use Rattle.sg_ops.specs.Table.{Table}
use Rattle.sg_space.specs.Pages.{IsPossible, Changed}
use Rattle.sg_space.specs.View.{View, Keeps}

no : false ≡ true → ⊥
no e = cc

-- an operation that fits, of those that open no slot and bring no argument
pub set_possible : (t : Table) (v : View) (p slot : ℕ) (cell : List ℕ) {sheet y : Sheet} → step t (Set slot cell) sheet ≡ Some y → IsPossible t v p (Set slot cell) sheet
set_possible t v p slot cell e = record {
  plain = refl;
  fits = subst (λ (o : Option Sheet). IsSome o) (sym e) refl;
  done = tt;
  short = omega arith;
  place = λ u. absurd (no u);
}

pub remove_possible : (t : Table) (v : View) (p slot : ℕ) {sheet y : Sheet} → step t (Remove slot) sheet ≡ Some y → IsPossible t v p (Remove slot) sheet
remove_possible t v p slot e = record {
  plain = refl;
  fits = subst (λ (o : Option Sheet). IsSome o) (sym e) refl;
  done = tt;
  short = omega arith;
  place = λ u. absurd (no u);
}

-- one that may open a slot: the page may have it
pub put_possible : (t : Table) (v : View) (p slot : ℕ) (cell : List ℕ) {sheet y : Sheet} → v.MayHave p (slot + 1) → step t (Put slot cell) sheet ≡ Some y → IsPossible t v p (Put slot cell) sheet
put_possible t v p slot cell {sheet} may e = record {
  plain = refl;
  fits = subst (λ (o : Option Sheet). IsSome o) (sym e) refl;
  done = tt;
  short = omega arith;
  place = λ u. let last : slot ≡ length sheet.slots = grind (arith, nat_tests, u) in subst (λ (n : ℕ). v.MayHave p (n + 1)) last may;
}

-- a change of a page that doesn't shrink it keeps what a caller relies on
pub keeps_but : {t : Table} {v w : View} {p : ℕ} {op : Op} → Changed t v w p op → ((sheet : Sheet) → v.space.pages.at p ≡ Some sheet → shrinks op sheet ≡ false) → Keeps v w
keeps_but {t} {v} {w} {p} c same = record {
  told = c.told;
  may_take = c.may_take;
  may_have = λ q n h. elim (cases_eq q p) as (λ _. w.MayHave q n) [
    | inl is ↦ subst (λ (k : ℕ). w.MayHave k n) (sym is) (c.may_still n same (subst (λ (k : ℕ). v.MayHave k n) is h))
    | inr ne ↦ c.may_have q n ne h
  ];
}

pub put_keeps : {t : Table} {v w : View} {p slot : ℕ} {cell : List ℕ} → Changed t v w p (Put slot cell) → Keeps v w
put_keeps c = keeps_but c (λ sheet is. refl)
