-- What one call does to the pages, as steps of a table.
use Rattle.std.proofs.Common.{◌≡◌, ◌≢◌, ℕ, Option, Some, None, IsSome, refl, sym, ap, subst, ◌∙◌, inl, inr}
use Rattle.std.proofs.lemmas.Bool.{cases_eq}
use Rattle.sg_base.specs.Op.{Op}
use Rattle.sg_base.specs.Sheet.{Sheet}
use Rattle.sg_ops.specs.Steps.{step}
use Rattle.sg_ops.specs.Table.{Table}
use Rattle.sg_space.specs.Pages.{empty_sheet}
use Rattle.sg_space.specs.Units.{Units, IsChanged, IsTaken, IsFreed}
use Rattle.sg_tests_steps.specs.Steps.{Goes}
use Rattle.sg_tests_steps.specs.Steps.Goes.{stays, steps, is_taken, is_freed}

pub same_goes : {t : Table} {x y : Option Sheet} → y ≡ x → Goes t x y
same_goes {t} {x} e = subst (λ (o : Option Sheet). Goes t x o) (sym e) stays

pub pages_go : {t : Table} {old new : Units Sheet} → new ≡ old → (q : ℕ) → Goes t (old.at q) (new.at q)
pages_go e q = same_goes (ap (λ (u : Units Sheet). u.at q) e)

at_one : {t : Table} (old new : Units Sheet) (p q : ℕ) → Goes t (old.at p) (new.at p) → ((m : ℕ) → m ≢ p → new.at m ≡ old.at m) → Goes t (old.at q) (new.at q)
at_one {t} old new p q here others = elim (cases_eq q p) as (λ _. Goes t (old.at q) (new.at q)) [
  | inl same ↦ subst (λ (n : ℕ). Goes t (old.at n) (new.at n)) (sym same) here
  | inr ne ↦ same_goes (others q ne)
]

stepped : {t : Table} {x now : Option Sheet} (op : Op) (y : Sheet) (o : Option Sheet) → x ≡ Some y → step t op y ≡ o → IsSome o → now ≡ o → Goes t x now
stepped op y None is e some now = absurd (cc)
stepped {t} {x} op y (Some z) is e some now = subst (λ (o : Option Sheet). Goes t x o) (sym now) (steps op (same_goes (sym is)) e)

pub changed_goes : {t : Table} (op : Op) {old new : Units Sheet} {p : ℕ} (y : Sheet) → old.at p ≡ Some y → IsSome (step t op y) → IsChanged old new p (step t op) → (q : ℕ) → Goes t (old.at q) (new.at q)
changed_goes {t} op {old} {new} {p} y is fits h q = at_one old new p q (stepped op y (step t op y) is refl fits (h.here y is)) h.others

pub taken_goes : {t : Table} {kind : ℕ} {old new : Units Sheet} {p : ℕ} → IsTaken old new p (λ sheet. sheet ≡ empty_sheet kind) → (q : ℕ) → Goes t (old.at q) (new.at q)
taken_goes {t} {kind} {old} {new} {p} h q =
    at_one old new p q (subst (λ (o : Option Sheet). Goes t (old.at p) o) (sym (h.fresh.is ∙ ap (λ (s : Sheet). Some s) h.fresh.has)) (is_taken kind (same_goes (sym h.was_free)))) h.others

gone : {t : Table} {x : Option Sheet} (o : Option Sheet) → x ≡ o → IsSome o → Goes t x None
gone None is some = absurd (cc)
gone (Some y) is some = is_freed (same_goes (sym is))

pub freed_goes : {t : Table} {old new : Units Sheet} {p : ℕ} → IsSome (old.at p) → IsFreed old new p → (q : ℕ) → Goes t (old.at q) (new.at q)
freed_goes {t} {old} {new} {p} some h q =
    at_one old new p q (subst (λ (o : Option Sheet). Goes t (old.at p) o) (sym h.gone) (gone (old.at p) refl some)) h.others
