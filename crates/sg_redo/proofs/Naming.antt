-- Where each place has the unit that its record names.
use Rattle.std.proofs.Common.{◌≡◌, ◌+◌, ◌==◌, ℕ, Bool, true, false, Option, Some, None, List, [], ◌∷◌, refl, sym, ap, ◌∙◌, arith}
use Rattle.std.specs.Prelude.{filter}
use Rattle.std.proofs.lemmas.Bool.Decides.{nat_tests}
use Rattle.std.proofs.lemmas.List.Elements.{All-head, All-tail}
use Rattle.sg_record.specs.Changes.{Change}
use Rattle.sg_record.specs.Changes.Change.{Page, SegWrite, SegOp}
use Rattle.sg_redo.specs.declared.place.Place.{Place}
use Rattle.sg_redo.specs.Places.{change_at}
use Rattle.sg_redo.specs.Named.{names, AreNamed, named}

is_that : (a b : ℕ) → (a == b) ≡ true → a ≡ b
is_that a b is = grind (arith, nat_tests)

-- a change names one unit
one_named : (pages : ℕ) (change : Option Change) (unit n : ℕ) → names pages change unit ≡ true → (unit == n) ≡ names pages change n
one_named pages None unit n is = absurd cc
one_named pages (Some (Page c)) unit n is = ap (λ (k : ℕ). k == n) (sym (is_that c.page unit is))
one_named pages (Some (SegWrite c)) unit n is = ap (λ (k : ℕ). k == n) (sym (is_that (pages + c.band) unit is))
one_named pages (Some (SegOp c)) unit n is = ap (λ (k : ℕ). k == n) (sym (is_that (pages + c.band) unit is))

-- two tests that agree on each element
same_filtered : (P Q : Place → Bool) (x : Place) (xs : List Place) → P x ≡ Q x → filter P xs ≡ filter Q xs → filter P (x ∷ xs) ≡ filter Q (x ∷ xs)
same_filtered P Q x xs here rest = by (Q x) refl
  where
    by : (b : Bool) → Q x ≡ b → filter P (x ∷ xs) ≡ filter Q (x ∷ xs)
    by true is = let first : P x ≡ true = here ∙ is in rw (first, is) (ap (λ (l : List Place). x ∷ l) rest)
    by false is = let first : P x ≡ false = here ∙ is in rw (first, is) rest

-- SO A UNIT'S OWN PLACES are those whose records name it
pub unit_named : (pages : ℕ) (text : List ℕ) (places : List Place) (unit : ℕ) → AreNamed pages text places → filter (λ p. p.unit == unit) places ≡ named pages text unit places
unit_named pages text [] unit each = refl
unit_named pages text (p ∷ places) unit each =
    same_filtered (λ (q : Place). q.unit == unit) (λ (q : Place). names pages (change_at text q.at) unit) p places
    (one_named pages (change_at text p.at) p.unit unit (All-head (λ (q : Place). names pages (change_at text q.at) q.unit ≡ true) p places each))
    (unit_named pages text places unit (All-tail (λ (q : Place). names pages (change_at text q.at) q.unit ≡ true) p places each))
