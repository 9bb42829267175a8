-- What the other verbs on arrays come to.
use Rattle.std.proofs.Common.{◌≡◌, ◌≢◌, ℕ, zero, suc, ◌-◌, ◌<◌, ◌≤◌, max, Bool, false, cond, List, [], ◌∷◌, length, take, Option, Some, None, Ok, Err, refl, sym, ap, ◌∙◌, arith, slice_get, slice_set}
use Rattle.std.specs.Prelude.{◌==◌}
use Rattle.std.proofs.lemmas.Bool.Decides.{nat_tests}
use Rattle.sg_model.specs.declared.reason.Reason.TheVariants.{Declined, OutOfRange}
use Rattle.sg_model.specs.Objects.{Row as Items}
use Rattle.sg_model.specs.Step.{pop, pop_at, pop_item, at_item, at_found, set_to, got, Decision, put_item}
use Rattle.sg_model.specs.Verb.{Outcome}
use Rattle.sg_model.specs.Verb.Reply.{Done, Bytes}
use Rattle.sg_objects.proofs.Pushing.{same_size}

pub max_same : (a b : ℕ) → b ≤ a → max a b ≡ a
max_same a b le = grind (arith, nat_tests)

pub none_past : {A : Type 0} (xs : List A) (i : ℕ) → length xs ≤ i → slice_get xs i ≡ None
none_past [] i h = refl
none_past (x ∷ xs) zero h = absurd (omega arith)
none_past (x ∷ xs) (suc i) h = none_past xs i (omega arith)

pub pop_none : (row : Items) → length row.items ≡ 0 → pop row ≡ (Err OutOfRange, row)
pop_none row e = ap (pop_at row) e

pub pop_row : (row : Items) (item : List ℕ) → 0 < length row.items → slice_get row.items (length row.items - 1) ≡ Some item → pop row ≡ (Ok (Bytes item), record row { items = take (length row.items - 1) row.items })
pop_row row item some is = by (length row.items) refl some is
  where
    by : (n : ℕ) → length row.items ≡ n → 0 < n → slice_get row.items (n - 1) ≡ Some item → pop_at row (length row.items) ≡ (Ok (Bytes item), record row { items = take (length row.items - 1) row.items })
    by zero e some is = absurd (omega arith)
    by (suc n) e some is =
        let less : suc n - 1 ≡ n = omega arith in
        let here : slice_get row.items n ≡ Some item = ap (slice_get row.items) (sym less) ∙ is in
        let cut : n ≡ length row.items - 1 = omega arith in
        ap (pop_at row) e ∙ (ap (pop_item row n) here ∙ ap (λ (k : ℕ). (let r : Outcome × Items = (Ok (Bytes item), record row { items = take k row.items }) in r)) cut)

pub at_none : (row : Items) (i : ℕ) (decide : Decision) → length row.items ≤ i → at_item i decide row ≡ (Err OutOfRange, row)
at_none row i decide past = ap (at_found i decide row) (none_past row.items i past)

pub get_row : (row : Items) (i : ℕ) (item : List ℕ) → slice_get row.items i ≡ Some item → at_item i got row ≡ (Ok (Bytes item), row)
get_row row i item is = ap (at_found i got row) is

pub set_row : (row : Items) (i : ℕ) (item value : List ℕ) → slice_get row.items i ≡ Some item → length value ≡ row.size → at_item i (set_to value) row ≡ (Ok Done, record row { items = slice_set row.items i value })
set_row row i item value is fits =
    ap (at_found i (set_to value) row) is
    ∙ ap (λ (b : Bool). (let r : Outcome × Option (List ℕ) = cond b (Ok Done, Some value) (Err Declined, None) in (let q : Outcome × Items = (r.0, put_item row i r.1) in q))) (same_size (length value) row.size fits)

pub unfit_row : (row : Items) (i : ℕ) (item value : List ℕ) → slice_get row.items i ≡ Some item → length value ≢ row.size → at_item i (set_to value) row ≡ (Err Declined, row)
unfit_row row i item value is ne =
    let no : (length value == row.size) ≡ false = grind (arith, nat_tests, ne) in
    ap (at_found i (set_to value) row) is
    ∙ ap (λ (b : Bool). (let r : Outcome × Option (List ℕ) = cond b (Ok Done, Some value) (Err Declined, None) in (let q : Outcome × Items = (r.0, put_item row i r.1) in q))) no

pub some_there : {A : Type 0} (xs : List A) (i : ℕ) → i < length xs → (x : A) × (slice_get xs i ≡ Some x)
some_there [] i h = absurd (omega arith)
some_there (x ∷ xs) zero h = (x, refl)
some_there (x ∷ xs) (suc i) h = some_there xs i (omega arith)
