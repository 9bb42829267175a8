-- What the verbs of an array come to.
use Rattle.std.proofs.Common.{◌≡◌, ℕ, zero, suc, ◌*◌, ◌<◌, ◌≤◌, Bool, true, false, cond, List, [], ◌∷◌, ◌++◌, length, take, Option, Some, None, Ok, Err, IsOk, refl, sym, ap, ◌∙◌, arith}
use Rattle.std.specs.Prelude.{slice_get, slice_set, slice_index_or, nat_lt, ◌-◌}
use Rattle.std.specs.Simd.{first_chunks}
use Rattle.std.proofs.lemmas.Bool.Decides.{nat_tests}
use Rattle.std.proofs.lemmas.Option.{slice_get_within}
use Rattle.sg_ops.specs.Table.{Table as Operations, record_at}
use Rattle.sg_model.specs.declared.reason.Reason.TheVariants.{TooLong}
use Rattle.sg_model.specs.Objects.{Row}
use Rattle.sg_model.specs.Verb.{Outcome}
use Rattle.sg_model.specs.Verb.Reply.{Bytes}
use Rattle.sg_model.specs.Step.{pop, pop_at, pop_item, apply, at_found, done_by}
use Rattle.sg_model.proofs.Parts.{get_pushed, length_pushed}
use Rattle.sg_plain.proofs.Chunks.{row_with, last_taken}

take_pushed : (xs : List (List ℕ)) (x : List ℕ) → take (length xs) (xs ++ x ∷ []) ≡ xs
take_pushed [] x = refl
take_pushed (y ∷ xs) x = ap (λ (ys : List (List ℕ)). y ∷ ys) (take_pushed xs x)

popped_at : (row : Row) (xs : List (List ℕ)) (item : List ℕ) (n : ℕ) → row.items ≡ xs ++ item ∷ [] → n ≡ suc (length xs) → pop_at row n ≡ (Ok (Bytes item), record row { items = take (length xs) row.items })
popped_at row xs item n e k =
    ap (pop_at row) k ∙ ap (pop_item row (length xs)) (ap (λ (ys : List (List ℕ)). slice_get ys (length xs)) e ∙ get_pushed xs item)

-- the array that the last item was taken from
pub popped : (row rest : Row) (item : List ℕ) → row ≡ record { size = rest.size; items = rest.items ++ item ∷ [] } → pop row ≡ (Ok (Bytes item), rest)
popped row rest item e = ap pop e ∙ (popped_at (record { size = rest.size; items = rest.items ++ item ∷ [] }) rest.items item (length (rest.items ++ item ∷ [])) refl (length_pushed rest.items item)
    ∙ ap (λ (xs : List (List ℕ)). (let r : Outcome × Row = (Ok (Bytes item), record { size = rest.size; items = xs }) in r)) (take_pushed rest.items item))

-- a record operation that isn't refused has a code of 16 bits, and an item that is there
module _ (t : Operations) (index code : ℕ) (arg : List ℕ) (row : Row) where
  by_code : (b : Bool) (o : Option (List ℕ)) (c : Bool) → nat_lt code 65536 ≡ c → IsOk (cond {A = Outcome × Row} b (Err TooLong, row) (at_found index (λ size item. done_by arg item (cond c (record_at t code) None)) row o)).0 → code < 65536
  by_code true o c e h = absurd (cc)
  by_code false None c e h = absurd (cc)
  by_code false (Some item) true e h = grind (arith, nat_tests)
  by_code false (Some item) false e h = absurd (cc)

  pub code_small : IsOk (apply t index code arg row).0 → code < 65536
  code_small h = by_code (nat_lt 256 (length arg)) (slice_get row.items index) (nat_lt code 65536) refl h

  by_item : (b : Bool) (o : Option (List ℕ)) (c : Bool) → slice_get row.items index ≡ o → IsOk (cond {A = Outcome × Row} b (Err TooLong, row) (at_found index (λ size item. done_by arg item (cond c (record_at t code) None)) row o)).0 → index < length row.items
  by_item true o c e h = absurd (cc)
  by_item false None c e h = absurd (cc)
  by_item false (Some item) c e h = slice_get_within row.items index item e

  pub item_there : IsOk (apply t index code arg row).0 → index < length row.items
  item_there h = by_item (nat_lt 256 (length arg)) (slice_get row.items index) (nat_lt code 65536) refl h

-- an array without its last item
pub cut_row : (size n : ℕ) (bytes rest : List ℕ) (row : Row) → row_with size (first_chunks size n bytes) ≡ row → 0 < n → length bytes ≡ n * size → rest ≡ take ((n - 1) * size) bytes → row_with size (first_chunks size (n - 1) rest) ≡ (pop row).1
cut_row size n bytes rest row is some whole front =
    let last : List ℕ = slice_index_or (first_chunks size n bytes) (n - 1) [] in
    let one : n ≡ suc (n - 1) = omega (arith, some) in
    let parted : row ≡ record { size = size; items = first_chunks size (n - 1) rest ++ last ∷ [] } = sym is ∙ ap (row_with size) (last_taken size n (n - 1) bytes rest last one whole front refl) in
    sym (ap (λ (r : Outcome × Row). r.1) (popped row (row_with size (first_chunks size (n - 1) rest)) last parted))

-- an item that isn't there is not replaced
set_none : (xs : List (List ℕ)) (i : ℕ) (x : List ℕ) → length xs ≤ i → slice_set xs i x ≡ xs
set_none [] i x past = refl
set_none (y ∷ xs) zero x past = absurd (omega arith)
set_none (y ∷ xs) (suc i) x past = ap (λ (ys : List (List ℕ)). y ∷ ys) (set_none xs i x (omega arith))

pub set_past : (row : Row) (i : ℕ) (x : List ℕ) → length row.items ≤ i → row ≡ record { size = row.size; items = slice_set row.items i x }
set_past row i x past = ap (row_with row.size) (sym (set_none row.items i x past))
