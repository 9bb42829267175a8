-- A row is told from its bytes.
use Rattle.std.proofs.Common.{◌≡◌, ℕ, ◌+◌, ◌<◌, ◌≤◌, Bool, if◌then◌else◌, IsTrue, List, length, Option, Some, None, option_map, option_and_then, ap, ◌∙◌, refl, arith}
use Rattle.std.proofs.lemmas.Bool.Decides.{nat_tests}
use Rattle.sg_base.specs.Forms.{IsExact, number, read_all}
use Rattle.sg_base.specs.Spelling.{is_name}
use Rattle.sg_base.specs.declared.numbers.TxnId.{TxnId}
use Rattle.sg_base.proofs.Forms.{number_exact, counted_exact, pair_exact, read_all-back}
use Rattle.sg_catalog.specs.Row.{RowFields, row_form, fields_of, row_cell, IsFormed, code_of, state_of, dropper_of, kind_with, dropper_in, name_in, row_with, row_of}
use Rattle.sg_catalog.specs.declared.row.ObjectKind.{ObjectKind}
use Rattle.sg_catalog.specs.declared.row.ObjectKind.TheVariants.{Array, Table, Blob}
use Rattle.sg_catalog.specs.declared.row.Row.{Row}

row_exact : IsExact row_form
row_exact = pair_exact (number 1) _ (number_exact 1) (pair_exact (number 1) _ (number_exact 1) (pair_exact (number 8) _ (number_exact 8) (pair_exact (number 4) _ (number_exact 4) (counted_exact 1))))

pub name_short : (name : List ℕ) → IsTrue (is_name name) → length name ≤ 32
name_short name h = grind (arith, nat_tests, h)

-- how many bytes a row has
pub length-row : (row : Row) → length (row_cell row) ≡ 15 + length row.name
length-row row = omega arith

small_code : (kind : ObjectKind) → code_of kind < 256
small_code Array = omega arith
small_code Table = omega arith
small_code Blob = omega arith

small_state : (by : Option TxnId) → state_of by < 256
small_state None = omega arith
small_state (Some by) = omega arith

kind_back : (kind : ObjectKind) → kind_with (code_of kind) ≡ Some kind
kind_back Array = refl
kind_back Table = refl
kind_back Blob = refl

dropper_back : (by : Option TxnId) → dropper_in (state_of by) (dropper_of by) ≡ Some by
dropper_back None = refl
dropper_back (Some by) = refl

name_back : (name : List ℕ) → IsTrue (is_name name) → name_in name ≡ Some name
name_back name h = ap (λ (b : Bool). if b then Some name else None) h

-- WHAT WAS SPELLED IS READ BACK
pub row_back : (row : Row) → IsFormed row → row_of (row_cell row) ≡ Some row
row_back row f =
    let short = name_short row.name f.name in
    let root = f.root in
    let dropper = f.dropper in
    let code = small_code row.kind in
    let state = small_state row.dropper in
    let read : read_all row_form (row_cell row) ≡ Some (fields_of row) = read_all-back row_form (fields_of row) row_exact (omega arith, (omega arith, (omega arith, (omega arith, (omega arith, refl))))) in
    ap (λ (o : Option RowFields). option_and_then row_with o) read
    ∙ (ap (λ (o : Option ObjectKind). option_and_then (λ kind. option_and_then (λ dropper. option_map (λ name. let r : Row = record { kind = kind; dropper = dropper; root = row.root; name = name } in r) (name_in row.name)) (dropper_in (state_of row.dropper) (dropper_of row.dropper))) o) (kind_back row.kind)
    ∙ (ap (λ (o : Option (Option TxnId)). option_and_then (λ dropper. option_map (λ name. let r : Row = record { kind = row.kind; dropper = dropper; root = row.root; name = name } in r) (name_in row.name)) o) (dropper_back row.dropper)
    ∙ ap (λ (o : Option (List ℕ)). option_map (λ name. let r : Row = record { kind = row.kind; dropper = row.dropper; root = row.root; name = name } in r) o) (name_back row.name f.name)))
