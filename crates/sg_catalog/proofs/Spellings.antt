-- What a cell that spells a row is.
use Rattle.std.proofs.Common.{◌≡◌, ℕ, zero, suc, ◌<◌, ◌==◌, ◌⊎◌, inl, inr, Bool, true, false, if◌then◌else◌, IsTrue, List, ◌∷◌, ◌++◌, length, get_or, slice_index_or, Option, Some, None, option_map, option_and_then, sym, ap, subst, ◌∙◌, refl, arith}
use Rattle.std.proofs.lemmas.Bool.Decides.{nat_tests}
use Rattle.sg_base.specs.Bytes.{IsBytes}
use Rattle.sg_base.specs.Forms.{IsExact, number, read_all}
use Rattle.sg_base.specs.Spelling.{is_name, is_name_byte}
use Rattle.std.specs.List.{list_all}
use Rattle.std.specs.Int.{byte_at, bytes_low_first}
use Rattle.std.proofs.lemmas.List.Elements.{All-append}
use Rattle.std.proofs.lemmas.List.Sums.{AllPass-from_list_all}
use Rattle.byteorder.specs.Endian.{little_bytes}
use Rattle.sg_base.specs.declared.numbers.TxnId.{TxnId}
use Rattle.sg_base.proofs.Forms.{number_exact, counted_exact, pair_exact, read_all-only}
use Rattle.sg_catalog.specs.Row.{RowFields, row_form, fields_of, row_cell, IsFormed, code_of, state_of, dropper_of, kind_with, dropper_in, name_in, row_with, row_of}
use Rattle.sg_catalog.specs.declared.row.ObjectKind.{ObjectKind}
use Rattle.sg_catalog.specs.declared.row.ObjectKind.TheVariants.{Array, Table, Blob}
use Rattle.sg_catalog.specs.declared.row.Row.{Row}
use Rattle.sg_space.proofs.Known.{same_some}

row_exact : IsExact row_form
row_exact = pair_exact (number 1) _ (number_exact 1) (pair_exact (number 1) _ (number_exact 1) (pair_exact (number 8) _ (number_exact 8) (pair_exact (number 4) _ (number_exact 4) (counted_exact 1))))

-- which branch gave something
pick : {A : Type 0} (b : Bool) (o p : Option A) (x : A) → (if b then o else p) ≡ Some x → ((b ≡ true) × (o ≡ Some x)) ⊎ ((b ≡ false) × (p ≡ Some x))
pick true o p x h = inl (refl, h)
pick false o p x h = inr (refl, h)

chained : {A B : Type 0} (f : A → Option B) (o : Option A) (y : B) → option_and_then f o ≡ Some y → (x : A) × (o ≡ Some x) × (f x ≡ Some y)
chained f None y h = absurd (cc)
chained f (Some x) y h = (x, refl, h)

mapped_by : {A B : Type 0} (f : A → B) (o : Option A) (y : B) → option_map f o ≡ Some y → (x : A) × (o ≡ Some x) × (f x ≡ y)
mapped_by f None y h = absurd (cc)
mapped_by f (Some x) y h = (x, refl, same_some (f x) y h)

none_some : {A : Type 0} (x : A) → None ≡ Some x → ⊥
none_some x h = cc

kind_only : (code : ℕ) (kind : ObjectKind) → kind_with code ≡ Some kind → code_of kind ≡ code
kind_only code kind h = elim (pick (code == 1) (Some Array) (if code == 2 then Some Table else (if code == 3 then Some Blob else None)) kind h) [
  | inl a ↦ let is : code ≡ 1 = grind (arith, nat_tests, a.0) in ap code_of (sym (same_some Array kind a.1)) ∙ sym is
  | inr a ↦ elim (pick (code == 2) (Some Table) (if code == 3 then Some Blob else None) kind a.1) [
    | inl b ↦ let is : code ≡ 2 = grind (arith, nat_tests, b.0) in ap code_of (sym (same_some Table kind b.1)) ∙ sym is
    | inr b ↦ elim (pick (code == 3) (Some Blob) None kind b.1) [
      | inl d ↦ let is : code ≡ 3 = grind (arith, nat_tests, d.0) in ap code_of (sym (same_some Blob kind d.1)) ∙ sym is
      | inr d ↦ absurd (none_some kind d.1)
    ]
  ]
]

dropper_only : (state dropper : ℕ) (by : Option TxnId) → dropper_in state dropper ≡ Some by → (state_of by ≡ state) × (dropper_of by ≡ dropper)
dropper_only state dropper by h = elim (pick (state == 0) (if dropper == 0 then Some None else None) (if state == 1 then Some (Some (record { 0 = dropper })) else None) by h) [
  | inl a ↦ elim (pick (dropper == 0) (Some None) None by a.1) [
    | inl b ↦
        let is : state ≡ 0 = grind (arith, nat_tests, a.0) in
        let so : dropper ≡ 0 = grind (arith, nat_tests, b.0) in
        let same = same_some None by b.1 in
        (ap state_of (sym same) ∙ sym is, ap dropper_of (sym same) ∙ sym so)
    | inr b ↦ absurd (none_some by b.1)
  ]
  | inr a ↦ elim (pick (state == 1) (Some (Some (record { 0 = dropper }))) None by a.1) [
    | inl b ↦
        let is : state ≡ 1 = grind (arith, nat_tests, b.0) in
        let same = same_some (Some (record { 0 = dropper })) by b.1 in
        (ap state_of (sym same) ∙ sym is, ap dropper_of (sym same))
    | inr b ↦ absurd (none_some by b.1)
  ]
]

name_only : (text name : List ℕ) → name_in text ≡ Some name → (IsTrue (is_name text)) × (text ≡ name)
name_only text name h = elim (pick (is_name text) (Some text) None name h) [
  | inl a ↦ (a.0, same_some text name a.1)
  | inr a ↦ absurd (none_some name a.1)
]

-- a row that has these fields
fields_only : (f : RowFields) (row : Row) → row_with f ≡ Some row → (fields_of row ≡ f) × (IsTrue (is_name row.name)) × (row.root.0 ≡ f.1.1.1.0)
fields_only f row h =
    let k = chained _ (kind_with f.0) row h in
    let d = chained _ (dropper_in f.1.0 f.1.1.0) row k.2 in
    let n = mapped_by _ (name_in f.1.1.1.1) row d.2 in
    let kind = kind_only f.0 k.0 k.1 in
    let by = dropper_only f.1.0 f.1.1.0 d.0 d.1 in
    let name = name_only f.1.1.1.1 n.0 n.1 in
    let made : Row = record { kind = k.0; dropper = d.0; root = record { 0 = f.1.1.1.0 }; name = n.0 } in
    let same : made ≡ row = n.2 in
    let fields : fields_of made ≡ f = λ i. (kind i, (by.0 i, (by.1 i, (f.1.1.1.0, sym name.1 i)))) in
    (ap fields_of (sym same) ∙ fields, subst (λ (x : List ℕ). IsTrue (is_name x)) (name.1 ∙ ap (λ (r : Row). r.name) same) name.0, ap (λ (r : Row). r.root.0) (sym same))

-- ONLY WHAT IS SPELLED IS READ
pub row_only : (cell : List ℕ) (row : Row) → IsBytes cell → row_of cell ≡ Some row → (cell ≡ row_cell row) × IsFormed row
row_only cell row bytes h =
    let r = chained row_with (read_all row_form cell) row h in
    let read = read_all-only row_form cell r.0 row_exact bytes r.1 in
    let w = fields_only r.0 row r.2 in
    let fits = read.0 in
    let by : dropper_of row.dropper ≡ (r.0).1.1.0 = ap (λ (x : RowFields). x.1.1.0) w.0 in (
      read.1 ∙ ap (λ (x : RowFields). row_form.spell x) (sym w.0),
      record {
        root = let e = w.2 in let b = fits.1.1.1.0 in omega arith;
        dropper = let b = fits.1.1.0 in omega arith;
        name = w.1;
      },
    )

byte_small : (i x : ℕ) → byte_at i x < 256
byte_small zero x = omega arith
byte_small (suc k) x = omega arith

bytes_small : (i n x : ℕ) → IsBytes (bytes_low_first i n x)
bytes_small i zero x = λ k d h. absurd (omega arith)
bytes_small i (suc n) x = λ k d h. elim k as (λ (k : ℕ). k < suc (length (bytes_low_first (suc i) n x)) → slice_index_or (byte_at i x ∷ bytes_low_first (suc i) n x) k d < 256) [
  | zero ↦ λ h. byte_small i x
  | suc k ↦ λ h. bytes_small (suc i) n x k d (omega arith)
] h

number_bytes : (n x : ℕ) → IsBytes (little_bytes n x)
number_bytes n x = bytes_small 0 n x

-- a row's cell is bytes
both_bytes : (xs ys : List ℕ) → IsBytes xs → IsBytes ys → IsBytes (xs ++ ys)
both_bytes xs ys a b = All-append (λ x. x < 256) xs ys a b

name_bytes : (name : List ℕ) → IsTrue (is_name name) → IsBytes name
name_bytes name h =
    let all : list_all is_name_byte name ≡ true = grind (arith, nat_tests, h) in
    let each = AllPass-from_list_all is_name_byte name all in
    λ k d below. small (get_or name k d) (each k d below)
  where
    small : (b : ℕ) → is_name_byte b ≡ true → b < 256
    small b e = grind (arith, nat_tests, e)

pub row_bytes : (row : Row) → IsFormed row → IsBytes (row_cell row)
row_bytes row f =
    let name : IsBytes (little_bytes 1 (length row.name) ++ row.name) = both_bytes (little_bytes 1 (length row.name)) row.name (number_bytes 1 (length row.name)) (name_bytes row.name f.name) in
    let root : IsBytes (little_bytes 4 row.root.0 ++ (little_bytes 1 (length row.name) ++ row.name)) = both_bytes (little_bytes 4 row.root.0) (little_bytes 1 (length row.name) ++ row.name) (number_bytes 4 row.root.0) name in
    let by : IsBytes (little_bytes 8 (dropper_of row.dropper) ++ (little_bytes 4 row.root.0 ++ (little_bytes 1 (length row.name) ++ row.name))) = both_bytes (little_bytes 8 (dropper_of row.dropper)) (little_bytes 4 row.root.0 ++ (little_bytes 1 (length row.name) ++ row.name)) (number_bytes 8 (dropper_of row.dropper)) root in
    let state : IsBytes (little_bytes 1 (state_of row.dropper) ++ (little_bytes 8 (dropper_of row.dropper) ++ (little_bytes 4 row.root.0 ++ (little_bytes 1 (length row.name) ++ row.name)))) = both_bytes (little_bytes 1 (state_of row.dropper)) (little_bytes 8 (dropper_of row.dropper) ++ (little_bytes 4 row.root.0 ++ (little_bytes 1 (length row.name) ++ row.name))) (number_bytes 1 (state_of row.dropper)) by in
    both_bytes (little_bytes 1 (code_of row.kind)) (little_bytes 1 (state_of row.dropper) ++ (little_bytes 8 (dropper_of row.dropper) ++ (little_bytes 4 row.root.0 ++ (little_bytes 1 (length row.name) ++ row.name)))) (number_bytes 1 (code_of row.kind)) state
