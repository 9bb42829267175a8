-- Rows, with one in the place of another.
use Rattle.std.proofs.Common.{◌≡◌, ◌≢◌, ℕ, zero, suc, ◌==◌, ◌<◌, List, [], ◌∷◌, ◌++◌, length, take, drop, take_all, Some, None, Bool, true, false, sym, ap, subst, ◌∙◌, refl, arith, slice_index_or, slice_set, inl, inr}
use Rattle.std.specs.Prelude.{if◌then◌else◌, option_map}
use Rattle.std.specs.List.{find}
use Rattle.std.proofs.lemmas.Bool.{cases_Bool, cases_eq}
use Rattle.std.proofs.lemmas.Bool.Decides.{nat_tests}
use Rattle.std.proofs.lemmas.List.{take-append-le}
use Rattle.sg_actions.specs.Rows.{last_in, AreApart, placed, rows_after}
use Rattle.sg_base.specs.declared.numbers.TxnId.{TxnId}
use Rattle.sg_actions.specs.declared.rows.Row.{Row}

pub placed_at : (rows : List Row) (i t : ℕ) (row d : Row) → i < length rows → (slice_index_or rows i d).txn.0 ≡ t → take i rows ++ placed (drop i rows) t row ≡ slice_set rows i row
placed_at [] i t row d below e = absurd (omega arith)
placed_at (x ∷ xs) zero t row d below e = ap (λ (b : Bool). if b then row ∷ xs else x ∷ placed xs t row) (let i : (x.txn.0 == t) ≡ true = grind (arith, nat_tests, e) in i)
placed_at (x ∷ xs) (suc i) t row d below e = ap (λ (ys : List Row). x ∷ ys) (placed_at xs i t row d (omega arith) e)

pub length-placed : (rows : List Row) (t : ℕ) (row : Row) → length (placed rows t row) ≡ length rows
length-placed [] t row = refl
length-placed (x ∷ xs) t row = elim (cases_Bool (x.txn.0 == t)) [
  | inl e ↦ ap (λ (b : Bool). length (if b then row ∷ xs else x ∷ placed xs t row)) e
  | inr e ↦ ap (λ (b : Bool). length (if b then row ∷ xs else x ∷ placed xs t row)) e ∙ (let r = length-placed xs t row in omega (arith, r))
]

pub front_is : {A : Type 0} (n : ℕ) (xs ys : List A) → length xs ≡ n → take n (xs ++ ys) ≡ xs
front_is n xs ys e = take-append-le n xs ys (omega arith) ∙ take_all n xs (omega arith)

-- the place of another transaction's row is left
pub placed_other : (rows : List Row) (t u : ℕ) (row : Row) → u ≢ t → row.txn.0 ≢ u → last_in (placed rows t row) u ≡ last_in rows u
placed_other [] t u row ne nr = refl
placed_other (x ∷ xs) t u row ne nr = elim (cases_Bool (x.txn.0 == t)) [
  | inl e ↦
      let first : (row.txn.0 == u) ≡ false = grind (arith, nat_tests, nr) in
      let was : (x.txn.0 == u) ≡ false = (let is : x.txn.0 ≡ t = grind (arith, nat_tests, e) in grind (arith, nat_tests, is, ne)) in
      ap (λ (b : Bool). last_in (if b then row ∷ xs else x ∷ placed xs t row) u) e
      ∙ (ap (λ (b : Bool). option_map (λ (r : Row). r.last) (if b then Some row else find (λ (r : Row). r.txn.0 == u) xs)) first
      ∙ sym (ap (λ (b : Bool). option_map (λ (r : Row). r.last) (if b then Some x else find (λ (r : Row). r.txn.0 == u) xs)) was))
  | inr e ↦
      ap (λ (b : Bool). last_in (if b then row ∷ xs else x ∷ placed xs t row) u) e
      ∙ by_test (x.txn.0 == u) refl (placed_other xs t u row ne nr)
]
  where
    by_test : (b : Bool) → (x.txn.0 == u) ≡ b → last_in (placed xs t row) u ≡ last_in xs u → last_in (x ∷ placed xs t row) u ≡ last_in (x ∷ xs) u
    by_test true e h =
        ap (λ (b : Bool). option_map (λ (r : Row). r.last) (if b then Some x else find (λ (r : Row). r.txn.0 == u) (placed xs t row))) e
        ∙ sym (ap (λ (b : Bool). option_map (λ (r : Row). r.last) (if b then Some x else find (λ (r : Row). r.txn.0 == u) xs)) e)
    by_test false e h =
        ap (λ (b : Bool). option_map (λ (r : Row). r.last) (if b then Some x else find (λ (r : Row). r.txn.0 == u) (placed xs t row))) e
        ∙ (h ∙ sym (ap (λ (b : Bool). option_map (λ (r : Row). r.last) (if b then Some x else find (λ (r : Row). r.txn.0 == u) xs)) e))

-- and the row that was put is there
pub placed_own : (rows : List Row) (t u last : ℕ) (row : Row) → last_in rows t ≡ Some last → row.txn.0 ≡ u → ((u ≡ t) → ⊥) → last_in rows u ≡ None → last_in (placed rows t row) u ≡ Some row.last
placed_own [] t u last row there is apart none = absurd (let e : None ≡ Some last = there in cc)
placed_own (x ∷ xs) t u last row there is apart none = elim (cases_Bool (x.txn.0 == t)) [
  | inl e ↦
      let first : (row.txn.0 == u) ≡ true = grind (arith, nat_tests, is) in
      ap (λ (b : Bool). last_in (if b then row ∷ xs else x ∷ placed xs t row) u) e ∙ ap (λ (b : Bool). option_map (λ (r : Row). r.last) (if b then Some row else find (λ (r : Row). r.txn.0 == u) xs)) first
  | inr e ↦
      let rest : last_in xs t ≡ Some last = sym (ap (λ (b : Bool). option_map (λ (r : Row). r.last) (if b then Some x else find (λ (r : Row). r.txn.0 == t) xs)) e) ∙ there in
      ap (λ (b : Bool). last_in (if b then row ∷ xs else x ∷ placed xs t row) u) e ∙ by_test (x.txn.0 == u) refl (placed_own xs t u last row rest is apart)
]
  where
    by_test : (b : Bool) → (x.txn.0 == u) ≡ b → (last_in xs u ≡ None → last_in (placed xs t row) u ≡ Some row.last) → last_in (x ∷ placed xs t row) u ≡ Some row.last
    by_test true e h = absurd (let n : Some x.last ≡ None = sym (ap (λ (b : Bool). option_map (λ (r : Row). r.last) (if b then Some x else find (λ (r : Row). r.txn.0 == u) xs)) e) ∙ none in cc)
    by_test false e h =
        ap (λ (b : Bool). option_map (λ (r : Row). r.last) (if b then Some x else find (λ (r : Row). r.txn.0 == u) (placed xs t row))) e
        ∙ h (sym (ap (λ (b : Bool). option_map (λ (r : Row). r.last) (if b then Some x else find (λ (r : Row). r.txn.0 == u) xs)) e) ∙ none)

pub placed_self : (rows : List Row) (t last : ℕ) (row : Row) → last_in rows t ≡ Some last → row.txn.0 ≡ t → last_in (placed rows t row) t ≡ Some row.last
placed_self [] t last row there is = absurd (let e : None ≡ Some last = there in cc)
placed_self (x ∷ xs) t last row there is = elim (cases_Bool (x.txn.0 == t)) [
  | inl e ↦
      let first : (row.txn.0 == t) ≡ true = grind (arith, nat_tests, is) in
      ap (λ (b : Bool). last_in (if b then row ∷ xs else x ∷ placed xs t row) t) e ∙ ap (λ (b : Bool). option_map (λ (r : Row). r.last) (if b then Some row else find (λ (r : Row). r.txn.0 == t) xs)) first
  | inr e ↦
      let rest : last_in xs t ≡ Some last = sym (ap (λ (b : Bool). option_map (λ (r : Row). r.last) (if b then Some x else find (λ (r : Row). r.txn.0 == t) xs)) e) ∙ there in
      ap (λ (b : Bool). last_in (if b then row ∷ xs else x ∷ placed xs t row) t) e
      ∙ (ap (λ (b : Bool). option_map (λ (r : Row). r.last) (if b then Some x else find (λ (r : Row). r.txn.0 == t) (placed xs t row))) e ∙ placed_self xs t last row rest is)
]

pub after_none : (rows : List Row) (txn : TxnId) (lsn : ℕ) → txn.0 ≡ 0 → rows ≡ rows_after rows txn lsn
after_none rows txn lsn e = sym (ap (λ (b : Bool). if b then rows else placed rows txn.0 (record { txn = txn; last = lsn })) (let i : (txn.0 == 0) ≡ true = grind (arith, nat_tests, e) in i))

pub after_one : (rows : List Row) (txn : TxnId) (lsn : ℕ) → txn.0 ≢ 0 → placed rows txn.0 (record { txn = txn; last = lsn }) ≡ rows_after rows txn lsn
after_one rows txn lsn ne = sym (ap (λ (b : Bool). if b then rows else placed rows txn.0 (record { txn = txn; last = lsn })) (let i : (txn.0 == 0) ≡ false = grind (arith, nat_tests, ne) in i))

-- ROWS APART

-- the first row is of another, or of this one
row_other : (x : Row) (xs : List Row) (u : ℕ) → x.txn.0 ≢ u → last_in (x ∷ xs) u ≡ last_in xs u
row_other x xs u ne = ap (λ (b : Bool). option_map (λ (r : Row). r.last) (if b then Some x else find (λ (r : Row). r.txn.0 == u) xs)) (let e : (x.txn.0 == u) ≡ false = grind (arith, nat_tests, ne) in e)

row_own : (x : Row) (xs : List Row) (u : ℕ) → x.txn.0 ≡ u → last_in (x ∷ xs) u ≡ Some x.last
row_own x xs u is = ap (λ (b : Bool). option_map (λ (r : Row). r.last) (if b then Some x else find (λ (r : Row). r.txn.0 == u) xs)) (let e : (x.txn.0 == u) ≡ true = grind (arith, nat_tests, is) in e)

-- where none is of a transaction, the first isn't
first_other : (x : Row) (xs : List Row) (u : ℕ) → last_in (x ∷ xs) u ≡ None → x.txn.0 ≢ u
first_other x xs u none is = absurd (let no : Some x.last ≡ None = sym (row_own x xs u is) ∙ none in cc)

-- what is put in the place of the first one
placed_here : (x : Row) (xs : List Row) (t : ℕ) (row : Row) → x.txn.0 ≡ t → placed (x ∷ xs) t row ≡ row ∷ xs
placed_here x xs t row is = ap (λ (b : Bool). if b then row ∷ xs else x ∷ placed xs t row) (let e : (x.txn.0 == t) ≡ true = grind (arith, nat_tests, is) in e)

placed_there : (x : Row) (xs : List Row) (t : ℕ) (row : Row) → x.txn.0 ≢ t → placed (x ∷ xs) t row ≡ x ∷ placed xs t row
placed_there x xs t row ne = ap (λ (b : Bool). if b then row ∷ xs else x ∷ placed xs t row) (let e : (x.txn.0 == t) ≡ false = grind (arith, nat_tests, ne) in e)

-- no row of a transaction is left once another has taken the place of its one
pub none_placed : (rows : List Row) (t : ℕ) (row : Row) → AreApart rows → t ≢ 0 → row.txn.0 ≢ t → last_in (placed rows t row) t ≡ None
none_placed [] t row h some ne = refl
none_placed (x ∷ xs) t row h some ne = elim (cases_eq x.txn.0 t) as (λ _. last_in (placed (x ∷ xs) t row) t ≡ None) [
  | inl is ↦ ap (λ (ys : List Row). last_in ys t) (placed_here x xs t row is) ∙ (row_other row xs t ne ∙ subst (λ (u : ℕ). last_in xs u ≡ None) is (h.0 (λ z. some (sym is ∙ z))))
  | inr other ↦ ap (λ (ys : List Row). last_in ys t) (placed_there x xs t row other) ∙ (row_other x (placed xs t row) t other ∙ none_placed xs t row h.1 some ne)
]

-- rows stay apart where the one that is put is of the same transaction, of none, or of one without a row
pub placed_apart : (rows : List Row) (t : ℕ) (row : Row) → AreApart rows → (row.txn.0 ≢ 0 → row.txn.0 ≢ t → last_in rows row.txn.0 ≡ None) → AreApart (placed rows t row)
placed_apart [] t row h new = tt
placed_apart (x ∷ xs) t row h new = elim (cases_eq x.txn.0 t) as (λ _. AreApart (placed (x ∷ xs) t row)) [
  | inl is ↦ subst AreApart (sym (placed_here x xs t row is)) (λ some. here is some, h.1)
  | inr other ↦ subst AreApart (sym (placed_there x xs t row other)) (λ some. there other some, placed_apart xs t row h.1 (λ some ne. let none = new some ne in sym (row_other x xs row.txn.0 (first_other x xs row.txn.0 none)) ∙ none))
]
  where
    here : x.txn.0 ≡ t → row.txn.0 ≢ 0 → last_in xs row.txn.0 ≡ None
    here is some = elim (cases_eq row.txn.0 t) as (λ _. last_in xs row.txn.0 ≡ None) [
      | inl same ↦ subst (λ (u : ℕ). last_in xs u ≡ None) (is ∙ sym same) (h.0 (λ z. some (same ∙ (sym is ∙ z))))
      | inr ne ↦ let none = new some ne in sym (row_other x xs row.txn.0 (first_other x xs row.txn.0 none)) ∙ none
    ]

    there : x.txn.0 ≢ t → x.txn.0 ≢ 0 → last_in (placed xs t row) x.txn.0 ≡ None
    there other some = elim (cases_eq row.txn.0 x.txn.0) as (λ _. last_in (placed xs t row) x.txn.0 ≡ None) [
      | inl same ↦ absurd (first_other x xs row.txn.0 (new (λ z. some (sym same ∙ z)) (λ e. other (sym same ∙ e))) (sym same))
      | inr ne ↦ placed_other xs t x.txn.0 row other ne ∙ h.0 some
    ]
