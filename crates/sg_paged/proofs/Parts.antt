-- ROWS in two parts, and where one is put in the place of another.
use Rattle.std.proofs.Common.{◌≡◌, ◌≢◌, ◌⊎◌, inl, inr, ℕ, ◌-◌, ◌==◌, Bool, true, false, List, [], ◌∷◌, ◌++◌, length, Option, Some, None, IsSome, sym, ap, subst, ◌∙◌, refl, arith, slice_set}
use Rattle.std.specs.Prelude.{if◌then◌else◌, option_map}
use Rattle.std.specs.List.{find}
use Rattle.std.proofs.lemmas.Bool.{cases_eq}
use Rattle.std.proofs.lemmas.Bool.Decides.{nat_tests}
use Rattle.std.proofs.lemmas.List.{length-append}
use Rattle.std.proofs.Math.Seq.{set-append_seam}
use Rattle.sg_actions.specs.Rows.{last_in, HasRow, AreApart, placed}
use Rattle.sg_actions.specs.declared.rows.Row.{Row}
use Rattle.sg_actions.proofs.Placing.{length-placed}

-- the first row is of another, or of this one
pub row_other : (x : Row) (xs : List Row) (u : ℕ) → x.txn.0 ≢ u → last_in (x ∷ xs) u ≡ last_in xs u
row_other x xs u ne = ap (λ (b : Bool). option_map (λ (r : Row). r.last) (if b then Some x else find (λ (r : Row). r.txn.0 == u) xs)) (let e : (x.txn.0 == u) ≡ false = grind (arith, nat_tests, ne) in e)

pub row_own : (x : Row) (xs : List Row) (u : ℕ) → x.txn.0 ≡ u → last_in (x ∷ xs) u ≡ Some x.last
row_own x xs u is = ap (λ (b : Bool). option_map (λ (r : Row). r.last) (if b then Some x else find (λ (r : Row). r.txn.0 == u) xs)) (let e : (x.txn.0 == u) ≡ true = grind (arith, nat_tests, is) in e)

none_some : (l : ℕ) → Some l ≡ None → ⊥
none_some l e = absurd (cc)

-- where none is of a transaction, the first isn't
pub first_other : (x : Row) (xs : List Row) (u : ℕ) → last_in (x ∷ xs) u ≡ None → x.txn.0 ≢ u
first_other x xs u none is = none_some x.last (sym (row_own x xs u is) ∙ none)

pub none_rest : (x : Row) (xs : List Row) (u : ℕ) → last_in (x ∷ xs) u ≡ None → last_in xs u ≡ None
none_rest x xs u none = sym (row_other x xs u (first_other x xs u none)) ∙ none

-- a row that is there
pub none_has : (xs : List Row) (u : ℕ) → last_in xs u ≡ None → HasRow xs u → ⊥
none_has xs u none h = absurd (let e : IsSome {T = ℕ} None = subst IsSome none h in cc)

pub some_has : (xs : List Row) (u l : ℕ) → last_in xs u ≡ Some l → HasRow xs u
some_has xs u l e = subst IsSome (sym e) refl

pub own_has : (x : Row) (xs : List Row) (u : ℕ) → x.txn.0 ≡ u → HasRow (x ∷ xs) u
own_has x xs u is = some_has (x ∷ xs) u x.last (row_own x xs u is)

pub more_has : (x : Row) (xs : List Row) (u : ℕ) → HasRow xs u → HasRow (x ∷ xs) u
more_has x xs u h = elim (cases_eq x.txn.0 u) as (λ _. HasRow (x ∷ xs) u) [
  | inl is ↦ own_has x xs u is
  | inr ne ↦ subst IsSome (sym (row_other x xs u ne)) h
]

rest_has : (x : Row) (xs : List Row) (u : ℕ) → x.txn.0 ≢ u → HasRow (x ∷ xs) u → HasRow xs u
rest_has x xs u ne h = subst IsSome (row_other x xs u ne) h

-- IN TWO PARTS
pub found_front : (xs ys : List Row) (u l : ℕ) → last_in xs u ≡ Some l → last_in (xs ++ ys) u ≡ Some l
found_front [] ys u l e = absurd (none_some l (sym e))
found_front (x ∷ xs) ys u l e = elim (cases_eq x.txn.0 u) as (λ _. last_in (x ∷ (xs ++ ys)) u ≡ Some l) [
  | inl is ↦ row_own x (xs ++ ys) u is ∙ (sym (row_own x xs u is) ∙ e)
  | inr ne ↦ row_other x (xs ++ ys) u ne ∙ found_front xs ys u l (sym (row_other x xs u ne) ∙ e)
]

pub found_back : (xs ys : List Row) (u : ℕ) → last_in xs u ≡ None → last_in (xs ++ ys) u ≡ last_in ys u
found_back [] ys u none = refl
found_back (x ∷ xs) ys u none = row_other x (xs ++ ys) u (first_other x xs u none) ∙ found_back xs ys u (none_rest x xs u none)

pub none_front : (xs ys : List Row) (u : ℕ) → last_in (xs ++ ys) u ≡ None → last_in xs u ≡ None
none_front [] ys u none = refl
none_front (x ∷ xs) ys u none = row_other x xs u (first_other x (xs ++ ys) u none) ∙ none_front xs ys u (none_rest x (xs ++ ys) u none)

pub none_back : (xs ys : List Row) (u : ℕ) → last_in (xs ++ ys) u ≡ None → last_in ys u ≡ None
none_back [] ys u none = none
none_back (x ∷ xs) ys u none = none_back xs ys u (none_rest x (xs ++ ys) u none)

pub front_has : (xs ys : List Row) (u : ℕ) → HasRow xs u → HasRow (xs ++ ys) u
front_has [] ys u h = absurd (none_has [] u refl h)
front_has (x ∷ xs) ys u h = elim (cases_eq x.txn.0 u) as (λ _. HasRow (x ∷ (xs ++ ys)) u) [
  | inl is ↦ own_has x (xs ++ ys) u is
  | inr ne ↦ more_has x (xs ++ ys) u (front_has xs ys u (rest_has x xs u ne h))
]

pub back_has : (xs ys : List Row) (u : ℕ) → HasRow ys u → HasRow (xs ++ ys) u
back_has [] ys u h = h
back_has (x ∷ xs) ys u h = more_has x (xs ++ ys) u (back_has xs ys u h)

pub apart_front : (xs ys : List Row) → AreApart (xs ++ ys) → AreApart xs
apart_front [] ys h = tt
apart_front (x ∷ xs) ys h = (λ some. none_front xs ys x.txn.0 (h.0 some), apart_front xs ys h.1)

pub apart_back : (xs ys : List Row) → AreApart (xs ++ ys) → AreApart ys
apart_back [] ys h = h
apart_back (x ∷ xs) ys h = apart_back xs ys h.1

-- with one more behind them
pub apart_more : (xs : List Row) (r : Row) → AreApart xs → (r.txn.0 ≢ 0 → last_in xs r.txn.0 ≡ None) → AreApart (xs ++ r ∷ [])
apart_more [] r h none = (λ some. refl, tt)
apart_more (x ∷ xs) r h none = (
  λ some.
      let ne : r.txn.0 ≢ x.txn.0 = λ e. first_other x xs r.txn.0 (none (λ z. some (sym e ∙ z))) (sym e) in
      found_back xs (r ∷ []) x.txn.0 (h.0 some) ∙ row_other r [] x.txn.0 ne,
  apart_more xs r h.1 (λ some. none_rest x xs r.txn.0 (none some)),
)

-- the last one is of none that is before it
pub apart_last : (xs : List Row) (r : Row) → AreApart (xs ++ r ∷ []) → r.txn.0 ≢ 0 → last_in xs r.txn.0 ≡ None
apart_last [] r h some = refl
apart_last (x ∷ xs) r h some = elim (cases_eq x.txn.0 r.txn.0) as (λ _. last_in (x ∷ xs) r.txn.0 ≡ None) [
  | inl is ↦ absurd (first_other r [] x.txn.0 (none_back xs (r ∷ []) x.txn.0 (h.0 (λ z. some (sym is ∙ z)))) (sym is))
  | inr ne ↦ row_other x xs r.txn.0 ne ∙ apart_last xs r h.1 some
]

-- the last one, with another in its place
pub last_set : (xs : List Row) (l r : Row) → slice_set (xs ++ l ∷ []) (length (xs ++ l ∷ []) - 1) r ≡ xs ++ r ∷ []
last_set xs l r =
    let e : length (xs ++ l ∷ []) - 1 ≡ length xs = (let n = length-append xs (l ∷ []) in omega (arith, n)) in
    ap (λ (i : ℕ). slice_set (xs ++ l ∷ []) i r) e ∙ set-append_seam xs l [] r

-- A ROW IS PUT in the place of a transaction's
placed_here : (x : Row) (xs : List Row) (t : ℕ) (row : Row) → x.txn.0 ≡ t → placed (x ∷ xs) t row ≡ row ∷ xs
placed_here x xs t row is = ap (λ (b : Bool). if b then row ∷ xs else x ∷ placed xs t row) (let e : (x.txn.0 == t) ≡ true = grind (arith, nat_tests, is) in e)

placed_there : (x : Row) (xs : List Row) (t : ℕ) (row : Row) → x.txn.0 ≢ t → placed (x ∷ xs) t row ≡ x ∷ placed xs t row
placed_there x xs t row ne = ap (λ (b : Bool). if b then row ∷ xs else x ∷ placed xs t row) (let e : (x.txn.0 == t) ≡ false = grind (arith, nat_tests, ne) in e)

pub placed_front : (xs ys : List Row) (t l : ℕ) (row : Row) → last_in xs t ≡ Some l → placed (xs ++ ys) t row ≡ placed xs t row ++ ys
placed_front [] ys t l row e = absurd (none_some l (sym e))
placed_front (x ∷ xs) ys t l row e = elim (cases_eq x.txn.0 t) as (λ _. placed (x ∷ (xs ++ ys)) t row ≡ placed (x ∷ xs) t row ++ ys) [
  | inl is ↦ placed_here x (xs ++ ys) t row is ∙ sym (ap (λ (zs : List Row). zs ++ ys) (placed_here x xs t row is))
  | inr ne ↦ placed_there x (xs ++ ys) t row ne
      ∙ (ap (λ (zs : List Row). x ∷ zs) (placed_front xs ys t l row (sym (row_other x xs t ne) ∙ e)) ∙ sym (ap (λ (zs : List Row). zs ++ ys) (placed_there x xs t row ne)))
]

pub placed_back : (xs ys : List Row) (t : ℕ) (row : Row) → last_in xs t ≡ None → placed (xs ++ ys) t row ≡ xs ++ placed ys t row
placed_back [] ys t row none = refl
placed_back (x ∷ xs) ys t row none = placed_there x (xs ++ ys) t row (first_other x xs t none) ∙ ap (λ (zs : List Row). x ∷ zs) (placed_back xs ys t row (none_rest x xs t none))

-- a second time
pub placed_twice : (xs : List Row) (t : ℕ) (row next : Row) → row.txn.0 ≡ t → placed (placed xs t row) t next ≡ placed xs t next
placed_twice [] t row next is = refl
placed_twice (x ∷ xs) t row next is = elim (cases_eq x.txn.0 t) as (λ _. placed (placed (x ∷ xs) t row) t next ≡ placed (x ∷ xs) t next) [
  | inl e ↦ ap (λ (zs : List Row). placed zs t next) (placed_here x xs t row e) ∙ (placed_here row xs t next is ∙ sym (placed_here x xs t next e))
  | inr ne ↦ ap (λ (zs : List Row). placed zs t next) (placed_there x xs t row ne)
      ∙ (placed_there x (placed xs t row) t next ne ∙ (ap (λ (zs : List Row). x ∷ zs) (placed_twice xs t row next is) ∙ sym (placed_there x xs t next ne)))
]

-- whose rows are there then: it was there, or was put
pub placed_has : (xs : List Row) (t u : ℕ) (row : Row) → HasRow (placed xs t row) u → HasRow xs u ⊎ ((u ≡ row.txn.0) × HasRow xs t)
placed_has [] t u row h = inl h
placed_has (x ∷ xs) t u row h = elim (cases_eq x.txn.0 t) as (λ _. HasRow (x ∷ xs) u ⊎ ((u ≡ row.txn.0) × HasRow (x ∷ xs) t)) [
  | inl is ↦ here is (subst (λ (zs : List Row). HasRow zs u) (placed_here x xs t row is) h)
  | inr ne ↦ there (subst (λ (zs : List Row). HasRow zs u) (placed_there x xs t row ne) h) (placed_has xs t u row)
]
  where
    here : x.txn.0 ≡ t → HasRow (row ∷ xs) u → HasRow (x ∷ xs) u ⊎ ((u ≡ row.txn.0) × HasRow (x ∷ xs) t)
    here is k = elim (cases_eq row.txn.0 u) as (λ _. HasRow (x ∷ xs) u ⊎ ((u ≡ row.txn.0) × HasRow (x ∷ xs) t)) [
      | inl e ↦ inr (sym e, own_has x xs t is)
      | inr ne ↦ inl (more_has x xs u (rest_has row xs u ne k))
    ]

    more : HasRow xs u ⊎ ((u ≡ row.txn.0) × HasRow xs t) → HasRow (x ∷ xs) u ⊎ ((u ≡ row.txn.0) × HasRow (x ∷ xs) t)
    more (inl k) = inl (more_has x xs u k)
    more (inr k) = inr (k.0, more_has x xs t k.1)

    there : HasRow (x ∷ placed xs t row) u → (HasRow (placed xs t row) u → HasRow xs u ⊎ ((u ≡ row.txn.0) × HasRow xs t)) → HasRow (x ∷ xs) u ⊎ ((u ≡ row.txn.0) × HasRow (x ∷ xs) t)
    there k ih = elim (cases_eq x.txn.0 u) as (λ _. HasRow (x ∷ xs) u ⊎ ((u ≡ row.txn.0) × HasRow (x ∷ xs) t)) [
      | inl e ↦ inl (own_has x xs u e)
      | inr ne ↦ more (ih (rest_has x (placed xs t row) u ne k))
    ]

-- ROWS OF TWO KINDS AND A LAST ONE, once a row is put in the place of a transaction's
pub record Put (old front : List Row) (last : Row) (rows : List Row) (t : ℕ) (row : Row) : Type 0 where
  pub old_now : List Row
  pub now : List Row
  pub last_now : Row
  pub are : rows ≡ old_now ++ (now ++ last_now ∷ [])
  pub long : length now ≡ length front
  pub each : (u : ℕ) → HasRow now u → HasRow front u ⊎ ((u ≡ row.txn.0) × HasRow front t)
  pub last_is : (last_now ≡ last) ⊎ ((last_now ≡ row) × (last.txn.0 ≡ t) × (last_in front t ≡ None))

pub put : (old front : List Row) (last : Row) (t : ℕ) (row : Row) → Put old front last (placed (old ++ (front ++ last ∷ [])) t row) t row
put old front last t row = by_old (last_in old t) refl
  where
    by_front : (o : Option ℕ) → last_in front t ≡ o → last_in old t ≡ None → Put old front last (placed (old ++ (front ++ last ∷ [])) t row) t row
    by_front (Some l) f e = record {
      old_now = old;
      now = placed front t row;
      last_now = last;
      are = placed_back old (front ++ last ∷ []) t row e ∙ ap (λ (zs : List Row). old ++ zs) (placed_front front (last ∷ []) t l row f);
      long = length-placed front t row;
      each = λ u h. placed_has front t u row h;
      last_is = inl refl;
    }
    by_front None f e =
        let back : placed (old ++ (front ++ last ∷ [])) t row ≡ old ++ (front ++ placed (last ∷ []) t row) = placed_back old (front ++ last ∷ []) t row e ∙ ap (λ (zs : List Row). old ++ zs) (placed_back front (last ∷ []) t row f) in
        elim (cases_eq last.txn.0 t) as (λ _. Put old front last (placed (old ++ (front ++ last ∷ [])) t row) t row) [
          | inl is ↦ record { old_now = old; now = front; last_now = row; are = back ∙ ap (λ (zs : List Row). old ++ (front ++ zs)) (placed_here last [] t row is); long = refl; each = λ u h. inl h; last_is = inr (refl, is, f) }
          | inr ne ↦ record { old_now = old; now = front; last_now = last; are = back ∙ ap (λ (zs : List Row). old ++ (front ++ zs)) (placed_there last [] t row ne); long = refl; each = λ u h. inl h; last_is = inl refl }
        ]

    by_old : (o : Option ℕ) → last_in old t ≡ o → Put old front last (placed (old ++ (front ++ last ∷ [])) t row) t row
    by_old (Some l) e = record { old_now = placed old t row; now = front; last_now = last; are = placed_front old (front ++ last ∷ []) t l row e; long = refl; each = λ u h. inl h; last_is = inl refl }
    by_old None e = by_front (last_in front t) refl e
