-- Rows as a checkpoint spells them.
use Rattle.std.proofs.Common.{◌≡◌, ◌≢◌, ℕ, zero, suc, ◌+◌, ◌*◌, ◌-◌, ◌==◌, ◌≤◌, List, [], ◌∷◌, ◌++◌, length, take, drop, Bool, true, false, sym, ap, subst, ◌∙◌, refl, arith, ◌<◌}
use Rattle.std.specs.Prelude.{if◌then◌else◌, Option, Some, IfSome}
use Rattle.sg_actions.specs.Changes.{HasTaken}
use Rattle.std.proofs.lemmas.Bool.Decides.{nat_tests}
use Rattle.std.proofs.lemmas.List.{append_assoc, length-append, length-take-le, length-drop, take-append-drop}
use borrow.Rule.Slice.PartMut.{put_mid}
use Rattle.sg_actions.specs.Checkpoints.{row_bytes, rows_bytes}
use Rattle.sg_actions.specs.declared.rows.Row.{Row}
use Rattle.sg_actions.proofs.Placing.{front_is}

-- some rows are spelled at the front of a buffer, and the others are left
pub record AreSpelled (rows left : List Row) (into : List ℕ) (size : ℕ) : Type 0 where
  pub long : length into ≡ 1024
  pub within : size ≤ 1024
  pub are : take size into ++ rows_bytes left ≡ rows_bytes rows

pub spelled_none : (rows : List Row) (into : List ℕ) → length into ≡ 1024 → AreSpelled rows rows into 0
spelled_none rows into e = record { long = e; within = omega arith; are = refl }

-- a vacant row
pub spelled_off : (rows left more : List Row) (row : Row) (into : List ℕ) (size : ℕ) → left ≡ row ∷ more → row.txn.0 ≡ 0 → AreSpelled rows left into size → AreSpelled rows more into size
spelled_off rows left more row into size e vacant h = record {
  long = h.long;
  within = h.within;
  are =
      let t : (row.txn.0 == 0) ≡ true = grind (arith, nat_tests, vacant) in
      ap (λ (xs : List ℕ). take size into ++ xs) (sym (ap rows_bytes e ∙ ap (λ (b : Bool). if b then rows_bytes more else row_bytes row ++ rows_bytes more) t)) ∙ h.are;
}

-- and one that isn't
pub spelled_on : (rows left more : List Row) (row : Row) (into next : List ℕ) (size : ℕ) → left ≡ row ∷ more → row.txn.0 ≢ 0 → length (row_bytes row) ≡ 16 → size ≤ 1008 → next ≡ put_mid size 16 into (row_bytes row) → AreSpelled rows left into size → AreSpelled rows more next (size + 16)
spelled_on rows left more row into next size e some long fits is h =
    let front : length (take size into) ≡ size = length-take-le size into (omega (arith, h.long, fits)) in
    let rest : List ℕ = drop 16 (drop size into) in
    let both : length (take size into ++ row_bytes row) ≡ size + 16 = length-append (take size into) (row_bytes row) ∙ (let z : length (take size into) + length (row_bytes row) ≡ size + 16 = omega (arith, front, long) in z) in
    let whole : next ≡ (take size into ++ row_bytes row) ++ rest = is ∙ sym (append_assoc (take size into) (row_bytes row) rest) in
    let f : (row.txn.0 == 0) ≡ false = grind (arith, nat_tests, some) in
    record {
      long =
          let a : length next ≡ length (take size into ++ row_bytes row) + length rest = ap (λ (xs : List ℕ). length xs) whole ∙ length-append (take size into ++ row_bytes row) rest in
          let b : length rest ≡ length (drop size into) - 16 = length-drop 16 (drop size into) in
          let d : length (drop size into) ≡ length into - size = length-drop size into in
          omega (arith, a, b, d, both, h.long, fits);
      within = omega (arith, fits);
      are =
          ap (λ (xs : List ℕ). take (size + 16) xs ++ rows_bytes more) whole
          ∙ (ap (λ (xs : List ℕ). xs ++ rows_bytes more) (front_is (size + 16) (take size into ++ row_bytes row) rest both)
          ∙ (append_assoc (take size into) (row_bytes row) (rows_bytes more)
          ∙ (ap (λ (xs : List ℕ). take size into ++ xs) (sym (ap rows_bytes e ∙ ap (λ (b : Bool). if b then rows_bytes more else row_bytes row ++ rows_bytes more) f)) ∙ h.are)));
    }

-- so many bytes of rows
pub record AreSized (rows : List Row) : Type 0 where
  pub many : ℕ
  pub is : length (rows_bytes rows) ≡ 16 * many
  pub few : many ≤ length rows

pub rows_sized : (rows : List Row) → AreSized rows
rows_sized [] = record { many = 0; is = refl; few = omega arith }
rows_sized (r ∷ rows) = let p = by_vacant (r.txn.0 == 0) (rows_sized rows) in record { many = p.0; is = p.1; few = p.2 }
  where
    by_vacant : (b : Bool) → AreSized rows → (many : ℕ) × (length (if b then rows_bytes rows else row_bytes r ++ rows_bytes rows) ≡ 16 * many) × (many ≤ length (r ∷ rows))
    by_vacant true h = (h.many, h.is, (let f = h.few in omega (arith, f)))
    by_vacant false h = (1 + h.many, length-append (row_bytes r) (rows_bytes rows) ∙ (let i = h.is in omega (arith, i)), (let f = h.few in omega (arith, f)))

-- what was spelled
pub spelled_is : (r : Option ℕ) (size : ℕ) (into : List ℕ) (rows items : List Row) → r ≡ Some size → IfSome r (HasTaken into (rows_bytes rows)) → rows ≡ items → take size into ≡ rows_bytes items
spelled_is r size into rows items is h same = (subst (λ (q : Option ℕ). IfSome q (HasTaken into (rows_bytes rows))) is h).are ∙ ap rows_bytes same

pub length_taken : (n : ℕ) (into : List ℕ) → length into ≡ 1024 → length (take n into) ≤ 1024
length_taken n into e =
    let both : length (take n into ++ drop n into) ≡ length into = ap length (take-append-drop n into) in
    let two = length-append (take n into) (drop n into) in
    omega (arith, both, two, e)

-- the first of some are no more than so many
pub take_short : (n : ℕ) (rows : List Row) → length (take n rows) ≤ n
take_short zero rows = omega arith
take_short (suc n) [] = omega arith
take_short (suc n) (r ∷ rows) = let h = take_short n rows in omega (arith, h)

-- the bytes of 64 rows fit
pub rows_fit : (rows left : List Row) → left ≡ rows → length rows ≤ 64 → 1024 < length (rows_bytes left) → ⊥
rows_fit rows left is few far =
    let s = rows_sized rows in
    let same : length (rows_bytes left) ≡ length (rows_bytes rows) = ap (λ (rs : List Row). length (rows_bytes rs)) is in
    absurd (let a = s.is in let b = s.few in omega (arith, a, b, same, few, far))
