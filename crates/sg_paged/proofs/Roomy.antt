-- ROOM FOR TRANSACTIONS behind each call: where one begins, acts, commits or ends.
use Rattle.std.proofs.Common.{◌≡◌, ◌≢◌, ◌⊎◌, inl, inr, ℕ, ◌-◌, ◌==◌, ◌<◌, ◌≤◌, Bool, true, false, not, cond, List, [], ◌∷◌, ◌++◌, length, Option, Some, None, sym, ap, subst, ◌∙◌, refl, arith, slice_set}
use Rattle.std.specs.Prelude.{◌||◌}
use Rattle.std.proofs.lemmas.Bool.{cases_eq}
use Rattle.std.proofs.lemmas.List.{append_assoc}
use Rattle.sg_base.specs.declared.numbers.TxnId.{TxnId}
use Rattle.sg_recovery.specs.Log.{tally, is_in, without}
use Rattle.sg_recovery.specs.Log.Record.{Begin}
use Rattle.sg_recovery.proofs.Basic.{or_left, or_right, same_number, other_number}
use Rattle.sg_recovery.proofs.Showing.{without_same, without_in}
use Rattle.sg_actions.specs.Ending.{vacant}
use Rattle.sg_actions.specs.Rows.{last_in, HasRow, AreApart, placed, rows_after}
use Rattle.sg_actions.specs.Steps.{Steps, stepped}
use Rattle.sg_actions.specs.TakingOff.{AreRows}
use Rattle.sg_actions.specs.declared.rows.Actor.{Actor}
use Rattle.sg_actions.specs.declared.rows.Row.{Row}
use Rattle.sg_actions.proofs.Placing.{none_placed, placed_apart, placed_other, after_none, after_one, length-placed}
use Rattle.sg_shown.specs.Spare.{HasSpare}
use Rattle.sg_shown.proofs.Spared.{spare_on}
use Rattle.sg_paged.proofs.Parts.{row_other, row_own, first_other, none_rest, none_has, own_has, more_has, some_has, front_has, back_has, found_front, found_back, none_front, none_back, apart_front, apart_back, apart_more, apart_last, last_set, Put, put}

-- OF NUMBERS
both_false : (a b : Bool) → a ≡ false → b ≡ false → (a || b) ≡ false
both_false true b e f = absurd (cc)
both_false false b e f = f

not_true : (b : Bool) → (b ≡ true → ⊥) → b ≡ false
not_true true h = absurd (h refl)
not_true false h = refl

clash : (b : Bool) → b ≡ false → b ≡ true → ⊥
clash b e f = absurd (cc)

-- one that isn't there isn't there without another
without_gone : (t u : ℕ) (live : List ℕ) → is_in u live ≡ false → is_in u (without t live) ≡ false
without_gone t u live gone = not_true (is_in u (without t live)) (λ h. clash (is_in u live) gone (without_in t u live h))

without_most : (t : ℕ) (live : List ℕ) → length (without t live) ≤ length live
without_most t [] = omega arith
without_most t (a ∷ live) = by_test (not (a == t)) (without_most t live)
  where
    by_test : (b : Bool) → length (without t live) ≤ length live → length (cond b (a ∷ without t live) (without t live)) ≤ length (a ∷ live)
    by_test true ih = omega (arith, ih)
    by_test false ih = omega (arith, ih)

-- and without one that is there they are fewer
without_less : (t : ℕ) (live : List ℕ) → is_in t live ≡ true → length (without t live) < length live
without_less t [] h = absurd (cc)
without_less t (a ∷ live) h = by_test (a == t) h (without_most t live) (without_less t live)
  where
    by_test : (b : Bool) → (b || is_in t live) ≡ true → length (without t live) ≤ length live → (is_in t live ≡ true → length (without t live) < length live) → length (cond (not b) (a ∷ without t live) (without t live)) < length (a ∷ live)
    by_test true k most ih = omega (arith, most)
    by_test false k most ih = let less = ih k in omega (arith, less)

-- AS MANY GO ON as there are rows of transactions that go on, if none is vacant
pub as_many : (front : List Row) (live : List ℕ) → AreApart front → last_in front 0 ≡ None → ((u : ℕ) → u ≢ 0 → HasRow front u → is_in u live ≡ true) → length front ≤ length live
as_many [] live h none going = omega arith
as_many (x ∷ xs) live h none going =
    let some : x.txn.0 ≢ 0 = first_other x xs 0 none in
    let there : is_in x.txn.0 live ≡ true = going x.txn.0 some (own_has x xs x.txn.0 refl) in
    let rest = as_many xs (without x.txn.0 live) h.1 (none_rest x xs 0 none)
    (λ u nz k. without_same x.txn.0 u live (λ e. none_has xs x.txn.0 (h.0 some) (subst (λ (n : ℕ). HasRow xs n) e k)) ∙ going u nz (more_has x xs u k)) in
    let less = without_less x.txn.0 live there in
    omega (arith, rest, less)

-- so where fewer go on one is vacant
pub vacant_front : {rs : Steps} {rows : List Row} (s : HasSpare rs rows) → AreApart rows → length (tally rs).live < 64 → HasRow s.front 0
vacant_front {rs} {rows} s apart few = by_vacant (last_in s.front 0) refl
  where
    own : AreApart s.front
    own = apart_front s.front (s.last ∷ []) (apart_back s.old (s.front ++ s.last ∷ []) (subst AreApart s.are apart))

    by_vacant : (o : Option ℕ) → last_in s.front 0 ≡ o → HasRow s.front 0
    by_vacant (Some l) e = some_has s.front 0 l e
    by_vacant None e = absurd (let n = as_many s.front (tally rs).live own e s.going in let m = s.many in omega (arith, n, m, few))

pub vacant_row : {rs : Steps} {rows : List Row} (s : HasSpare rs rows) → AreApart rows → length (tally rs).live < 64 → HasRow rows 0
vacant_row {rs} {rows} s apart few =
    subst (λ (xs : List Row). HasRow xs 0) (sym s.are) (back_has s.old (s.front ++ s.last ∷ []) 0 (front_has s.front (s.last ∷ []) 0 (vacant_front s apart few)))

pub spare_rows : {rs : Steps} {rows rows' : List Row} → rows' ≡ rows → HasSpare rs rows → HasSpare rs rows'
spare_rows {rs} e s = subst (λ (xs : List Row). HasSpare rs xs) (sym e) s

-- A ROW IS PUT
spare_put : {rs : Steps} {rows : List Row} (s : HasSpare rs rows) (t : ℕ) (row : Row) → Put s.old s.front s.last (placed rows t row) t row
spare_put {rs} {rows} s t row = subst (λ (xs : List Row). Put s.old s.front s.last (placed xs t row) t row) (sym s.are) (put s.old s.front s.last t row)

-- of the same transaction
pub spare_same : {rs rs' : Steps} {rows : List Row} (t : ℕ) (row : Row) → (tally rs').live ≡ (tally rs).live → row.txn.0 ≡ t → HasSpare rs rows → HasSpare rs' (placed rows t row)
spare_same {rs} {rs'} {rows} t row lives is s = record {
  old = p.old_now;
  front = p.now;
  last = p.last_now;
  are = p.are;
  many = subst (λ (n : ℕ). 64 ≤ n) (sym p.long) s.many;
  going = λ u some h. ap (is_in u) lives ∙ s.going u some (was u (p.each u h));
  gone = ap (is_in p.last_now.txn.0) lives ∙ by_last p.last_is;
}
  where
    p : Put s.old s.front s.last (placed rows t row) t row
    p = spare_put s t row

    was : (u : ℕ) → HasRow s.front u ⊎ ((u ≡ row.txn.0) × HasRow s.front t) → HasRow s.front u
    was u (inl h) = h
    was u (inr h) = subst (λ (n : ℕ). HasRow s.front n) (sym (h.0 ∙ is)) h.1

    by_last : (p.last_now ≡ s.last) ⊎ ((p.last_now ≡ row) × (s.last.txn.0 ≡ t) × (last_in s.front t ≡ None)) → is_in p.last_now.txn.0 (tally rs).live ≡ false
    by_last (inl e) = ap (λ (r : Row). is_in r.txn.0 (tally rs).live) e ∙ s.gone
    by_last (inr h) = ap (λ (r : Row). is_in r.txn.0 (tally rs).live) h.0 ∙ (ap (λ (n : ℕ). is_in n (tally rs).live) (is ∙ sym h.1) ∙ s.gone)

pub spare_after : {rs rs' : Steps} {rows : List Row} (txn : TxnId) (lsn : ℕ) → (tally rs').live ≡ (tally rs).live → HasSpare rs rows → HasSpare rs' (rows_after rows txn lsn)
spare_after {rs} {rs'} {rows} txn lsn lives s = elim (cases_eq txn.0 0) as (λ _. HasSpare rs' (rows_after rows txn lsn)) [
  | inl z ↦ subst (λ (xs : List Row). HasSpare rs' xs) (after_none rows txn lsn z) (spare_on lives refl s)
  | inr nz ↦ subst (λ (xs : List Row). HasSpare rs' xs) (after_one rows txn lsn nz) (spare_same txn.0 (record { txn = txn; last = lsn }) lives refl s)
]

-- of one that begins, which has no row yet
pub spare_begun : {rs : Steps} {rows : List Row} (txn : TxnId) → AreApart rows → length (tally rs).live < 64 → last_in rows txn.0 ≡ None → HasSpare rs rows
    → HasSpare (stepped rs txn.0 (Begin txn.0 0)) (placed rows 0 (record { txn = txn; last = txn.0 }))
spare_begun {rs} {rows} txn apart few none s = record {
  old = p.old_now;
  front = p.now;
  last = p.last_now;
  are = p.are;
  many = subst (λ (n : ℕ). 64 ≤ n) (sym p.long) s.many;
  going = λ u some h. by_each u some (p.each u h);
  gone = by_last p.last_is;
}
  where
    p : Put s.old s.front s.last (placed rows 0 (record { txn = txn; last = txn.0 })) 0 (record { txn = txn; last = txn.0 })
    p = spare_put s 0 (record { txn = txn; last = txn.0 })

    by_each : (u : ℕ) → u ≢ 0 → HasRow s.front u ⊎ ((u ≡ txn.0) × HasRow s.front 0) → (txn.0 == u || is_in u (tally rs).live) ≡ true
    by_each u some (inl h) = or_right (txn.0 == u) (is_in u (tally rs).live) (s.going u some h)
    by_each u some (inr h) = or_left (txn.0 == u) (is_in u (tally rs).live) (subst (λ (n : ℕ). (n == u) ≡ true) h.0 (same_number u))

    other : s.last.txn.0 ≢ txn.0
    other = first_other s.last [] txn.0 (none_back s.front (s.last ∷ []) txn.0 (none_back s.old (s.front ++ s.last ∷ []) txn.0 (subst (λ (xs : List Row). last_in xs txn.0 ≡ None) s.are none)))

    by_last : (p.last_now ≡ s.last) ⊎ ((p.last_now ≡ record { txn = txn; last = txn.0 }) × (s.last.txn.0 ≡ 0) × (last_in s.front 0 ≡ None))
        → (txn.0 == p.last_now.txn.0 || is_in p.last_now.txn.0 (tally rs).live) ≡ false
    by_last (inl e) = ap (λ (r : Row). txn.0 == r.txn.0 || is_in r.txn.0 (tally rs).live) e
        ∙ both_false (txn.0 == s.last.txn.0) (is_in s.last.txn.0 (tally rs).live) (other_number txn.0 s.last.txn.0 (λ e'. other (sym e'))) s.gone
    by_last (inr h) = absurd (none_has s.front 0 h.2 (vacant_front s apart few))

-- of none, where one goes on no more
pub spare_ended : {rs rs' : Steps} {rows : List Row} (t : ℕ) → (tally rs').live ≡ without t (tally rs).live → is_in 0 (tally rs).live ≡ false → AreApart rows → HasSpare rs rows → HasSpare rs' (placed rows t vacant)
spare_ended {rs} {rs'} {rows} t lives system apart s = record {
  old = p.old_now;
  front = p.now;
  last = p.last_now;
  are = p.are;
  many = subst (λ (n : ℕ). 64 ≤ n) (sym p.long) s.many;
  going = λ u some h. ap (is_in u) lives ∙ (without_same t u (tally rs).live (other u some h) ∙ by_each u some (p.each u h));
  gone = ap (is_in p.last_now.txn.0) lives ∙ by_last p.last_is;
}
  where
    p : Put s.old s.front s.last (placed rows t vacant) t vacant
    p = spare_put s t vacant

    left : t ≢ 0 → last_in p.now t ≡ None
    left nz = none_front p.now (p.last_now ∷ []) t (none_back p.old_now (p.now ++ p.last_now ∷ []) t
        (subst (λ (xs : List Row). last_in xs t ≡ None) p.are (none_placed rows t vacant apart nz (λ z. nz (sym z)))))

    other : (u : ℕ) → u ≢ 0 → HasRow p.now u → u ≢ t
    other u some h e = none_has p.now t (left (λ z. some (e ∙ z))) (subst (λ (n : ℕ). HasRow p.now n) e h)

    by_each : (u : ℕ) → u ≢ 0 → HasRow s.front u ⊎ ((u ≡ 0) × HasRow s.front t) → is_in u (tally rs).live ≡ true
    by_each u some (inl h) = s.going u some h
    by_each u some (inr h) = absurd (some h.0)

    by_last : (p.last_now ≡ s.last) ⊎ ((p.last_now ≡ vacant) × (s.last.txn.0 ≡ t) × (last_in s.front t ≡ None)) → is_in p.last_now.txn.0 (without t (tally rs).live) ≡ false
    by_last (inl e) = ap (λ (r : Row). is_in r.txn.0 (without t (tally rs).live)) e ∙ without_gone t s.last.txn.0 (tally rs).live s.gone
    by_last (inr h) = ap (λ (r : Row). is_in r.txn.0 (without t (tally rs).live)) h.0 ∙ without_gone t 0 (tally rs).live system

-- THE LAST ROW is of another that goes on no more
pub spare_last : {rs : Steps} {rows : List Row} (row : Row) → is_in row.txn.0 (tally rs).live ≡ false → HasSpare rs rows → HasSpare rs (slice_set rows (length rows - 1) row)
spare_last {rs} {rows} row gone s = record {
  old = s.old;
  front = s.front;
  last = row;
  are = subst (λ (xs : List Row). slice_set xs (length xs - 1) row ≡ s.old ++ (s.front ++ row ∷ [])) (sym parts)
      (last_set (s.old ++ s.front) s.last row ∙ append_assoc s.old s.front (row ∷ []));
  many = s.many;
  going = s.going;
  gone = gone;
}
  where
    parts : rows ≡ (s.old ++ s.front) ++ s.last ∷ []
    parts = s.are ∙ sym (append_assoc s.old s.front (s.last ∷ []))

-- A TRANSACTION LEAVES, which goes on no more: its place is vacant, and its row the last one
module _ (rs : Steps) (rows : List Row) (txn : TxnId) (lsn : ℕ) (s : HasSpare rs (placed rows txn.0 vacant)) where
  abbrev here : Row
  here = record { txn = txn; last = lsn }

  abbrev others : List Row
  others = s.old ++ s.front

  parts : placed rows txn.0 vacant ≡ others ++ s.last ∷ []
  parts = s.are ∙ sym (append_assoc s.old s.front (s.last ∷ []))

  now_are : slice_set (placed rows txn.0 vacant) (length rows - 1) here ≡ others ++ here ∷ []
  now_are = subst (λ (n : ℕ). slice_set (placed rows txn.0 vacant) (n - 1) here ≡ others ++ here ∷ []) (length-placed rows txn.0 vacant)
      (subst (λ (xs : List Row). slice_set xs (length xs - 1) here ≡ others ++ here ∷ []) (sym parts) (last_set others s.last here))

  pub spare_left : is_in txn.0 (tally rs).live ≡ false → HasSpare rs (slice_set (placed rows txn.0 vacant) (length rows - 1) here)
  spare_left gone = subst (λ (n : ℕ). HasSpare rs (slice_set (placed rows txn.0 vacant) (n - 1) here)) (length-placed rows txn.0 vacant) (spare_last here gone s)

  module _ (tail : ℕ) (actor : Actor) (h : AreRows rs tail rows actor) (system : actor.txn.0 ≡ 0) (positive : 1 ≤ tail) (some : txn.0 ≢ 0) (there : last_in rows txn.0 ≡ Some lsn) where
    apart : AreApart (others ++ s.last ∷ [])
    apart = subst AreApart parts (placed_apart rows txn.0 vacant h.apart (λ nz ne. absurd (nz refl)))

    none : last_in (others ++ s.last ∷ []) txn.0 ≡ None
    none = subst (λ (xs : List Row). last_in xs txn.0 ≡ None) parts (none_placed rows txn.0 vacant h.apart some (λ z. some (sym z)))

    -- what was there is there, but for the row that was last
    left : (u : ℕ) → u ≢ 0 → (last_in (others ++ here ∷ []) u ≡ last_in rows u) ⊎ ((last_in (others ++ here ∷ []) u ≡ None) × (u ≡ s.last.txn.0))
    left u nz = elim (cases_eq u txn.0) as (λ _. (last_in (others ++ here ∷ []) u ≡ last_in rows u) ⊎ ((last_in (others ++ here ∷ []) u ≡ None) × (u ≡ s.last.txn.0))) [
      | inl e ↦ inl (subst (λ (n : ℕ). last_in (others ++ here ∷ []) n ≡ last_in rows n) (sym e)
          (found_back others (here ∷ []) txn.0 (none_front others (s.last ∷ []) txn.0 none) ∙ (row_own here [] txn.0 refl ∙ sym there)))
      | inr ne ↦ by_last ne
    ]
      where
        same : u ≢ txn.0 → last_in (others ++ s.last ∷ []) u ≡ last_in rows u
        same ne = subst (λ (xs : List Row). last_in xs u ≡ last_in rows u) parts (placed_other rows txn.0 u vacant ne (λ z. nz (sym z)))

        by_found : u ≢ txn.0 → s.last.txn.0 ≢ u → (o : Option ℕ) → last_in others u ≡ o → last_in (others ++ here ∷ []) u ≡ last_in (others ++ s.last ∷ []) u
        by_found ne other (Some l) e = found_front others (here ∷ []) u l e ∙ sym (found_front others (s.last ∷ []) u l e)
        by_found ne other None e = found_back others (here ∷ []) u e ∙ (row_other here [] u (λ z. ne (sym z)) ∙ sym (found_back others (s.last ∷ []) u e ∙ row_other s.last [] u other))

        by_last : u ≢ txn.0 → (last_in (others ++ here ∷ []) u ≡ last_in rows u) ⊎ ((last_in (others ++ here ∷ []) u ≡ None) × (u ≡ s.last.txn.0))
        by_last ne = elim (cases_eq s.last.txn.0 u) as (λ _. (last_in (others ++ here ∷ []) u ≡ last_in rows u) ⊎ ((last_in (others ++ here ∷ []) u ≡ None) × (u ≡ s.last.txn.0))) [
          | inl e ↦ inr (
            found_back others (here ∷ []) u (subst (λ (n : ℕ). last_in others n ≡ None) e (apart_last others s.last apart (λ z. nz (sym e ∙ z)))) ∙ row_other here [] u (λ z. ne (sym z)),
            sym e,
          )
          | inr other ↦ inl (by_found ne other (last_in others u) refl ∙ same ne)
        ]

    own_apart : AreApart (others ++ here ∷ [])
    own_apart = apart_more others here (apart_front others (s.last ∷ []) apart) (λ nz. none_front others (s.last ∷ []) txn.0 none)

    are : AreRows rs tail (others ++ here ∷ []) actor
    are = record {
      own = λ nz. absurd (nz system);
      low = λ u far. by_low u far (left u (λ z. absurd (omega (arith, z, far, positive))));
      others = λ u ne live. by_live u live (left u (λ z. ne (z ∙ sym system))) (h.others u ne live);
      apart = own_apart;
      past = λ u last nz ne is gone. h.past u last nz ne (by_past u last is (left u nz)) gone;
    }
      where
        by_low : (u : ℕ) → tail ≤ u → (last_in (others ++ here ∷ []) u ≡ last_in rows u) ⊎ ((last_in (others ++ here ∷ []) u ≡ None) × (u ≡ s.last.txn.0)) → last_in (others ++ here ∷ []) u ≡ None
        by_low u far (inl e) = e ∙ h.low u far
        by_low u far (inr k) = k.0

        by_live : (u : ℕ) → is_in u (tally rs).live ≡ true → (last_in (others ++ here ∷ []) u ≡ last_in rows u) ⊎ ((last_in (others ++ here ∷ []) u ≡ None) × (u ≡ s.last.txn.0))
            → {o : Option ℕ} → last_in rows u ≡ o → last_in (others ++ here ∷ []) u ≡ o
        by_live u live (inl e) is = e ∙ is
        by_live u live (inr k) is = absurd (clash (is_in s.last.txn.0 (tally rs).live) s.gone (subst (λ (n : ℕ). is_in n (tally rs).live ≡ true) k.1 live))

        by_past : (u last : ℕ) → last_in (others ++ here ∷ []) u ≡ Some last → (last_in (others ++ here ∷ []) u ≡ last_in rows u) ⊎ ((last_in (others ++ here ∷ []) u ≡ None) × (u ≡ s.last.txn.0)) → last_in rows u ≡ Some last
        by_past u last is (inl e) = sym e ∙ is
        by_past u last is (inr k) = absurd (let z : Some last ≡ None = sym is ∙ k.0 in cc)

    pub rows_left : AreRows rs tail (slice_set (placed rows txn.0 vacant) (length rows - 1) here) actor
    rows_left = subst (λ (xs : List Row). AreRows rs tail xs actor) (sym now_are) are
