-- The rows of a checkpoint's record are those of the transactions that go on, in another order.
use Rattle.std.proofs.Common.{◌≡◌, ◌≢◌, ℕ, zero, suc, ◌≤◌, ◌<◌, ◌==◌, if◌then◌else◌, Bool, true, false, List, [], ◌∷◌, length, take, Some, None, option_map, inl, inr, sym, ap, subst, ◌∙◌, arith}
use Rattle.std.specs.Prelude.{slice_index_or}
use Rattle.std.specs.List.{Contains, find}
use Rattle.std.specs.List.Sorted.{IsPermutation}
use Rattle.std.proofs.lemmas.Bool.{cases_Bool}
use Rattle.std.proofs.lemmas.Bool.Decides.{nat_tests}
use Rattle.std.proofs.lemmas.List.{take_all}
use Rattle.std.proofs.lemmas.List.Sorted.{Contains-permutation, IsPermutation-sym}
use Rattle.sg_alloc.specs.declared.maps.Maps.{Maps}
use Rattle.sg_action.specs.States.{State}
use Rattle.sg_ops.specs.Table.{Table}
use Rattle.sg_recovery.specs.Log.{tally, is_in}
use Rattle.sg_recovery.specs.Chains.{last_of}
use Rattle.sg_actions.specs.Calls.{IsAtRest}
use Rattle.sg_actions.specs.Rows.{last_in, AreApart}
use Rattle.sg_actions.specs.Steps.{Steps}
use Rattle.sg_actions.specs.TakingOff.{HasCommitted}
use Rattle.sg_actions.specs.View.{IsActing}
use Rattle.sg_actions.specs.declared.rows.Actor.{Actor}
use Rattle.sg_actions.specs.declared.rows.Row.{Row}
use Rattle.sg_checkpoint_laws.specs.Listed.{ListsGoing}

-- the first row, or one of the others
last_first : (x : Row) (xs : List Row) (t : ℕ) → (x.txn.0 == t) ≡ true → last_in (x ∷ xs) t ≡ Some x.last
last_first x xs t e = ap (λ (b : Bool). option_map (λ (r : Row). r.last) (if b then Some x else find (λ (r : Row). r.txn.0 == t) xs)) e

last_behind : (x : Row) (xs : List Row) (t : ℕ) → (x.txn.0 == t) ≡ false → last_in (x ∷ xs) t ≡ last_in xs t
last_behind x xs t e = ap (λ (b : Bool). option_map (λ (r : Row). r.last) (if b then Some x else find (λ (r : Row). r.txn.0 == t) xs)) e

-- what is among the others is among all
behind : (x : Row) (xs : List Row) (r : Row) → Contains xs r → Contains (x ∷ xs) r
behind x xs r h = (suc h.0, (let low = h.1 in omega arith), h.2)

-- a row with the number and the last record of another is that row
same_row : (x : Row) (t last : ℕ) → x.txn.0 ≡ t → x.last ≡ last → x ≡ record { txn = record { 0 = t }; last = last }
same_row x t last txn is = let row : ℕ → ℕ → Row = λ k l. record { txn = record { 0 = k }; last = l } in ap (λ (k : ℕ). row k x.last) txn ∙ ap (λ (l : ℕ). row t l) is

-- the row that says a transaction's last record is among the rows
pub row_found : (rows : List Row) (t last : ℕ) → last_in rows t ≡ Some last → Contains rows (record { txn = record { 0 = t }; last = last })
row_found [] t last there = absurd (let e : None ≡ Some last = there in cc)
row_found (x ∷ xs) t last there = elim (cases_Bool (x.txn.0 == t)) [
  | inl e ↦
      let first = sym (last_first x xs t e) ∙ there in
      let is : x.last ≡ last = cc in
      let txn : x.txn.0 ≡ t = grind (arith, nat_tests, e) in
      (0, (omega arith), same_row x t last txn is)
  | inr e ↦ behind x xs _ (row_found xs t last (sym (last_behind x xs t e) ∙ there))
]

-- and where no transaction has two rows, each row says its transaction's
row_at : (rows : List Row) (r : Row) (k : ℕ) → AreApart rows → k < length rows → slice_index_or rows k r ≡ r → r.txn.0 ≢ 0 → last_in rows r.txn.0 ≡ Some r.last
row_at [] r k apart low is nz = absurd (omega (arith, low))
row_at (x ∷ xs) r zero apart low is nz =
    let txn : x.txn.0 ≡ r.txn.0 = ap (λ (y : Row). y.txn.0) is in
    let same : (x.txn.0 == r.txn.0) ≡ true = grind (arith, nat_tests, txn) in
    last_first x xs r.txn.0 same ∙ ap (λ (y : Row). Some y.last) is
row_at (x ∷ xs) r (suc k) apart low is nz =
    let rest = row_at xs r k apart.1 (omega (arith, low)) is nz in
    elim (cases_Bool (x.txn.0 == r.txn.0)) [
      | inl e ↦ absurd (
          let txn : x.txn.0 ≡ r.txn.0 = grind (arith, nat_tests, e) in
          let none = apart.0 (λ z. nz (sym txn ∙ z)) in
          let clash : None ≡ Some r.last = sym none ∙ (ap (λ (t : ℕ). last_in xs t) txn ∙ rest) in cc)
      | inr e ↦ last_behind x xs r.txn.0 e ∙ rest
    ]

pub found_row : (rows : List Row) (r : Row) → AreApart rows → Contains rows r → r.txn.0 ≢ 0 → last_in rows r.txn.0 ≡ Some r.last
found_row rows r apart there nz = row_at rows r there.0 apart there.1 there.2 nz

pub lists_going : {t : Table} {limits : State → ℕ → ℕ} {base tail : ℕ} {first : State} {rs : Steps} {pages bands : List Bool} {unfreed : Maps} {rows ordered : List Row} {actor : Actor} → IsActing t limits base first rs tail pages bands rows actor → IsAtRest rs unfreed actor → length rows ≤ 64 → IsPermutation (take 64 rows) ordered → ListsGoing rs ordered
lists_going {rs = rs} {rows = rows} {ordered = ordered} {actor = actor} acting rest few same =
    let are = (acting.chain).rows_are in
    let all : IsPermutation rows ordered = subst (λ (xs : List Row). IsPermutation xs ordered) (take_all 64 rows few) same in
    let back = IsPermutation-sym rows ordered all in
    let row : (r : Row) → Contains ordered r → r.txn.0 ≢ 0 → last_in rows r.txn.0 ≡ Some r.last = λ r there nz. found_row rows r are.apart (Contains-permutation ordered rows r back there) nz in
    let other : (u : ℕ) → u ≢ 0 → u ≢ actor.txn.0 = λ u nz is. nz (is ∙ rest.system) in
    let past : (r : Row) → Contains ordered r → r.txn.0 ≢ 0 → is_in r.txn.0 (tally rs).live ≡ false → HasCommitted rs r.txn.0 r.last = λ r there nz gone. are.past r.txn.0 r.last nz (other r.txn.0 nz) (row r there nz) gone in
    record {
      going = λ u live. Contains-permutation rows ordered _ all (row_found rows u (last_of u rs) (are.others u (other u (goes_not live)) live));
      lasts = λ r there nz. elim (cases_Bool (is_in r.txn.0 (tally rs).live)) [
        | inl live ↦ some_is (sym (row r there nz) ∙ are.others r.txn.0 (other r.txn.0 nz) live)
        | inr gone ↦ (past r there nz gone).last_is
      ];
      past = past;
    }
  where
    some_is : {a b : ℕ} → Some a ≡ Some b → a ≡ b
    some_is e = cc

    -- the system doesn't go on as a transaction
    goes_not : {u : ℕ} → is_in u (tally rs).live ≡ true → u ≢ 0
    goes_not live z = let none = ((acting.chain).running).system in let clash : true ≡ false = sym live ∙ (ap (λ (k : ℕ). is_in k (tally rs).live) z ∙ none) in absurd (cc)
