-- An action that has logged nothing is over.
use Rattle.std.proofs.Common.{◌≡◌, ◌≢◌, ℕ, ◌==◌, ◌≤◌, List, [], ◌∷◌, Some, Bool, true, false, sym, ap, subst, ◌∙◌, refl, arith, inl, inr}
use Rattle.std.specs.Prelude.{◌↔◌, IsTrue}
use Rattle.std.specs.Bool.{MatchBool}
use Rattle.std.proofs.lemmas.Bool.{cases_eq, eqb-true, eq-eqb}
use Rattle.std.proofs.lemmas.Bool.Decides.{nat_tests}
use Rattle.sg_ops.specs.Laws.{IsLawful}
use Rattle.sg_ops.specs.Table.{Table}
use Rattle.sg_alloc.specs.declared.maps.Maps.{Maps}
use Rattle.sg_record.specs.Changes.{Change as Changing}
use Rattle.sg_recovery.specs.Chains.{last_of, border_of, next_off}
use Rattle.sg_recovery.specs.Laws.{Each}
use Rattle.sg_recovery.specs.Log.{Open, tally, is_in}
use Rattle.sg_action.specs.States.{State, Change as Changed}
use Rattle.sg_actions.specs.Acting.{IsWell, IsChained}
use Rattle.sg_actions.specs.Calls.{AreSettled}
use Rattle.sg_actions.specs.Engine.{EngineView}
use Rattle.sg_actions.specs.Rows.{last_in, placed, rows_after, at_rest}
use Rattle.sg_actions.specs.Steps.{Steps, ended, opened, begin_of}
use Rattle.sg_actions.specs.Taken.{is_set}
use Rattle.sg_actions.specs.TakingOff.{AreLinked, IsSystemAt, IsRunning, HasCommitted, AreRows}
use Rattle.sg_actions.specs.View.{IsKept}
use Rattle.sg_actions.specs.declared.rows.Actor.{Actor}
use Rattle.sg_actions.specs.declared.rows.Row.{Row}
use Rattle.sg_actions.proofs.Beginning.{idle_opened}
use Rattle.sg_actions.proofs.Closing.{row_low}
use Rattle.sg_actions.proofs.Ended.{well_ended}
use Rattle.sg_actions.proofs.Flags.{some_of, and_left}
use Rattle.sg_actions.proofs.Placing.{placed_other, placed_self, placed_apart, after_none, after_one}

-- WHERE THE LAST RECORD OF WHO ACTS is the one before the open action, no change is open
after_before : (rs : Steps) (before : ℕ) (ds : List (Open Changing)) → AreLinked rs before ds → before ≤ next_off before ds
after_before rs before [] h = omega arith
after_before rs before (d ∷ ds) h = let low = after_before rs before ds h.3 in let next = h.1 in omega (arith, low, next)

none_between : (rs : Steps) (before : ℕ) (ds : List (Open Changing)) → AreLinked rs before ds → next_off before ds ≡ before → ds ≡ []
none_between rs before [] h e = refl
none_between rs before (d ∷ ds) h e = absurd (let low = after_before rs before ds h.3 in let next = h.1 in omega (arith, low, next, e))

pub still_is : (base : ℕ) (rs : Steps) (tail : ℕ) (rows : List Row) (actor : Actor) → IsChained base rs tail rows actor
    → IsTrue (actor.last == actor.before) ↔ ((tally rs).opened ≡ [])
still_is base rs tail rows actor h = (
  λ e. none_between rs actor.before (tally rs).opened h.running.linked (sym h.at ∙ eqb-true actor.last actor.before e),
  λ none. eq-eqb actor.last actor.before (h.at ∙ ap (next_off actor.before) none),
)

-- THE CHAIN, where nobody acts any more
module _ (base : ℕ) (rs : Steps) (tail : ℕ) (rows : List Row) (actor : Actor) (idle : ended rs ≡ rs) (h : IsChained base rs tail rows actor) where
  none : (tally rs).opened ≡ []
  none = sym (ap (λ (xs : Steps). (tally xs).opened) idle) ∙ h.closed

  still : actor.last ≡ actor.before
  still = h.at ∙ ap (next_off actor.before) none

  alone : (u : ℕ) → u ≢ 0 → last_of u rs ≡ border_of u rs
  alone u nz = elim (cases_eq u actor.txn.0) as (λ _. last_of u rs ≡ border_of u rs) [
    | inl e ↦
        let live : is_in actor.txn.0 (tally rs).live ≡ true = h.running.acting (λ z. nz (e ∙ z)) in
        subst (λ (k : ℕ). last_of k rs ≡ border_of k rs) (sym e) (sym (h.running.last_is live) ∙ (still ∙ h.running.before_is live))
    | inr d ↦ h.running.alone u d
  ]

  system : IsSystemAt rs at_rest
  system = (
    refl,
    elim (cases_eq actor.txn.0 0) as (λ _. MatchBool (last_of 0 rs == border_of 0 rs) (at_rest.last ≡ 0) (at_rest.last ≡ last_of 0 rs)) [
      | inl z ↦ subst (λ (n : ℕ). MatchBool (last_of 0 rs == border_of 0 rs) (n ≡ 0) (n ≡ last_of 0 rs)) (still ∙ (h.running.system_is z).0) (h.running.system_is z).1
      | inr ne ↦
          let same : last_of 0 rs ≡ border_of 0 rs = h.running.alone 0 (λ e. ne (sym e)) in
          let is : (last_of 0 rs == border_of 0 rs) ≡ true = grind (arith, nat_tests, same) in
          subst (λ (b : Bool). MatchBool b (at_rest.last ≡ 0) (at_rest.last ≡ last_of 0 rs)) (sym is) refl
    ],
  )

  running : IsRunning base rs tail at_rest
  running = record {
    log = h.running.log;
    based = h.running.based;
    below = h.running.below;
    system = h.running.system;
    owned = subst (λ (ds : List (Open Changing)). Each (λ d. d.transaction ≡ 0) ds) (sym none) tt;
    last_is = λ live. absurd (let e : true ≡ false = sym live ∙ h.running.system in cc);
    before_is = λ live. absurd (let e : true ≡ false = sym live ∙ h.running.system in cc);
    system_is = λ z. system;
    acting = λ ne. absurd (ne refl);
    alone = alone;
    linked = subst (λ (ds : List (Open Changing)). AreLinked rs 0 ds) (sym none) tt;
    before_low = let low = h.running.before_low in omega (arith, low);
  }

  rows_by_system : actor.txn.0 ≡ 0 → AreRows rs tail rows at_rest
  rows_by_system z = record { own = λ ne. absurd (ne refl); low = h.rows_are.low; others = λ u ne live. h.rows_are.others u (λ e. ne (e ∙ z)) live; apart = h.rows_are.apart; past = λ u last some ne there gone. h.rows_are.past u last some (λ e. ne (e ∙ z)) there gone }

  row : Row
  row = record { txn = actor.txn; last = actor.last }

  rows_by_one : actor.txn.0 ≢ 0 → AreRows rs tail (placed rows actor.txn.0 row) at_rest
  unfolding row
  rows_by_one nz =
      let own = some_of (last_in rows actor.txn.0) (h.rows_are.own nz) in
      let below = row_low base rs tail rows actor actor.txn.0 own.0 own.1 h in
      record {
        own = λ ne. absurd (ne refl);
        low = λ u far. placed_other rows actor.txn.0 u row (λ e. absurd (omega (arith, e, far, below))) (λ e. absurd (omega (arith, e, far, below))) ∙ h.rows_are.low u far;
        others = λ u ne live. elim (cases_eq u actor.txn.0) as (λ _. last_in (placed rows actor.txn.0 row) u ≡ Some (last_of u rs)) [
          | inl e ↦ subst (λ (k : ℕ). last_in (placed rows actor.txn.0 row) k ≡ Some (last_of k rs)) (sym e) (placed_self rows actor.txn.0 own.0 row own.1 refl ∙ ap Some (h.running.last_is (h.running.acting nz)))
          | inr d ↦ placed_other rows actor.txn.0 u row d (λ e. d (sym e)) ∙ h.rows_are.others u d live
        ];
        apart = placed_apart rows actor.txn.0 row h.rows_are.apart (λ some ne. absurd (ne refl));
        past = λ u last some ne there gone. elim (cases_eq u actor.txn.0) as (λ _. HasCommitted rs u last) [
          | inl e ↦ absurd (let on : is_in u (tally rs).live ≡ true = subst (λ (k : ℕ). is_in k (tally rs).live ≡ true) (sym e) (h.running.acting nz) in let no : true ≡ false = sym on ∙ gone in cc)
          | inr d ↦ h.rows_are.past u last some d (sym (placed_other rows actor.txn.0 u row d (λ e. d (sym e))) ∙ there) gone
        ];
      }

  pub chain_rest : IsChained base rs tail (rows_after rows actor.txn actor.last) at_rest
  unfolding row
  chain_rest = record {
    running = running;
    rows_are = elim (cases_eq actor.txn.0 0) as (λ _. AreRows rs tail (rows_after rows actor.txn actor.last) at_rest) [
      | inl z ↦ subst (λ (xs : List Row). AreRows rs tail xs at_rest) (after_none rows actor.txn actor.last z) (rows_by_system z)
      | inr nz ↦ subst (λ (xs : List Row). AreRows rs tail xs at_rest) (after_one rows actor.txn actor.last nz) (rows_by_one nz)
    ];
    closed = h.closed;
    at = sym (ap (next_off 0) none);
  }

-- and what is kept
pub kept_rest : (t : Table) → IsLawful t → (limits : State → ℕ → ℕ) (e : EngineView) (maps maps' unfreed unfreed' : Maps) (rows rows' : List Row) (actor : Actor) → rows' ≡ rows_after rows actor.txn actor.last
    → AreSettled maps.pages unfreed.pages maps'.pages unfreed'.pages → ended e.steps ≡ e.steps → IsKept t limits e maps rows actor → IsKept t limits e maps' rows' at_rest
kept_rest t law limits e maps maps' unfreed unfreed' rows rows' actor is pages idle k = record {
  chain = subst (λ (xs : List Row). IsChained e.base e.steps e.tail xs at_rest) (sym is) (chain_rest e.base e.steps e.tail rows actor idle k.chain);
  well =
      let none : opened e.steps ≡ [] = idle_opened e.steps idle in
      subst (λ (ds : List Changed). IsWell t limits (begin_of t e.first e.steps) ds maps'.pages maps'.bands) (sym none)
      (well_ended t law limits (begin_of t e.first e.steps) [] maps.pages maps'.pages maps.bands maps'.bands (λ n w. and_left (is_set maps.pages n) (is_set unfreed.pages n) (sym (pages.there n) ∙ w))
      (subst (λ (ds : List Changed). IsWell t limits (begin_of t e.first e.steps) ds maps.pages maps.bands) none k.well));
}
