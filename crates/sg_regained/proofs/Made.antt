-- A SPACE THAT IS MADE of what an opening found.
use Rattle.std.proofs.Common.{◌≡◌, ◌≢◌, ◌⊎◌, ℕ, zero, suc, ◌<◌, ◌≤◌, ◌^◌, Bool, true, false, List, length, Option, Some, None, sym, ap, subst, ◌∙◌, refl, arith}
use Rattle.std.specs.Prelude.{replicate, option_map, IfSome}
use Rattle.sg_base.specs.declared.numbers.TxnId.{TxnId}
use Rattle.sg_analysis.specs.Analysis.{losers_of}
use Rattle.sg_recovery.specs.Chains.{last_of, border_of, next_lsn, Formed}
use Rattle.sg_recovery.specs.Formed.{IsLog, IsUnfinished}
use Rattle.sg_recovery.specs.Log.{tally, is_in}
use Rattle.sg_actions.specs.Engine.{EngineSeen}
use Rattle.sg_actions.specs.Rows.{at_rest}
use Rattle.sg_actions.specs.Taken.{AreFlags, is_set}
use Rattle.sg_actions.proofs.Chained.{border_le}
use Rattle.sg_actions.proofs.Taking.{none_freed}
use Rattle.sg_alloc.specs.Flags.{free_of}
use Rattle.sg_actions.specs.View.{HasFreedNone}
use Rattle.sg_actions.specs.declared.rows.Actor.{Actor}
use Rattle.sg_shown.specs.Shown.{Over, AsFound}
use Rattle.sg_regained.specs.Regained.{AreRowsOf, unfinished_in}
use Rattle.sg_regained.proofs.Losers.{rows_live, rows_low, rows_apart, rows_known, unfinished_some, unfinished_none}

-- what is known of the engine
pub record IsAnalysed (e : EngineSeen) (first : ℕ) (losers : List (ℕ × ℕ)) (un : Option (TxnId × ℕ)) : Type 0 where
  pub formed : IsLog e.base e.steps
  pub below : next_lsn e.steps ≤ e.tail
  pub based : e.base ≤ e.tail
  pub start : e.base ≡ first
  pub lost : losers ≡ losers_of e.steps
  pub unfinished : option_map (λ p. (p.0.0, p.1)) un ≡ unfinished_in e.steps

none_set : (n k : ℕ) → is_set (replicate n false) k ≡ false
none_set zero k = refl
none_set (suc n) zero = refl
none_set (suc n) (suc k) = none_set n k

acts_some : (p : TxnId × ℕ) (e : EngineSeen) (actor : Actor) → Some (p.0.0, p.1) ≡ unfinished_in e.steps → (actor.txn ≡ p.0) × (actor.last ≡ p.1) → IsUnfinished e.steps actor.txn.0 × (actor.last ≡ last_of actor.txn.0 e.steps)
acts_some p e actor is some =
    let at = unfinished_some e.steps (p.0.0, p.1) (sym is) in
    let who : p.0.0 ≡ actor.txn.0 = ap (λ (u : TxnId). u.0) (sym some.0) in
    (subst (λ (u : ℕ). IsUnfinished e.steps u) who at.un, some.1 ∙ (at.last_is ∙ ap (λ (u : ℕ). last_of u e.steps) who))

rest_of : (un : Option (TxnId × ℕ)) (e : EngineSeen) (actor : Actor) → Formed e.steps → option_map (λ p. (p.0.0, p.1)) un ≡ unfinished_in e.steps → IfSome un (λ p. (actor.txn ≡ p.0) × (actor.last ≡ p.1)) → (un ≡ None → actor ≡ at_rest) → actor.last ≡ 0
    → (actor ≡ at_rest) × ((u : ℕ) → (u ≡ 0) ⊎ (is_in u (tally e.steps).live ≡ true) → last_of u e.steps ≡ border_of u e.steps)
rest_of None e actor formed is some none still = (none refl, unfinished_none e.steps (sym is))
rest_of (Some p) e actor formed is some none still =
    let a = acts_some p e actor is some in
    let low = border_le e.steps actor.txn.0 formed in
    absurd (a.0 (let last = a.1 in let both : last_of actor.txn.0 e.steps ≡ border_of actor.txn.0 e.steps = omega (arith, low, last, still) in both))

acts_of : (un : Option (TxnId × ℕ)) (e : EngineSeen) (actor : Actor) → option_map (λ p. (p.0.0, p.1)) un ≡ unfinished_in e.steps → IfSome un (λ p. (actor.txn ≡ p.0) × (actor.last ≡ p.1)) → (un ≡ None → actor ≡ at_rest) → actor.last ≢ 0
    → IsUnfinished e.steps actor.txn.0 × (actor.last ≡ last_of actor.txn.0 e.steps)
acts_of None e actor is some none acts = absurd (acts (ap (λ (a : Actor). a.last) (none refl)))
acts_of (Some p) e actor is some none acts = acts_some p e actor is some

pub as_found : (a : Over) (losers : List (ℕ × ℕ)) (un : Option (TxnId × ℕ)) (n : ℕ) → IsAnalysed a.engine a.start losers un → a.maps.pages ≡ replicate n false → HasFreedNone a.unfreed
    → AreRowsOf losers a.rows → IfSome un (λ p. (a.actor.txn ≡ p.0) × (a.actor.last ≡ p.1)) → (un ≡ None → a.actor ≡ at_rest) → a.begun ≡ false → AsFound a
as_found a losers un n h clear freed rows some none begun = record {
  based = h.based;
  start = h.start;
  clear = λ k. ap (λ (xs : List Bool). is_set xs k) clear ∙ none_set n k;
  freed = freed;
  rows = rows_live a.engine.steps losers a.rows rows h.lost;
  low = λ u far. rows_low a.engine.steps losers a.rows rows h.lost a.engine.tail u h.formed.chained h.below far;
  apart = rows_apart a.engine.steps losers a.rows rows h.lost h.formed.chained;
  known = rows_known a.engine.steps losers a.rows rows h.lost;
  quiet = begun;
  rest = rest_of un a.engine a.actor h.formed.chained h.unfinished some none;
  acts = acts_of un a.engine a.actor h.unfinished some none;
}

-- flags of which none is freed
pub whole_flags : (taken unfreed : List Bool) → length unfreed ≡ length taken → free_of unfreed ≡ 0 → length taken < 2 ^ 32 → AreFlags taken unfreed
whole_flags taken unfreed long none few = record {
  long = long;
  inside = λ n less clear. absurd (let set : is_set unfreed n ≡ true = none_freed unfreed n none (omega (arith, less, long)) in let no : true ≡ false = sym set ∙ clear in cc);
  few = few;
}
