-- A formed log in full: what each of its records has to be, and which action may be without an end.
use Rattle.std.specs.Prelude.{◌≡◌, ◌⊎◌, ℕ, ◌<◌, ◌≤◌, true, List, [], ◌∷◌}
use Rattle.sg_recovery.specs.Log.{Record, Numbered, Open, tally, is_in, open_of}
use Rattle.sg_recovery.specs.Log.Record.{Begin, Change, TopEnd, PhysComp, TopVoid, CompEnd, Save, Commit, End}
use Rattle.sg_recovery.specs.Laws.{Each}
use Rattle.sg_recovery.specs.Chains.{last_of, border_of, next_off, Formed}
use Rattle.sg_recovery.specs.TakeOff.{AreOwned, FormedSystem}
use Rattle.sg_recovery.specs.Ending.{AllEndWell, AllOver}

-- An action of the transaction has no end: the transaction's last record is none that ends an action. That it is, also where
-- all changes of the action are taken off.
abbrev pub IsUnfinished : {C N : Type 0} → List (Numbered C N) → ℕ → Type 0
IsUnfinished rs transaction = last_of transaction rs ≡ border_of transaction rs → ⊥

-- at most one action has no end, and it is the system's or one of a transaction that goes on
pub record OneAction {C N : Type 0} (rs : List (Numbered C N)) : Type 0 where
  pub one : (t u : ℕ) → IsUnfinished rs t → IsUnfinished rs u → t ≡ u
  pub whose : (t : ℕ) → IsUnfinished rs t → (t ≡ 0) ⊎ (is_in t (tally rs).live ≡ true)

-- no transaction has a mark, commits or ends within an action
abbrev pub IsBetween : {C N : Type 0} → List (Numbered C N) → Record C N → Type 0
IsBetween rs (Begin transaction previous) = Unit {0}
IsBetween rs (Change transaction previous change) = Unit {0}
IsBetween rs (TopEnd transaction previous undo_next note) = Unit {0}
IsBetween rs (PhysComp transaction previous undo_next change) = Unit {0}
IsBetween rs (TopVoid transaction previous undo_next) = Unit {0}
IsBetween rs (CompEnd transaction previous undo_next) = Unit {0}
IsBetween rs (Save transaction previous mark) = open_of transaction (tally rs).opened ≡ []
IsBetween rs (Commit transaction previous) = open_of transaction (tally rs).opened ≡ []
IsBetween rs (End transaction previous) = open_of transaction (tally rs).opened ≡ []

abbrev pub AreBetween : {C N : Type 0} → List (Numbered C N) → Type 0
AreBetween [] = Unit {0}
AreBetween (r ∷ rs) = IsBetween rs r.is × AreBetween rs

-- No change of an action is behind a phys-comp of that action: once it is being taken off, nothing else is done in it. Of a
-- transaction whose begin isn't in the log nothing is asked.
abbrev pub IsStraight : {C N : Type 0} → List (Numbered C N) → Record C N → Type 0
IsStraight rs (Begin transaction previous) = Unit {0}
IsStraight rs (Change transaction previous change) =
    (transaction ≡ 0) ⊎ (is_in transaction (tally rs).live ≡ true) → last_of transaction rs ≡ next_off (border_of transaction rs) (open_of transaction (tally rs).opened)
IsStraight rs (TopEnd transaction previous undo_next note) = Unit {0}
IsStraight rs (PhysComp transaction previous undo_next change) = Unit {0}
IsStraight rs (TopVoid transaction previous undo_next) = Unit {0}
IsStraight rs (CompEnd transaction previous undo_next) = Unit {0}
IsStraight rs (Save transaction previous mark) = Unit {0}
IsStraight rs (Commit transaction previous) = Unit {0}
IsStraight rs (End transaction previous) = Unit {0}

abbrev pub AreStraight : {C N : Type 0} → List (Numbered C N) → Type 0
AreStraight [] = Unit {0}
AreStraight (r ∷ rs) = IsStraight rs r.is × AreStraight rs

-- A FORMED LOG whose area begins at the number base: its records follow one another, its actions and its transactions end as they have to, and
-- at most one action has no end.
pub record IsLog {C N : Type 0} (base : ℕ) (rs : List (Numbered C N)) : Type 0 where
  pub above : Each (λ r. base ≤ r.lsn) rs
  pub owned : AreOwned rs
  pub chained : Formed rs
  pub system : FormedSystem base rs
  pub between : AreBetween rs
  pub straight : AreStraight rs
  pub ended : AllEndWell rs
  pub over : AllOver base rs
  pub one_action : OneAction rs

-- an open change is of its transaction's last action, which has no end
pub record IsOfLast {C N : Type 0} (rs : List (Numbered C N)) (d : Open C) : Type 0 where
  pub behind : border_of d.transaction rs < d.lsn
  pub within : d.lsn ≤ last_of d.transaction rs
