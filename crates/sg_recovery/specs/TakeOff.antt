-- The walk of a take-off, and the system's actions. The system's records are those of transaction 0.
use Rattle.std.specs.Prelude.{◌≡◌, ◌⊎◌, ℕ, ◌<◌, ◌≤◌, true, ◌==◌, if◌then◌else◌, List, [], ◌∷◌, Option, Some, None}
use Rattle.std.specs.Bool.{MatchBool}
use Rattle.sg_recovery.specs.Log.{Record, Numbered, Open, tally, is_in, open_of}
use Rattle.sg_recovery.specs.Log.Record.{Begin, Change, TopEnd, PhysComp, TopVoid, CompEnd, Save, Commit, End}
use Rattle.sg_recovery.specs.Laws.{Each}
use Rattle.sg_recovery.specs.Chains.{txn_of, last_of, border_of, next_lsn}

-- what a take-off finds at a record, with the number of the record before that, or where it goes on
abbrev pub visit_off : {C N : Type 0} → ℕ → Record C N → (ℕ → Option (Open C × ℕ)) → Option (Open C × ℕ)
visit_off lsn (Begin transaction previous) go = None
visit_off lsn (Change transaction previous change) go = Some (record { lsn = lsn; transaction = transaction; change = change }, previous)
visit_off lsn (TopEnd transaction previous undo_next note) go = None
visit_off lsn (PhysComp transaction previous undo_next change) go = go undo_next
visit_off lsn (TopVoid transaction previous undo_next) go = None
visit_off lsn (CompEnd transaction previous undo_next) go = None
visit_off lsn (Save transaction previous mark) go = None
visit_off lsn (Commit transaction previous) go = None
visit_off lsn (End transaction previous) go = None

-- the next change that is taken off, from the record with this number on
abbrev pub off : {C N : Type 0} → ℕ → List (Numbered C N) → Option (Open C × ℕ)
off at [] = None
off at (r ∷ rs) = if r.lsn == at then visit_off r.lsn r.is (λ next. off next rs) else off at rs

-- The take-off finds these changes one after another: each where the one before it points back to, and at its own number.
abbrev pub FindsOff : {C N : Type 0} → List (Numbered C N) → ℕ → List (Open C) → Type 0
FindsOff rs at [] = off at rs ≡ None
FindsOff rs at (d ∷ ds) = (previous : ℕ) × (off at rs ≡ Some (d, previous)) × (off d.lsn rs ≡ Some (d, previous)) × (previous < d.lsn) × FindsOff rs previous ds

-- A record may be of its transaction: a begin is the transaction's first, whose number it has, and each other record has a
-- greater number.
abbrev pub IsOwned : {C N : Type 0} → ℕ → Record C N → Type 0
IsOwned lsn (Begin transaction previous) = transaction ≡ lsn
IsOwned lsn (Change transaction previous change) = transaction < lsn
IsOwned lsn (TopEnd transaction previous undo_next note) = transaction < lsn
IsOwned lsn (PhysComp transaction previous undo_next change) = transaction < lsn
IsOwned lsn (TopVoid transaction previous undo_next) = transaction < lsn
IsOwned lsn (CompEnd transaction previous undo_next) = transaction < lsn
IsOwned lsn (Save transaction previous mark) = transaction < lsn
IsOwned lsn (Commit transaction previous) = transaction < lsn
IsOwned lsn (End transaction previous) = transaction < lsn

abbrev pub AreOwned : {C N : Type 0} → List (Numbered C N) → Type 0
AreOwned [] = Unit {0}
AreOwned (r ∷ rs) = IsOwned r.lsn r.is × AreOwned rs

-- what holds of the open changes of a formed log
pub record Taken {C N : Type 0} (rs : List (Numbered C N)) : Type 0 where
  pub lasts : (t : ℕ) → last_of t rs < next_lsn rs
  pub owned : Each (λ d. d.transaction ≤ d.lsn) (tally rs).opened
  pub above : Each (λ d. is_in d.transaction (tally rs).live ≡ true → border_of d.transaction rs < d.lsn) (tally rs).opened
  pub offs : (t : ℕ) → is_in t (tally rs).live ≡ true → FindsOff rs (last_of t rs) (open_of t (tally rs).opened) × (off (border_of t rs) rs ≡ None)

-- none, or a record before those of this log, whose area begins at the number base
abbrev pub IsBefore : (base at : ℕ) → Type 0
IsBefore base at = (at ≡ 0) ⊎ (at < base)

-- What the system's next record has to name as its previous one: none at the first record of an action, and else the system's
-- last record. Where the log has no record of the system yet, the action may have begun before it.
abbrev pub PrecedesSystem : {C N : Type 0} → (base : ℕ) → List (Numbered C N) → ℕ → Type 0
PrecedesSystem base rs previous =
    MatchBool (last_of 0 rs == border_of 0 rs) (MatchBool (last_of 0 rs == 0) (IsBefore base previous) (previous ≡ 0)) (previous ≡ last_of 0 rs)

-- Where undoing goes on once the last of the system's open changes is taken off: at the one before it, and else nowhere. Where
-- no action of the system has ended in the log, this one may have changes before it.
abbrev pub GoesOnSystem : {C : Type 0} → (base border : ℕ) → List (Open C) → ℕ → Type 0
GoesOnSystem base border [] undo_next = (border ≡ 0) × IsBefore base undo_next
GoesOnSystem base border (d ∷ []) undo_next = MatchBool (border == 0) (IsBefore base undo_next) (undo_next ≡ 0)
GoesOnSystem base border (d ∷ e ∷ ds) undo_next = undo_next ≡ e.lsn

-- what a record of the system has to be, by what came before it
abbrev pub FollowsSystem : {C N : Type 0} → (base : ℕ) → List (Numbered C N) → Record C N → Type 0
FollowsSystem base rs (Begin transaction previous) = ⊥
FollowsSystem base rs (Change transaction previous change) = PrecedesSystem base rs previous
FollowsSystem base rs (TopEnd transaction previous undo_next note) = PrecedesSystem base rs previous × (undo_next ≡ 0)
FollowsSystem base rs (PhysComp transaction previous undo_next change) = PrecedesSystem base rs previous × GoesOnSystem base (border_of 0 rs) (open_of 0 (tally rs).opened) undo_next
FollowsSystem base rs (TopVoid transaction previous undo_next) = PrecedesSystem base rs previous × (open_of 0 (tally rs).opened ≡ []) × (undo_next ≡ 0)
FollowsSystem base rs (CompEnd transaction previous undo_next) = ⊥
FollowsSystem base rs (Save transaction previous mark) = ⊥
FollowsSystem base rs (Commit transaction previous) = ⊥
FollowsSystem base rs (End transaction previous) = ⊥

abbrev pub FormedSystem : {C N : Type 0} → ℕ → List (Numbered C N) → Type 0
FormedSystem base [] = Unit {0}
FormedSystem base (r ∷ rs) = (txn_of r.is ≡ 0 → FollowsSystem base rs r.is) × FormedSystem base rs

-- an open change of the system is of its last action
abbrev pub IsOver : {C N : Type 0} → List (Numbered C N) → Open C → Type 0
IsOver rs d = d.transaction ≡ 0 → (border_of 0 rs < d.lsn) × (d.lsn ≤ last_of 0 rs)

pub record TakenSystem {C N : Type 0} (rs : List (Numbered C N)) : Type 0 where
  pub over : Each (IsOver rs) (tally rs).opened
  pub finds : FindsOff rs (last_of 0 rs) (open_of 0 (tally rs).opened)
