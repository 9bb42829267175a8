-- How actions and transactions end in a formed log.
use Rattle.std.specs.Prelude.{◌≡◌, ◌⊎◌, ◌<◌, ◌==◌, if◌then◌else◌, ℕ, Bool, true, false, List, [], ◌∷◌, Option, Some, None}
use Rattle.sg_recovery.specs.Log.{Record, Numbered, tally, is_in, open_of}
use Rattle.sg_recovery.specs.Log.Record.{Begin, Change, TopEnd, PhysComp, TopVoid, CompEnd, Save, Commit, End}
use Rattle.sg_recovery.specs.Chains.{txn_of, previous_of, last_of, border_of, next_off}

-- An action of the system or of a transaction that goes on ends behind its last change, if it has one, and not while it is
-- being taken off; a transaction commits and ends between actions.
abbrev pub EndsWell : {C N : Type 0} → List (Numbered C N) → Record C N → Type 0
EndsWell rs (Begin transaction previous) = Unit {0}
EndsWell rs (Change transaction previous change) = Unit {0}
EndsWell rs (TopEnd transaction previous undo_next note) =
    (transaction ≡ 0) ⊎ (is_in transaction (tally rs).live ≡ true) → last_of transaction rs ≡ next_off (border_of transaction rs) (open_of transaction (tally rs).opened)
EndsWell rs (PhysComp transaction previous undo_next change) = Unit {0}
EndsWell rs (TopVoid transaction previous undo_next) = Unit {0}
EndsWell rs (CompEnd transaction previous undo_next) =
    (transaction ≡ 0) ⊎ (is_in transaction (tally rs).live ≡ true) → last_of transaction rs ≡ next_off (border_of transaction rs) (open_of transaction (tally rs).opened)
EndsWell rs (Save transaction previous mark) = Unit {0}
EndsWell rs (Commit transaction previous) = is_in transaction (tally rs).live ≡ true → last_of transaction rs ≡ border_of transaction rs
EndsWell rs (End transaction previous) = is_in transaction (tally rs).live ≡ true → last_of transaction rs ≡ border_of transaction rs

abbrev pub AllEndWell : {C N : Type 0} → List (Numbered C N) → Type 0
AllEndWell [] = Unit {0}
AllEndWell (r ∷ rs) = EndsWell rs r.is × AllEndWell rs

-- the end of a transaction
abbrev pub is_end : {C N : Type 0} → Record C N → Bool
is_end (Begin transaction previous) = false
is_end (Change transaction previous change) = false
is_end (TopEnd transaction previous undo_next note) = false
is_end (PhysComp transaction previous undo_next change) = false
is_end (TopVoid transaction previous undo_next) = false
is_end (CompEnd transaction previous undo_next) = false
is_end (Save transaction previous mark) = false
is_end (Commit transaction previous) = false
is_end (End transaction previous) = true

-- a transaction's last record
abbrev pub newest : {C N : Type 0} → ℕ → List (Numbered C N) → Option (Record C N)
newest transaction [] = None
newest transaction (r ∷ rs) = if txn_of r.is == transaction then Some r.is else newest transaction rs

-- A record names the last one of its transaction, which had begun before the log.
abbrev pub IsOlder : {C N : Type 0} → (base last : ℕ) → Record C N → Type 0
IsOlder base last x = (txn_of x < base) × (previous_of x ≡ last)

-- A record of a transaction that doesn't go on, by the last one of that transaction: behind a commit only its end, which names
-- the commit, and behind an end nothing. Behind another, and where the log has none of the transaction, it had begun before the
-- log; then the first one in the log names any before it.
abbrev pub MayBeBehind : {C N : Type 0} → (base last : ℕ) → Record C N → Option (Record C N) → Type 0
MayBeBehind base last x None = (txn_of x < base) × (previous_of x < base)
MayBeBehind base last x (Some (Begin transaction previous)) = IsOlder base last x
MayBeBehind base last x (Some (Change transaction previous change)) = IsOlder base last x
MayBeBehind base last x (Some (TopEnd transaction previous undo_next note)) = IsOlder base last x
MayBeBehind base last x (Some (PhysComp transaction previous undo_next change)) = IsOlder base last x
MayBeBehind base last x (Some (TopVoid transaction previous undo_next)) = IsOlder base last x
MayBeBehind base last x (Some (CompEnd transaction previous undo_next)) = IsOlder base last x
MayBeBehind base last x (Some (Save transaction previous mark)) = IsOlder base last x
MayBeBehind base last x (Some (Commit transaction previous)) = (is_end x ≡ true) × (previous_of x ≡ last)
MayBeBehind base last x (Some (End transaction previous)) = ⊥

-- it is of a transaction that doesn't go on, and may be behind that one's last record
abbrev pub OverBy : {C N : Type 0} → ℕ → List (Numbered C N) → Record C N → Type 0
OverBy base rs x = (txn_of x ≡ 0 → ⊥) → is_in (txn_of x) (tally rs).live ≡ false → MayBeBehind base (last_of (txn_of x) rs) x (newest (txn_of x) rs)

-- what is asked of a record that is no begin, where its transaction doesn't go on
abbrev pub IsOver : {C N : Type 0} → ℕ → List (Numbered C N) → Record C N → Type 0
IsOver base rs (Begin transaction previous) = Unit {0}
IsOver base rs (Change transaction previous change) = OverBy base rs (Change transaction previous change)
IsOver base rs (TopEnd transaction previous undo_next note) = OverBy base rs (TopEnd transaction previous undo_next note)
IsOver base rs (PhysComp transaction previous undo_next change) = OverBy base rs (PhysComp transaction previous undo_next change)
IsOver base rs (TopVoid transaction previous undo_next) = OverBy base rs (TopVoid transaction previous undo_next)
IsOver base rs (CompEnd transaction previous undo_next) = OverBy base rs (CompEnd transaction previous undo_next)
IsOver base rs (Save transaction previous mark) = OverBy base rs (Save transaction previous mark)
IsOver base rs (Commit transaction previous) = OverBy base rs (Commit transaction previous)
IsOver base rs (End transaction previous) = OverBy base rs (End transaction previous)

abbrev pub AllOver : {C N : Type 0} → ℕ → List (Numbered C N) → Type 0
AllOver base [] = Unit {0}
AllOver base (r ∷ rs) = IsOver base rs r.is × AllOver base rs
