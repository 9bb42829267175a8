-- The same as the tally, in other words: each record asked about with the records behind it.
use Rattle.std.specs.Prelude.{ℕ, Bool, true, false, ◌==◌, ◌&&◌, nat_lt, not, if◌then◌else◌, List, [], ◌∷◌, ◌++◌, filter}
use Rattle.sg_recovery.specs.Log.{Record, Numbered, Top, tally, is_in, changes_of, open_of}
use Rattle.sg_recovery.specs.Log.Record.{Begin, Change, TopEnd, PhysComp, TopVoid, CompEnd, Save, Commit, End}

-- a comp-end of the transaction with an undo-next below the LSN, or the transaction's commit or end
abbrev pub undoes_top : {C N : Type 0} → ℕ → ℕ → Record C N → Bool
undoes_top t l (Begin u p) = false
undoes_top t l (Change u p c) = false
undoes_top t l (TopEnd u p w n) = false
undoes_top t l (PhysComp u p w c) = false
undoes_top t l (TopVoid u p w) = false
undoes_top t l (CompEnd u p w) = t == u && nat_lt w l
undoes_top t l (Save u p m) = false
undoes_top t l (Commit u p) = t == u
undoes_top t l (End u p) = t == u

-- none of these, which came later, does
abbrev pub still_stands : {C N : Type 0} → ℕ → ℕ → List (Numbered C N) → Bool
still_stands t l [] = true
still_stands t l (r ∷ rs) = not (undoes_top t l r.is) && still_stands t l rs

-- the top-end that a record is, if its transaction's begin is behind it and no commit or end
abbrev pub top_at : {C N : Type 0} → ℕ → Record C N → List (Numbered C N) → List (Top C N)
top_at l (Begin u p) rs = []
top_at l (Change u p c) rs = []
top_at l (TopEnd t p u n) rs = if is_in t (tally rs).live then record { lsn = l; transaction = t; undo_next = u; note = n; changes = changes_of (open_of t (tally rs).opened) } ∷ [] else []
top_at l (PhysComp u p w c) rs = []
top_at l (TopVoid u p w) rs = []
top_at l (CompEnd u p w) rs = []
top_at l (Save u p m) rs = []
top_at l (Commit u p) rs = []
top_at l (End u p) rs = []

-- the standing top-ends of the losers, in words: each top-end that no later record undoes
abbrev pub standing_in : {C N : Type 0} → (later rs : List (Numbered C N)) → List (Top C N)
standing_in later [] = []
standing_in later (r ∷ rs) = filter (λ n. still_stands n.transaction n.lsn later) (top_at r.lsn r.is rs) ++ standing_in (later ++ r ∷ []) rs
