-- A formed log: each record names its transaction's record before it, and where undo goes on.
use Rattle.std.specs.Prelude.{◌≡◌, ℕ, ◌+◌, ◌<◌, ◌≤◌, Bool, true, false, ◌==◌, ◌&&◌, nat_le, if◌then◌else◌, List, [], ◌∷◌, ◌++◌, Option, Some, None}
use Rattle.sg_recovery.specs.Log.{Record, Numbered, Open, Top, Tally, tally, is_in, open_of, notes_of, changes_of}
use Rattle.sg_recovery.specs.Laws.{Each}
use Rattle.sg_recovery.specs.Shows.{Pairs}
use Rattle.sg_recovery.specs.Log.Record.{Begin, Change, TopEnd, PhysComp, TopVoid, CompEnd, Save, Commit, End}

abbrev pub txn_of : {C N : Type 0} → Record C N → ℕ
txn_of (Begin t p) = t
txn_of (Change t p c) = t
txn_of (TopEnd t p u n) = t
txn_of (PhysComp t p u c) = t
txn_of (TopVoid t p u) = t
txn_of (CompEnd t p u) = t
txn_of (Save t p m) = t
txn_of (Commit t p) = t
txn_of (End t p) = t

abbrev pub previous_of : {C N : Type 0} → Record C N → ℕ
previous_of (Begin t p) = p
previous_of (Change t p c) = p
previous_of (TopEnd t p u n) = p
previous_of (PhysComp t p u c) = p
previous_of (TopVoid t p u) = p
previous_of (CompEnd t p u) = p
previous_of (Save t p m) = p
previous_of (Commit t p) = p
previous_of (End t p) = p

-- no action goes on over this record: it is none of change and phys-comp
abbrev pub is_border : {C N : Type 0} → Record C N → Bool
is_border (Begin t p) = true
is_border (Change t p c) = false
is_border (TopEnd t p u n) = true
is_border (PhysComp t p u c) = false
is_border (TopVoid t p u) = true
is_border (CompEnd t p u) = true
is_border (Save t p m) = true
is_border (Commit t p) = true
is_border (End t p) = true

-- the LSN of a transaction's last record, 0 where it has none
abbrev pub last_of : {C N : Type 0} → ℕ → List (Numbered C N) → ℕ
last_of t [] = 0
last_of t (r ∷ rs) = if txn_of r.is == t then r.lsn else last_of t rs

-- the LSN of the record before its action, which is its last border; 0 where it has none
abbrev pub border_of : {C N : Type 0} → ℕ → List (Numbered C N) → ℕ
border_of t [] = 0
border_of t (r ∷ rs) = if txn_of r.is == t && is_border r.is then r.lsn else border_of t rs

-- an LSN above those of all records
abbrev pub next_lsn : {C N : Type 0} → List (Numbered C N) → ℕ
next_lsn [] = 1
next_lsn (r ∷ rs) = r.lsn + 1

-- where undo goes on once the last of these is taken off
abbrev pub next_off : {C : Type 0} → ℕ → List (Open C) → ℕ
next_off border [] = border
next_off border (d ∷ ds) = d.lsn

-- what a record of a transaction whose begin is in the log has to be, by what came before it
abbrev pub Follows : {C N : Type 0} → List (Numbered C N) → ℕ → Record C N → Type 0
Follows rs l (Begin t p) = (t ≡ l) × (p ≡ 0)
Follows rs l (Change t p c) = p ≡ last_of t rs
Follows rs l (TopEnd t p u n) = (p ≡ last_of t rs) × (u ≡ border_of t rs)
Follows {C = C} rs l (PhysComp t p u c) = (p ≡ last_of t rs) × ((d : Open C) × (ds : List (Open C)) × (open_of t (tally rs).opened ≡ d ∷ ds) × (u ≡ next_off (border_of t rs) ds))
Follows rs l (TopVoid t p u) = (p ≡ last_of t rs) × (open_of t (tally rs).opened ≡ []) × (u ≡ border_of t rs)
Follows {C = C} {N = N} rs l (CompEnd t p u) = (p ≡ last_of t rs) × ((n : Top C N) × (ns : List (Top C N)) × (notes_of t (tally rs).notes ≡ n ∷ ns) × (u ≡ n.undo_next))
Follows rs l (Save t p m) = (p ≡ last_of t rs) × (open_of t (tally rs).opened ≡ []) × (p ≡ border_of t rs)
Follows rs l (Commit t p) = (p ≡ last_of t rs) × (open_of t (tally rs).opened ≡ [])
Follows rs l (End t p) = (p ≡ last_of t rs) × (open_of t (tally rs).opened ≡ [])

-- its transaction's begin is in the log, or it is a begin
abbrev pub IsKnown : {C N : Type 0} → Tally C N → Record C N → Type 0
IsKnown k (Begin t p) = Unit {0}
IsKnown k (Change t p c) = is_in t k.live ≡ true
IsKnown k (TopEnd t p u n) = is_in t k.live ≡ true
IsKnown k (PhysComp t p u c) = is_in t k.live ≡ true
IsKnown k (TopVoid t p u) = is_in t k.live ≡ true
IsKnown k (CompEnd t p u) = is_in t k.live ≡ true
IsKnown k (Save t p m) = is_in t k.live ≡ true
IsKnown k (Commit t p) = is_in t k.live ≡ true
IsKnown k (End t p) = is_in t k.live ≡ true

-- a later open change is behind an earlier one
abbrev pub Behind : {C : Type 0} → Open C → Open C → Type 0
Behind later earlier = earlier.lsn < later.lsn

-- A formed log. Of a transaction whose begin isn't in it nothing is asked.
abbrev pub Formed : {C N : Type 0} → List (Numbered C N) → Type 0
Formed [] = Unit {0}
Formed (r ∷ rs) = (next_lsn rs ≤ r.lsn) × (IsKnown (tally rs) r.is → Follows rs r.lsn r.is) × Formed rs

-- what the walk of an undo finds at a record, or where it goes on
abbrev pub visit : {C N : Type 0} → ℕ → Record C N → Tally C N → (ℕ → Option (Top C N)) → Option (Top C N)
visit l (Begin t p) k go = None
visit l (Change t p c) k go = go p
visit l (TopEnd t p u n) k go = Some (record { lsn = l; transaction = t; undo_next = u; note = n; changes = changes_of (open_of t k.opened) })
visit l (PhysComp t p u c) k go = go p
visit l (TopVoid t p u) k go = go u
visit l (CompEnd t p u) k go = go u
visit l (Save t p m) k go = go p
visit l (Commit t p) k go = go p
visit l (End t p) k go = go p

-- The walk of an undo back from the record with this LSN, down to a stop: it comes to a top-end or to none.
abbrev pub walk : {C N : Type 0} → (stop at : ℕ) → List (Numbered C N) → Option (Top C N)
walk stop at [] = None
walk stop at (r ∷ rs) = if nat_le at stop then None else (if r.lsn == at then visit r.lsn r.is (tally rs) (λ u. walk stop u rs) else walk stop at rs)

-- From this LSN on the walk finds these notes, one after another, as far as they are above the stop.
abbrev pub Finds : {C N : Type 0} → List (Numbered C N) → (stop at : ℕ) → List (Top C N) → Type 0
Finds rs stop at [] = walk stop at rs ≡ None
Finds rs stop at (n ∷ ns) = (stop < n.lsn → walk stop at rs ≡ Some n) × (n.lsn ≤ stop → walk stop at rs ≡ None) × Finds rs stop n.undo_next ns

-- how a later note of a log is chained to an earlier one
pub record Chains {C N : Type 0} (later earlier : Top C N) : Type 0 where
  pub lower : earlier.lsn < later.lsn
  pub chained : earlier.transaction ≡ later.transaction → earlier.lsn ≤ later.undo_next

-- a note is of a live transaction, and not behind its last border
pub record IsStanding (live : List ℕ) (border t lsn undo : ℕ) : Type 0 where
  pub is_live : is_in t live ≡ true
  pub above : t < lsn
  pub within : lsn ≤ border
  pub before : undo < lsn

-- what a formed log keeps
pub record Sound {C N : Type 0} (rs : List (Numbered C N)) : Type 0 where
  pub borders : (t : ℕ) → border_of t rs < next_lsn rs
  pub lives : Each (λ t. t < next_lsn rs) (tally rs).live
  pub notes : Each (λ n. IsStanding (tally rs).live (border_of n.transaction rs) n.transaction n.lsn n.undo_next) (tally rs).notes
  pub chains : Pairs Chains (tally rs).notes
  pub opens : Each (λ d. d.lsn < next_lsn rs) (tally rs).opened
  pub order : Pairs Behind (tally rs).opened
  pub finds : (t stop : ℕ) → is_in t (tally rs).live ≡ true → t ≤ stop → Finds rs stop (border_of t rs) (notes_of t (tally rs).notes)

-- no standing note has this number
abbrev pub IsGone : {C N : Type 0} → ℕ → List (Numbered C N) → Type 0
IsGone at rs = Each (λ n. n.lsn ≡ at → ⊥) (tally rs).notes

-- a transaction's last note among those of all
pub record IsLast {C N : Type 0} (ns : List (Top C N)) (t : ℕ) (n : Top C N) : Type 0 where
  pub later : List (Top C N)
  pub rest : List (Top C N)
  pub all : ns ≡ later ++ n ∷ rest
  pub own : n.transaction ≡ t
  pub others : Each (λ m. m.transaction ≡ t → ⊥) later
