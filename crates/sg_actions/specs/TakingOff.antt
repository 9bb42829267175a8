-- Taking the open action off, one change after another.
use Rattle.std.specs.Prelude.{◌≡◌, ◌≢◌, ℕ, ◌<◌, ◌≤◌, ◌&&◌, ◌==◌, not, true, false, List, [], ◌∷◌, Some, None, map}
use Rattle.std.specs.Bool.{MatchBool}
use Rattle.sg_ops.specs.Table.{Table}
use Rattle.sg_record.specs.Changes.{Change as Changing}
use Rattle.sg_recovery.specs.Laws.{Each}
use Rattle.sg_recovery.specs.Log.{Open, tally, is_in, changes_of}
use Rattle.sg_recovery.specs.Log.Record.{Change, PhysComp, Commit}
use Rattle.sg_recovery.specs.Chains.{last_of, border_of, next_lsn, next_off}
use Rattle.sg_recovery.specs.Ending.{newest}
use Rattle.sg_recovery.specs.Formed.{IsLog}
use Rattle.sg_action.specs.States.{State, Kept, Change as Changed}
use Rattle.sg_alloc.specs.Flags.{free_of}
use Rattle.sg_alloc.specs.declared.maps.Maps.{Maps}
use Rattle.sg_actions.specs.Engine.{EngineView, now_of}
use Rattle.sg_actions.specs.Led.{Appended}
use Rattle.sg_record.specs.Records.Says.{TopVoid}
use Rattle.sg_record.specs.Shown.{by}
use Rattle.sg_actions.specs.Taken.{is_set, takes_page, takes_band}
use Rattle.sg_action.specs.Opened.{TakesTo, formats}
use Rattle.sg_actions.specs.Changes.{meaning, comp_of}
use Rattle.sg_actions.specs.Rows.{last_in, HasRow, AreApart, rows_after, at_rest}
use Rattle.sg_actions.specs.Steps.{Steps, step_at}
use Rattle.sg_actions.specs.declared.rows.Actor.{Actor}
use Rattle.sg_actions.specs.declared.rows.Row.{Row}

-- each open change stands in the log, and names the one before it, and the first one the record before the action
abbrev pub AreLinked : Steps → (before : ℕ) → List (Open Changing) → Type 0
AreLinked rs before [] = Unit {0}
AreLinked rs before (d ∷ ds) = (step_at rs d.lsn ≡ Some (Change d.transaction (next_off before ds) d.change)) × (next_off before ds < d.lsn) × (d.lsn < next_lsn rs) × AreLinked rs before ds

-- where the system acts, its last record is that of its action, if it has one that isn't ended, and else none
abbrev pub IsSystemAt : Steps → Actor → Type 0
IsSystemAt rs actor = (actor.before ≡ 0) × MatchBool (last_of 0 rs == border_of 0 rs) (actor.last ≡ 0) (actor.last ≡ last_of 0 rs)

-- THE LOG, AND WHO ACTS: the log is formed; all that is open is of who acts, whose changes are linked; who acts says its last record and its
-- last border; and no other has an action without an end
pub record IsRunning (base : ℕ) (rs : Steps) (tail : ℕ) (actor : Actor) : Type 0 where
  pub log : IsLog base rs
  pub based : base ≤ tail
  pub below : next_lsn rs ≤ tail
  pub system : is_in 0 (tally rs).live ≡ false
  pub owned : Each (λ d. d.transaction ≡ actor.txn.0) (tally rs).opened
  pub last_is : is_in actor.txn.0 (tally rs).live ≡ true → actor.last ≡ last_of actor.txn.0 rs
  pub before_is : is_in actor.txn.0 (tally rs).live ≡ true → actor.before ≡ border_of actor.txn.0 rs
  pub system_is : actor.txn.0 ≡ 0 → IsSystemAt rs actor
  pub acting : actor.txn.0 ≢ 0 → is_in actor.txn.0 (tally rs).live ≡ true
  pub alone : (u : ℕ) → u ≢ actor.txn.0 → last_of u rs ≡ border_of u rs
  pub linked : AreLinked rs actor.before (tally rs).opened
  pub before_low : actor.before < tail

-- a transaction's last record is its commit, and has this number
pub record HasCommitted (rs : Steps) (txn lsn : ℕ) : Type 0 where
  pub last_is : lsn ≡ last_of txn rs
  pub previous : ℕ
  pub newest_is : newest txn rs ≡ Some (Commit txn previous)

-- a row for each other transaction that goes on says its last record; and a row of one that doesn't go on is of one that has committed, and
-- says its commit
pub record AreRows (rs : Steps) (tail : ℕ) (rows : List Row) (actor : Actor) : Type 0 where
  pub own : actor.txn.0 ≢ 0 → HasRow rows actor.txn.0
  pub low : (u : ℕ) → tail ≤ u → last_in rows u ≡ None
  pub others : (u : ℕ) → u ≢ actor.txn.0 → is_in u (tally rs).live ≡ true → last_in rows u ≡ Some (last_of u rs)
  pub apart : AreApart rows
  pub past : (u last : ℕ) → u ≢ 0 → u ≢ actor.txn.0 → last_in rows u ≡ Some last → is_in u (tally rs).live ≡ false → HasCommitted rs u last

-- IN THE MIDST OF A TAKE-OFF, also of one that was stopped: the inverses of the changes that are left lead to pages and bands that can't be
-- told from those at the action's begin
pub record IsTakingOff (t : Table) (kept : Kept) (begin : State) (base : ℕ) (rs : Steps) (x : State) (tail : ℕ) (rows : List Row) (actor : Actor) : Type 0 where
  pub running : IsRunning base rs tail actor
  pub rows_are : AreRows rs tail rows actor
  pub takes : TakesTo t kept begin (map meaning (changes_of (tally rs).opened)) x

-- the changes that are left
abbrev pub left_of : Steps → List Changed
left_of rs = map meaning (changes_of (tally rs).opened)

-- no page is taken twice
abbrev pub AreOnce : List Changed → Type 0
AreOnce [] = Unit {0}
AreOnce (d ∷ ds) = ((n : ℕ) → takes_page ds n ≡ true → formats d n ≡ false) × AreOnce ds

-- A TAKE-OFF is to go on at this record: what was taken when the action began is what is taken now, but for what the changes that are left took
pub record IsOff (t : Table) (kept : Kept) (begin : State) (e : EngineView) (maps unfreed : Maps) (rows : List Row) (actor : Actor) (at : ℕ) : Type 0 where
  pub taking : IsTakingOff t kept begin e.base e.steps (now_of t e) e.tail rows actor
  pub pages : (n : ℕ) → (is_set maps.pages n && not (takes_page (left_of e.steps) n)) ≡ kept.pages n
  pub used : (n : ℕ) → takes_page (left_of e.steps) n ≡ true → is_set maps.pages n ≡ true
  pub once : AreOnce (left_of e.steps)
  pub whole : free_of unfreed.pages ≡ 0
  pub bands : (n : ℕ) → (is_set maps.bands n && not (takes_band (left_of e.steps) n)) ≡ kept.bands n
  pub whole_bands : free_of unfreed.bands ≡ 0
  pub at_is : at ≡ next_off actor.before (tally e.steps).opened

-- the same where it isn't known what is taken
pub record IsGoing (t : Table) (kept : Kept) (begin : State) (e : EngineView) (rows : List Row) (actor : Actor) (at : ℕ) : Type 0 where
  pub taking : IsTakingOff t kept begin e.base e.steps (now_of t e) e.tail rows actor
  pub at_is : at ≡ next_off actor.before (tally e.steps).opened

-- there is such an action
pub record CanGoOff (t : Table) (e : EngineView) (rows : List Row) (actor : Actor) (at : ℕ) : Type 0 where
  pub kept : Kept
  pub begin : State
  pub going : IsGoing t kept begin e rows actor at
  pub more : at ≢ actor.before

-- the record that takes the last open change off is appended
pub record NextStep (e e' : EngineView) (actor : Actor) : Type 0 where
  pub d : Open Changing
  pub ds : List (Open Changing)
  pub opened_is : (tally e.steps).opened ≡ d ∷ ds
  pub lsn : ℕ
  pub steps_are : e'.steps ≡ record { lsn = lsn; is = PhysComp actor.txn.0 actor.last (next_off actor.before ds) (comp_of d.change) } ∷ e.steps

-- ONE CHANGE IS TAKEN OFF, by its record, and the take-off goes on at another
pub record TookOff (t : Table) (e e' : EngineView) (maps maps' unfreed : Maps) (rows : List Row) (actor actor' : Actor) (at next : ℕ) : Type 0 where
  pub lower : next < at
  pub who : actor'.txn ≡ actor.txn
  pub same_before : actor'.before ≡ actor.before
  pub told : e'.Told → e.Told
  pub still : e.Told → e'.Told
  pub goes_on : e.Told → (kept : Kept) (begin : State) → at ≢ actor.before → IsOff t kept begin e maps unfreed rows actor at → IsOff t kept begin e' maps' unfreed rows actor' next
  pub keeps_on : e.Told → (kept : Kept) (begin : State) → at ≢ actor.before → IsGoing t kept begin e rows actor at → IsGoing t kept begin e' rows actor' next
  pub steps : e.Told → CanGoOff t e rows actor at → NextStep e e' actor

-- no change of the action of who acts is left
pub record IsAllOff (base : ℕ) (rs : Steps) (tail : ℕ) (actor : Actor) : Type 0 where
  pub running : IsRunning base rs tail actor
  pub none : (tally rs).opened ≡ []

-- the record that all is taken off is appended, no action is open, and the system acts
pub record Voided (e e' : EngineView) (rows rows' : List Row) (actor actor' : Actor) : Type 0 where
  pub lsn : ℕ
  pub logged : e.Told → Appended e e' (by actor.txn.0 actor.last (TopVoid actor.before)) lsn
  pub told : e'.Told → e.Told
  pub rest : actor' ≡ at_rest
  pub rows_are : rows' ≡ rows_after rows actor.txn lsn
