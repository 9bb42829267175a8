-- WHAT AN OPENING FOUND, and what bringing it to its first action does.
use Rattle.std.specs.Prelude.{◌≡◌, ℕ, ◌+◌, ◌<◌, ◌≤◌, true, List, [], ◌∷◌, ◌++◌, map, length, replicate, Option, option_map, Result, OnOk, OnErr, IfOk, IfErr}
use Rattle.std.specs.List.{find}
use Rattle.sg_alloc.specs.Flags.{map_bands_of}
use Rattle.sg_alloc.specs.declared.maps.Maps.{Maps}
use Rattle.sg_base.specs.Ends.{HasRisen}
use Rattle.sg_disk.specs.Accounts.{Accounts}
use Rattle.sg_analysis.specs.Analysis.{acting, lacks_end, with_last}
use Rattle.sg_ops.specs.Table.{Table}
use Rattle.sg_recovery.specs.Chains.{last_of, border_of}
use Rattle.sg_reach.specs.declared.fault.ReachFault.{ReachFault}
use Rattle.sg_reach.specs.declared.fault.ReachFault.TheVariants as reaches
use Rattle.sg_space.specs.declared.space.SpaceFault.TheVariants.{LogEnd}
use Rattle.sg_action.specs.States.{State}
use Rattle.sg_contents.specs.Standing.{Contents}
use Rattle.sg_reader.specs.Alike.{ReadsAs}
use Rattle.sg_actions.specs.Acting.{IsChained}
use Rattle.sg_actions.specs.Ending.{vacant}
use Rattle.sg_actions.specs.Engine.{EngineSeen, EngineView, Moments, led}
use Rattle.sg_actions.specs.Images.{Recovering}
use Rattle.sg_actions.specs.Rows.{at_rest}
use Rattle.sg_actions.specs.Steps.{Steps}
use Rattle.sg_actions.specs.View.{HasFreedNone}
use Rattle.sg_actions.specs.WentOff.{WentOff}
use Rattle.sg_actions.specs.declared.rows.Actor.{Actor}
use Rattle.sg_actions.specs.declared.rows.Row.{Row}
use Rattle.sg_unread.specs.Unread.{LooksOn}
use Rattle.sg_walked.specs.Walked.{IsWalked}
use Rattle.sg_found.specs.Looks.{AreBytes}
use Rattle.sg_shown.specs.Shown.{HasRoom}
use Rattle.sg_starting.specs.Starting.{IsStartDisk, IfBroken}
use Rattle.sg_starting.specs.declared.opening.StartFault.{StartFault}
use Rattle.sg_starting.specs.declared.opening.StartFault.TheVariants.{Space, Broken}

-- the system, or the transaction that goes on, whose action has no end, with the number of its last record
abbrev pub unfinished_in : Steps → Option (ℕ × ℕ)
unfinished_in rs = option_map (with_last rs) (find (lacks_end rs) (acting rs))

-- a transaction with its last record, as a row
abbrev pub row_of : ℕ × ℕ → Row
row_of p = record { txn = record { 0 = p.0 }; last = p.1 }

-- rows of these, and vacant ones behind them
pub record AreRowsOf (losers : List (ℕ × ℕ)) (rows : List Row) : Type 0 where
  pub vacancies : ℕ
  pub are : rows ≡ map row_of losers ++ replicate vacancies vacant
  pub many : 64 ≤ length rows

-- WHAT A TAKE-OFF OF AN UNFINISHED ACTION HAS APPENDED: nothing where each action has its end
pub record TookOff (recovers : Recovering) (t : Table) (txn : ℕ) (a b : EngineView) : Type 0 where
  pub went : WentOff recovers t txn a b
  pub owed : ((u : ℕ) → last_of u a.steps ≡ border_of u a.steps) → went.made ≡ []

-- no action is open, and the system acts
pub record RestsAt (e : EngineSeen) (rows : List Row) (actor : Actor) : Type 0 where
  pub chain : IsChained e.base e.steps e.tail rows actor
  pub rest : actor ≡ at_rest

-- 64 vacant rows stand behind others, and one behind these
pub record EndVacant (rows : List Row) : Type 0 where
  pub old : List Row
  pub are : rows ≡ old ++ (replicate 64 vacant ++ vacant ∷ [])

-- why a walk has failed
abbrev pub started : ReachFault → StartFault
started (reaches.Space fault) = Space fault
started (reaches.Broken page) = Broken page

-- WHAT A WALK IS ASKED with: flags of so many pages and bands are lent, there is a page, and there are the bands of the allocation map. Nothing is freed
pub record CanGoOver (room : Option Maps) (unfreed : Maps) (pages bands : ℕ) : Type 0 where
  pub room_is : HasRoom room pages bands
  pub first : 0 < pages
  pub map : map_bands_of pages bands ≤ bands
  pub freed : HasFreedNone unfreed

-- NOTHING MORE IS ASKED of an engine: it tells no more, and no later call is one of the disk
pub record IsStopped (a b : EngineSeen) : Type 0 where
  pub silent : b.Told → ⊥
  pub failed : b.failed ≡ true
  pub disk : b.disk ≡ a.disk
  pub tail : b.tail ≡ a.tail
  pub gate : b.gate ≡ a.gate
  pub faults : b.faults ≡ a.faults

-- IT WAS LOOKED AT, AND STOPPED: each image of each moment has a front of its log, wherever its steps lead from
pub record HasStopped (recovers : Table → Recovering) (t : Table) (a b : EngineSeen) (m : Table → State → Type 0) : Type 0 where
  pub silent : b.Told → ⊥
  pub failed : b.failed ≡ true
  pub tail : b.tail ≡ a.tail
  pub faults : a.faults ≤ b.faults
  pub stops : a.failed ≡ true → b.disk ≡ a.disk
  pub reads : (from : State) → m t from → a.Told → Moments (recovers t) t (led from a) (led from b) a.steps

-- THE COUNTS of a walk over all that the pages reach: each fault is counted, and it accounts for the disk's own counts
pub record OverCounts {T : Type 0} (a b : EngineSeen) (breaks breaks' : ℕ) (result : Result T StartFault) : Type 0 where
  pub tells : OnOk result (a.Told → b.Told)
  pub later : a.faults + breaks ≤ b.faults + breaks'
  pub quiet : OnOk result (b.faults + breaks' ≡ a.faults + breaks)
  pub disk : IfErr result (λ w. IsStartDisk w → HasRisen (a.faults + breaks) (b.faults + breaks'))
  pub accounts : Accounts IsStartDisk a.Told a.disk b.disk a.gate b.gate result
  pub no_end : IfErr result (λ w. w ≡ Space LogEnd → ⊥)

-- WHAT A WALK OVER ALL THAT THE PAGES REACH LEAVES, of so many pages and bands, with what it found to be taken: the engine was looked at, and is
-- stopped where it isn't known what is taken. It is known only where the pages read as contents, and a page is broken only where they don't
pub record HasGoneOver (recovers : Table → Recovering) (pages bands : ℕ) (a b : EngineSeen) (breaks : ℕ) (m m' : Table → State → Type 0) (taken : Result Maps StartFault) : Type 0 where
  pub counts : OverCounts a b 0 breaks taken
  pub looks : (t : Table) → OnOk taken (LooksOn recovers t a b m m')
  pub stopped : (t : Table) → OnErr taken (HasStopped recovers t a b m)
  pub walked : IfOk taken (λ maps. a.Told → IsWalked pages bands a.now maps)
  pub bytes : (t : Table) (from : State) → m t from → IfOk taken (λ maps. a.Told → AreBytes maps.pages pages a.now)
  pub long : IfOk taken (λ maps. length maps.pages ≡ pages)
  pub wide : IfOk taken (λ maps. length maps.bands ≡ bands)
  pub broken : IfErr taken (λ w. IfBroken w (a.Told → (s : Contents) → ReadsAs pages bands a.now s → ⊥))
