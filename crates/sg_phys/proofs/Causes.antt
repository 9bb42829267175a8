-- Why a call of an engine that tells fails, and what can't be where it tells.
use Rattle.std.proofs.Common.{◌≡◌, ◌⊎◌, ⊎_elim, ◌<◌, ◌≤◌, ℕ, Bool, true, false, IsTrue, List, [], ◌∷◌, ◌++◌, Some, None, IsSome, is_some, refl, sym, ap, ◌∙◌, subst, arith}
use Rattle.std.specs.Prelude.{if◌then◌else◌, nat_lt, Result, Err}
use Rattle.std.proofs.lemmas.Bool.{ltb-true}
use mathlib.Core.Logic.{∥∥₁_elim}
use Rattle.sg_base.specs.Ends.{HasRisen}
use Rattle.sg_base.specs.Sheet.{sheet_of}
use Rattle.sg_base.specs.Slotted.{is_slotted}
use Rattle.sg_disk.specs.Disk.{View}
use Rattle.sg_log.specs.Frames.{Numbered}
use Rattle.sg_log.specs.Held.{Tail, tail_of}
use Rattle.sg_log.specs.Places.{StandsAt}
use Rattle.sg_ops.specs.Table.{Table}
use Rattle.sg_pool.specs.Pooled.{sizes, contents, IsUnwritten}
use Rattle.sg_pool.specs.Units.{Geometry}
use Rattle.sg_pool.specs.declared.pool.Pool.{Pool}
use Rattle.sg_record.specs.Changes.{Change as Changing}
use Rattle.sg_record.specs.Changes.Change.{Page, SegWrite, SegOp}
use Rattle.sg_record.specs.Records.{Record, Says}
use Rattle.sg_record.specs.Records.Says.{Begin, Changed, TopEnd, PhysComp, TopVoid, CompEnd, Save, Commit, End, Checkpoint}
use Rattle.sg_recovery.specs.Log.Record.{Begin as StepBegin, Change as StepChange, TopEnd as StepTopEnd, PhysComp as StepPhysComp, TopVoid as StepTopVoid, CompEnd as StepCompEnd, Save as StepSave, Commit as StepCommit, End as StepEnd}
use Rattle.sg_redo.specs.Leaf.{leaf_of}
use Rattle.sg_redo.specs.Places.{changed_by}
use Rattle.sg_action.specs.States.{State}
use Rattle.sg_engine.specs.Engine.{Origin}
use Rattle.sg_engine.specs.Running.{IsEngine}
use Rattle.sg_engine.specs.declared.fault.EngineFault.{EngineFault}
use Rattle.sg_engine.specs.declared.fault.EngineFault.TheVariants as engine
use Rattle.sg_engine.proofs.Pools.{unwritten_low}
use Rattle.sg_gate.specs.declared.superblock.Super.{Super}
use Rattle.sg_actions.specs.Engine.{Extent, EngineSeen, CanLog, IsStepThat, IsLoggable, IsOn, StepOn, AllOn, HasPage}
use Rattle.sg_actions.specs.Steps.{Step, Steps, step_by, step_at, repeated}
use Rattle.sg_phys_laws.specs.Counted.{FailsFor, LiesIn}
use Rattle.sg_phys_laws.specs.Logged.{is_no_step}
use Rattle.sg_phys_laws.specs.Reading.{durable_in, waiting_in}
use Rattle.sg_phys_laws.specs.Recovers.{IsIn, StepIn, AllIn}
use Rattle.sg_phys_laws.specs.States.{steps_of}
use Rattle.sg_phys_laws.proofs.Cutting.{all_in, below_test}
use Rattle.sg_phys_laws.proofs.Poised.{all_in_log}
use Rattle.sg_phys_laws.proofs.ReadBack.{step_stands}
use Rattle.sg_phys.specs.Phys.{Parts, IsBehind, StandsBy, StandsForSome, Tells, looked, origin_at, pool_says, seen_by}
use Rattle.sg_phys.proofs.Behind.{step_kept}
use Rattle.sg_phys.proofs.Images.{by_past}
use Rattle.sg_phys.proofs.Seen.{HasLooked, keeps_look, looks_ok, HasStood}
use Rattle.sg_phys.proofs.Told.{told_now}
use Rattle.std.proofs.Props.{props}

empty_prop : IsProp ⊥
empty_prop = hlevel props

pub risen_prop : (a b : ℕ) → IsProp (HasRisen a b)
risen_prop a b = hlevel props

below_prop : (a b : ℕ) → IsProp (a ≤ b)
below_prop a b = hlevel props

-- EACH CHANGE THAT WAS APPENDED is of what there is, also those that are gone
both_on : (x : Extent) (rs gone : Steps) → AllOn x rs → AllOn x gone → AllOn x (rs ++ gone)
both_on x [] gone here there = there
both_on x (r ∷ rs) gone here there = (here.0, both_on x rs gone here.1 there)

-- WHERE IT TELLS it stands for some operations, by what it holds
module _ (Given : Type 0) (p : Parts) (some : StandsForSome Given p.failed p.past p.disk p.log p.pool) where
  pub by_poised : {P : Type 0} → IsProp P → ((t : Table) (from : State) → StandsBy Given p t from → IsBehind t from p.past p.disk p.log p.pool → P) → Tells Given p.failed → P
  by_poised prop so tell = ∥∥₁_elim (some tell) prop (λ x. ∥∥₁_elim x.2.known prop (λ k. so x.0 x.1 x.2 (k tell.whole tell.tells)))

  -- a step from the log's first byte on is one that it has
  pub step_here : (t : Table) (from : State) → IsBehind t from p.past p.disk p.log p.pool → (at : ℕ) → p.past.super.base ≤ at → IsSome (step_at (seen_by Given p).steps at) → IsSome (step_at (steps_of (all_in_log p.disk p.log)) at)
  step_here t from q at high there = subst IsSome (step_kept p.past.super.base (steps_of (all_in_log p.disk p.log)) (steps_of p.past.gone) at high q.below) there

  -- a call for a record of what there is fails for the disk alone,
  pub failed_for : (told : Bool) (w : View) (r : Record) (result : Result ℕ EngineFault) → (Given → IsTrue told) → FailsFor told p.disk p.log p.pool w r result → ((t : Table) (from : State) → StandsBy Given p t from → LiesIn (sizes p.pool) (changed_by r.says)) → result ≡ Err engine.Disk
      → Tells Given p.failed → HasRisen p.disk.faults w.faults
  failed_for told w r result given fails lies is tell = by_poised (risen_prop p.disk.faults w.faults)
      (λ t from m q. fails (origin_at t p.past) (durable_in p.disk p.log) (waiting_in p.log) (given tell.tells) q.poised.now.engine (lies t from m) is) tell

  -- and so does one that the engine below answers for, by the records that it holds
  pub failed_by : (w : View) → ((o : Origin) (ds ps : List Numbered) → Given → IsEngine o p.disk p.log ds ps p.pool → HasRisen p.disk.faults w.faults) → Tells Given p.failed → HasRisen p.disk.faults w.faults
  failed_by w fails tell = by_poised (risen_prop p.disk.faults w.faults)
      (λ t from m q. fails (origin_at t p.past) (durable_in p.disk p.log) (waiting_in p.log) tell.tells q.poised.now.engine) tell

  -- one that reads a record that is a step
  pub failed_read : (w : View) (at : ℕ) → ((o : Origin) (ds ps : List Numbered) (r : Record) → Given → IsEngine o p.disk p.log ds ps p.pool → StandsAt (ds ++ ps) at r → HasRisen p.disk.faults w.faults)
      → (Tells Given p.failed → IsSome (step_at (seen_by Given p).steps at)) → (Tells Given p.failed → p.past.super.base ≤ at) → Tells Given p.failed → HasRisen p.disk.faults w.faults
  failed_read w at fails there high tell = by_poised (risen_prop p.disk.faults w.faults)
      (λ t from m q. let s = step_stands (all_in_log p.disk p.log) at (step_here t from q at (high tell) (there tell)) in
      fails (origin_at t p.past) (durable_in p.disk p.log) (waiting_in p.log) s.0 tell.tells q.poised.now.engine s.1) tell

  -- the number from which history has to be repeated is no greater than the tail
  pub point_low : (k : ℕ) → IsUnwritten p.pool k ⊎ (((lsn : ℕ) → IsUnwritten p.pool lsn → ⊥) × (k ≡ tail_of p.log)) → Tells Given p.failed → k ≤ tail_of p.log
  point_low k is tell = by_poised (below_prop k (tail_of p.log))
      (λ t from m q. ⊎_elim
      (λ unwritten. unwritten_low (origin_at t p.past) p.disk p.log (durable_in p.disk p.log) (waiting_in p.log) p.pool k q.poised.now.engine unwritten)
      (λ none. let e = none.1 in omega (arith, e))
      is) tell

-- A RECORD THAT MAY BE APPENDED changes what there is,
lies_in : (t : Table) (Means : Type 0) (e : EngineSeen) (u p : ℕ) (says : Says) → IsStepThat (step_by u p says) (IsLoggable t Means e) → LiesIn (record { pages = e.extent.pages; bands = e.extent.bands }) (changed_by says)
lies_in t Means e u p Begin l = tt
lies_in t Means e u p (Changed (Page c)) l = l.there
lies_in t Means e u p (Changed (SegWrite c)) l = l.there
lies_in t Means e u p (Changed (SegOp c)) l = l.there
lies_in t Means e u p (TopEnd w n) l = tt
lies_in t Means e u p (PhysComp w (Page c)) l = l.there
lies_in t Means e u p (PhysComp w (SegWrite c)) l = l.there
lies_in t Means e u p (PhysComp w (SegOp c)) l = l.there
lies_in t Means e u p (TopVoid w) l = tt
lies_in t Means e u p (CompEnd w) l = tt
lies_in t Means e u p (Save m) l = tt
lies_in t Means e u p Commit l = tt
lies_in t Means e u p End l = tt
lies_in t Means e u p (Checkpoint x l) m = tt

pub can_lie : (Given : Type 0) (p : Parts) (t : Table) (Means : Type 0) (r : Record) → CanLog t Means (seen_by Given p) r → Tells Given p.failed → LiesIn (sizes p.pool) (changed_by r.says)
can_lie Given p t Means r can tell = lies_in t Means (seen_by Given p) r.transaction r.previous r.says (can tell)

-- and is a step
plain_by : (P : Step → Type 0) (u p : ℕ) (says : Says) → IsStepThat (step_by u p says) P → is_no_step says ≡ true → ⊥
plain_by P u p Begin l e = cc
plain_by P u p (Changed c) l e = cc
plain_by P u p (TopEnd w n) l e = cc
plain_by P u p (PhysComp w c) l e = cc
plain_by P u p (TopVoid w) l e = cc
plain_by P u p (CompEnd w) l e = cc
plain_by P u p (Save m) l e = cc
plain_by P u p Commit l e = cc
plain_by P u p End l e = cc
plain_by P u p (Checkpoint x l) m e = m

pub can_plain : (Given : Type 0) (p : Parts) (t : Table) (Means : Type 0) (r : Record) → CanLog t Means (seen_by Given p) r → is_no_step r.says ≡ true → Tells Given p.failed → ⊥
can_plain Given p t Means r can is tell = plain_by (IsLoggable t Means (seen_by Given p)) r.transaction r.previous r.says (can tell) is

-- where that is asked for each table, and it stands for some
pub never_marks : (Given : Type 0) (p : Parts) (Means : Type 0) (r : Record) → StandsForSome Given p.failed p.past p.disk p.log p.pool → ((t : Table) (from : State) → StandsBy Given p t from → CanLog t Means (seen_by Given p) r) → is_no_step r.says ≡ true → Tells Given p.failed → ⊥
never_marks Given p Means r some can is tell = ∥∥₁_elim (some tell) empty_prop (λ x. can_plain Given p x.0 Means r (can x.0 x.1 x.2) is tell)

-- A PAGE THAT SAYS SOMETHING is one of the store
pub page_there : (v : View) (pool : Pool) (n : ℕ) → IsSome ((pool_says v pool).pages n) → (n < (sizes pool).pages) × IsSome (leaf_of ((contents v pool).page n))
page_there v pool n h = by (nat_lt n (sizes pool).pages) refl h
  where
    by : (b : Bool) → nat_lt n (sizes pool).pages ≡ b → IsSome (if b then leaf_of ((contents v pool).page n) else None) → (n < (sizes pool).pages) × IsSome (leaf_of ((contents v pool).page n))
    by true is there = (ltb-true n (sizes pool).pages is, there)
    by false is there = absurd cc

-- whether a page says something is whether its bytes are a page of slots
leaf_some : (page : List ℕ) → is_some (leaf_of page) ≡ is_slotted page
leaf_some page = by (is_slotted page)
  where
    by : (b : Bool) → is_some (if b then Some (sheet_of page) else None) ≡ b
    by true = refl
    by false = refl

pub says_page : (v : View) (pool : Pool) (n : ℕ) → n < (sizes pool).pages → is_some ((pool_says v pool).pages n) ≡ is_slotted ((contents v pool).page n)
says_page v pool n lt = ap (λ (b : Bool). is_some (if b then leaf_of ((contents v pool).page n) else None)) (below_test n (sizes pool).pages lt) ∙ leaf_some ((contents v pool).page n)

pub says_none : (v : View) (pool : Pool) (n : ℕ) → (sizes pool).pages ≤ n → is_some ((pool_says v pool).pages n) ≡ false
says_none v pool n past = by (nat_lt n (sizes pool).pages) refl
  where
    by : (b : Bool) → nat_lt n (sizes pool).pages ≡ b → is_some (if b then leaf_of ((contents v pool).page n) else None) ≡ false
    by true is = absurd (let lt = ltb-true n (sizes pool).pages is in omega (arith, lt, past))
    by false is = refl

pub lost_leaf : (page : List ℕ) → is_slotted page ≡ false → IsSome (leaf_of page) → ⊥
lost_leaf page none some = let same = leaf_some page in cc

-- and says the same behind a call that appended nothing
pub page_kept : (Given : Type 0) (p : Parts) (w : View) (log : Tail) (pool : Pool) (n : ℕ) → StandsForSome Given p.failed p.past p.disk p.log p.pool → HasLooked Given p w log pool → HasStood Given p w → (Tells Given p.failed → HasPage (seen_by Given p) n)
    → (IsSome (leaf_of ((contents w pool).page n)) → ⊥) → Tells Given p.failed → ⊥
page_kept Given p w log pool n some did stood has lost tell = ∥∥₁_elim (some tell) empty_prop (λ x.
    let q : Parts = looked p w log pool p.end p.gate in
    let m : StandsBy Given q x.0 x.1 = keeps_look Given p w log pool x.0 x.1 x.2 did in
    let steps : (seen_by Given q).steps ≡ (seen_by Given p).steps = ((looks_ok Given p w log pool x.0 x.1 x.2 p.end p.end p.gate did stood).stays tell).steps in
    let same : pool_says w pool ≡ pool_says p.disk p.pool =
    told_now Given q x.0 x.1 m tell ∙ (ap (λ (rs : Steps). repeated x.0 x.1 rs) steps ∙ sym (told_now Given p x.0 x.1 x.2 tell)) in
    lost (page_there w pool n (subst (λ (s : State). IsSome (s.pages n)) (sym same) (has tell))).1)

-- EACH CHANGE THAT WAS APPENDED is of what there is
on_of : (s : Super) (x : Extent) → s.pages ≡ x.pages → s.bands ≡ x.bands → (c : Changing) → IsIn s c → IsOn x c
on_of s x pages bands (Page c) lt = omega (arith, lt, pages)
on_of s x pages bands (SegWrite c) lt = omega (arith, lt, bands)
on_of s x pages bands (SegOp c) lt = omega (arith, lt, bands)

step_on : (s : Super) (x : Extent) → s.pages ≡ x.pages → s.bands ≡ x.bands → (y : Step) → StepIn s y → StepOn x y
step_on s x pages bands (StepBegin u p) lt = tt
step_on s x pages bands (StepChange u p c) lt = on_of s x pages bands c lt
step_on s x pages bands (StepTopEnd u p w n) lt = tt
step_on s x pages bands (StepPhysComp u p w c) lt = on_of s x pages bands c lt
step_on s x pages bands (StepTopVoid u p w) lt = tt
step_on s x pages bands (StepCompEnd u p w) lt = tt
step_on s x pages bands (StepSave u p m) lt = tt
step_on s x pages bands (StepCommit u p) lt = tt
step_on s x pages bands (StepEnd u p) lt = tt

all_on : (s : Super) (x : Extent) → s.pages ≡ x.pages → s.bands ≡ x.bands → (rs : Steps) → AllIn s rs → AllOn x rs
all_on s x pages bands [] lt = tt
all_on s x pages bands (r ∷ rs) lt = (step_on s x pages bands r.is lt.0, all_on s x pages bands rs lt.1)

on_prop : (x : Extent) (c : Changing) → IsProp (IsOn x c)
on_prop x (Page c) = hlevel props
on_prop x (SegWrite c) = hlevel props
on_prop x (SegOp c) = hlevel props

step_prop : (x : Extent) (y : Step) → IsProp (StepOn x y)
step_prop x (StepBegin u p) = hlevel props
step_prop x (StepChange u p c) = on_prop x c
step_prop x (StepTopEnd u p w n) = hlevel props
step_prop x (StepPhysComp u p w c) = on_prop x c
step_prop x (StepTopVoid u p w) = hlevel props
step_prop x (StepCompEnd u p w) = hlevel props
step_prop x (StepSave u p m) = hlevel props
step_prop x (StepCommit u p) = hlevel props
step_prop x (StepEnd u p) = hlevel props

all_prop : (x : Extent) (rs : Steps) → IsProp (AllOn x rs)
all_prop x [] = hlevel props
all_prop x (r ∷ rs) = let one = step_prop x r.is in let more = all_prop x rs in hlevel (props, one, more)

pub told_on : (Given : Type 0) (p : Parts) → StandsForSome Given p.failed p.past p.disk p.log p.pool → Tells Given p.failed → AllOn (seen_by Given p).extent (seen_by Given p).steps
told_on Given p some tell = by_poised Given p some (all_prop (seen_by Given p).extent (seen_by Given p).steps)
    (λ t from m q.
    let o : Origin = origin_at t p.past in
    let sizes_are = q.poised.now.engine.sizes in
    let pages = sym (ap (λ (g : Geometry). g.pages) sizes_are) in
    let bands = sym (ap (λ (g : Geometry). g.bands) sizes_are) in
    both_on (seen_by Given p).extent (steps_of (all_in_log p.disk p.log)) (steps_of p.past.gone)
    (all_on o.super (seen_by Given p).extent pages bands (steps_of (all_in_log p.disk p.log)) (all_in o t (all_in_log p.disk p.log) (by_past t p.past) q.poised.now.engine.engine.history.there))
    (all_on o.super (seen_by Given p).extent pages bands (steps_of p.past.gone) q.within)) tell
