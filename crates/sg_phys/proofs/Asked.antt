-- What a told engine is asked, in the words of the bytes.
use mathlib.Core.Logic.{∥∥₁_elim, ∥∥₁_prop}
use Rattle.std.proofs.Common.{◌≡◌, inl, inr, ⊎_elim, ◌≤◌, ℕ, max, false, ◌∷◌, ◌++◌, Some, None, refl, sym, ap, ◌∙◌, subst, arith}
use Rattle.sg_log.specs.Held.{tail_of}
use Rattle.sg_ops.specs.Table.{Table}
use Rattle.sg_record.specs.Changes.{Change as Changing}
use Rattle.sg_record.specs.Changes.Change.{Page, SegWrite, SegOp}
use Rattle.sg_record.specs.Records.{Record, Says}
use Rattle.sg_record.specs.Records.Says.{Begin, Changed, TopEnd, PhysComp, TopVoid, CompEnd, Save, Commit, End, Checkpoint}
use Rattle.sg_redo.specs.Places.{changed_by}
use Rattle.sg_places.specs.Asked.{unknown_in}
use Rattle.sg_recovery.specs.Formed.{IsLog}
use Rattle.sg_recovery.specs.Laws.{Each}
use Rattle.sg_recovery.specs.Log.{tally, is_in}
use Rattle.sg_kept.specs.Kept.{IsPoint}
use Rattle.sg_recovery.specs.Log.Record.{Change as StepChange, PhysComp as StepPhysComp}
use Rattle.sg_action.specs.States.{State}
use Rattle.sg_engine.specs.Engine.{Origin}
use Rattle.sg_actions.specs.Engine.{EngineSeen, CanLog, IsOfOpen, IsStepThat, IsLoggable}
use Rattle.sg_actions.specs.Steps.{Steps, step_by, step_of, with_step}
use Rattle.sg_phys_laws.specs.Known.{IsEnough}
use Rattle.sg_phys_laws.specs.Logged.{IsAsked, IsFor}
use Rattle.sg_phys_laws.specs.Reading.{durable_in, waiting_in}
use Rattle.sg_phys_laws.specs.States.{state_of, steps_of, homes_of}
use Rattle.sg_phys_laws.proofs.Cutting.{for_cut}
use Rattle.sg_phys_laws.proofs.Enough.{all_enough_whole}
use Rattle.sg_phys_laws.proofs.Known.{page_known, range_known, open_known}
use Rattle.sg_phys_laws.proofs.Poised.{all_in_log}
use Rattle.sg_phys_laws.proofs.Sets.{code_set}
use Rattle.sg_phys.specs.Phys.{Parts, IsBehind, StandsBy, origin_at, seen_by}
use Rattle.sg_phys.proofs.Behind.{point_here, says_all, step_kept}
use Rattle.sg_phys.proofs.Images.{by_past}
use Rattle.sg_phys.proofs.Told.{pool_is}

module _ (own given : Table) (Means : Type 0) (e : EngineSeen) (same : Means → given ≡ own) where
  changed : (u p : ℕ) (c : Changing) → IsLoggable own Means e (StepChange u p c) → IsFor own given e.now (Some c)
  changed u p (Page c) l = record { fits = l.fits; means = λ uses. same (l.means uses) }
  changed u p (SegWrite c) l = tt
  changed u p (SegOp c) l = λ other. same (l.means other)

  off : (u p w : ℕ) (c : Changing) → IsLoggable own Means e (StepPhysComp u p w c) → IsFor own given e.now (Some c)
  off u p w (Page c) l = record { fits = l.fits; means = λ uses. same (l.means uses) }
  off u p w (SegWrite c) l = tt
  off u p w (SegOp c) l = λ other. same (l.means other)

  by_says : (u p : ℕ) (says : Says) → IsStepThat (step_by u p says) (IsLoggable own Means e) → IsFor own given e.now (changed_by says)
  by_says u p Begin l = tt
  by_says u p (Changed c) l = changed u p c l
  by_says u p (TopEnd w n) l = tt
  by_says u p (PhysComp w c) l = off u p w c l
  by_says u p (TopVoid w) l = tt
  by_says u p (CompEnd w) l = tt
  by_says u p (Save m) l = tt
  by_says u p Commit l = tt
  by_says u p End l = tt
  by_says u p (Checkpoint x l) m = tt

-- THE OPERATION OF A STEP that may be appended is registered, where enough is for the records before it: its change fits its page, or it is said
-- of it, or it is that of the last open change
module _ (Given : Type 0) (p : Parts) (own : Table) (from : State) (Means : Type 0) (q : IsBehind own from p.past p.disk p.log p.pool) where
  enough : IsEnough own p.past.super.base (all_in_log p.disk p.log)
  enough = all_enough_whole own p.past.super.base (durable_in p.disk p.log) (waiting_in p.log) q.poised.enough

  -- what is said of the log with what is gone is said of the log that it has
  opened_here : (c : Changing) (k : IsOfOpen (seen_by Given p) c) → IsPoint p.past.super.base (tally (steps_of (all_in_log p.disk p.log))) → unknown_in own (Some c) ≡ None
  opened_here c k at =
      let rs : Steps = steps_of (all_in_log p.disk p.log) in
      let gone : Steps = steps_of p.past.gone in
      let same : tally (rs ++ gone) ≡ tally rs = sym (says_all own from p.past p.disk p.log p.pool q) in
      let last : (tally rs).opened ≡ k.change ∷ k.others = ap (λ y. y.opened) (sym same) ∙ k.last in
      let high : p.past.super.base ≤ k.change.lsn = (subst (λ ds. Each (λ d. p.past.super.base ≤ d.lsn) ds) last at.opened).0 in
      open_known own p.past.super.base (all_in_log p.disk p.log) k.change k.others k.previous c last
      (⊎_elim (λ zero. inl zero) (λ live. inr (ap (λ y. is_in k.change.transaction y.live) (sym same) ∙ live)) k.goes_on) enough
      (sym (step_kept p.past.super.base rs gone k.change.lsn high q.below) ∙ k.stands)

  known_change : (u r : ℕ) (c : Changing) → IsLoggable own Means (seen_by Given p) (StepChange u r c) → unknown_in own (Some c) ≡ None
  known_change u r (Page c) l = page_known own c ((seen_by Given p).now.pages c.page) l.fits
  known_change u r (SegWrite c) l = refl
  known_change u r (SegOp c) l = range_known own c l.known

  known_off : (u r w : ℕ) (c : Changing) → IsLoggable own Means (seen_by Given p) (StepPhysComp u r w c) → unknown_in own (Some c) ≡ None
  known_off u r w (Page c) l = page_known own c ((seen_by Given p).now.pages c.page) l.fits
  known_off u r w (SegWrite c) l = refl
  known_off u r w (SegOp c) l = ∥∥₁_elim l.known (code_set (unknown_in own (Some (SegOp c))) None)
      (λ k. ∥∥₁_elim (point_here own from p.past p.disk p.log p.pool q) (code_set (unknown_in own (Some (SegOp c))) None) (λ at. opened_here (SegOp c) k at))

  known_by : (u r : ℕ) (says : Says) → IsStepThat (step_by u r says) (IsLoggable own Means (seen_by Given p)) → unknown_in own (changed_by says) ≡ None
  known_by u r Begin l = refl
  known_by u r (Changed c) l = known_change u r c l
  known_by u r (TopEnd w n) l = refl
  known_by u r (PhysComp w c) l = known_off u r w c l
  known_by u r (TopVoid w) l = refl
  known_by u r (CompEnd w) l = refl
  known_by u r (Save m) l = refl
  known_by u r Commit l = refl
  known_by u r End l = refl
  known_by u r (Checkpoint x l) m = refl

-- WHAT IS ASKED OF WHAT IT SHOWS is asked of the bytes
pub asked : (Given : Type 0) (p : Parts) (t given : Table) (from : State) (Means : Type 0) (r : Record) → p.failed ≡ false → (Means → given ≡ t) → CanLog t Means (seen_by Given p) r → StandsBy Given p t from
    → Given → IsBehind t from p.past p.disk p.log p.pool → IsAsked t given (origin_at t p.past) p.disk p.log (durable_in p.disk p.log) (waiting_in p.log) p.pool r
asked Given p t given from Means r whole same can stands tells behind =
    let o : Origin = origin_at t p.past in
    record {
      phys = behind.poised.now;
      by = by_past t p.past;
      lawful = stands.lawful;
      fits = for_cut t given o.super (state_of (homes_of o (all_in_log p.disk p.log))) (changed_by r.says)
          (subst (λ (x : State). IsFor t given x (changed_by r.says)) (pool_is o p.disk p.log p.pool (durable_in p.disk p.log) (waiting_in p.log) behind.poised.now.engine)
          (by_says t given Means (seen_by Given p) same r.transaction r.previous r.says (can (record { tells = tells; whole = whole }))));
      registered = known_by Given p t from Means behind r.transaction r.previous r.says (can (record { tells = tells; whole = whole }));
    }

-- AND THE LOG IS FORMED with the record, whatever number from the end on it has
formed_says : (own : Table) (Means : Type 0) (e : EngineSeen) (lsn u p : ℕ) (says : Says) → IsStepThat (step_by u p says) (IsLoggable own Means e) → e.tail ≤ lsn → (says ≡ Begin → lsn ≡ e.next Begin) → ∥ IsLog e.base (with_step e.steps lsn (step_by u p says)) ∥₁
formed_says own Means e lsn u p Begin l le is = ∥∥₁_elim l.formed ∥∥₁_prop (λ f. ∣ f lsn le (is refl) ∣₁)
formed_says own Means e lsn u p (Changed c) l le is = ∥∥₁_elim l.formed ∥∥₁_prop (λ f. ∣ f lsn le tt ∣₁)
formed_says own Means e lsn u p (TopEnd w n) l le is = ∥∥₁_elim l.formed ∥∥₁_prop (λ f. ∣ f lsn le tt ∣₁)
formed_says own Means e lsn u p (PhysComp w c) l le is = ∥∥₁_elim l.formed ∥∥₁_prop (λ f. ∣ f lsn le tt ∣₁)
formed_says own Means e lsn u p (TopVoid w) l le is = ∥∥₁_elim l.formed ∥∥₁_prop (λ f. ∣ f lsn le tt ∣₁)
formed_says own Means e lsn u p (CompEnd w) l le is = ∥∥₁_elim l.formed ∥∥₁_prop (λ f. ∣ f lsn le tt ∣₁)
formed_says own Means e lsn u p (Save m) l le is = ∥∥₁_elim l.formed ∥∥₁_prop (λ f. ∣ f lsn le tt ∣₁)
formed_says own Means e lsn u p Commit l le is = ∥∥₁_elim l.formed ∥∥₁_prop (λ f. ∣ f lsn le tt ∣₁)
formed_says own Means e lsn u p End l le is = ∥∥₁_elim l.formed ∥∥₁_prop (λ f. ∣ f lsn le tt ∣₁)
formed_says own Means e lsn u p (Checkpoint x live) l le is = absurd l

pub formed_by : (Given : Type 0) (p : Parts) (t : Table) (Means : Type 0) (r : Record) (lsn : ℕ) → p.failed ≡ false → CanLog t Means (seen_by Given p) r → max p.end (tail_of p.log) ≤ lsn → (r.says ≡ Begin → lsn ≡ (seen_by Given p).next Begin) → Given
    → (tail_of p.log ≤ lsn) × ∥ IsLog (seen_by Given p).base (with_step (seen_by Given p).steps lsn (step_of r)) ∥₁
formed_by Given p t Means r lsn whole can le is tells =
    (omega (arith, le), formed_says t Means (seen_by Given p) lsn r.transaction r.previous r.says (can (record { tells = tells; whole = whole })) (omega (arith, le)) is)
